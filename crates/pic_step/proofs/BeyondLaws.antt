-- No path from the box reaches beyond the layer under the grid and the two layers over it.
use Rattle.std.proofs.Common.{◌≡◌, ℕ, ◌<◌, inl, inr, false, List, [], ◌∷◌, Result, Ok, Err, refl, sym, ◌∙◌, arith}
use Rattle.std.proofs.Math.IntN.{ℤ, pos, ◌+ℤ◌, ◌-ℤ◌, ◌*ℤ◌}
use Rattle.std.specs.Prelude.{unsigned_abs, All}
use Rattle.std.proofs.lemmas.List.Elements.{All-head, All-tail}
use Rattle.std.proofs.lemmas.Bool.Decides.{nat_tests}
use Rattle.std.proofs.lemmas.Int.{ints}
use Rattle.pic_grid.proofs.ApartLaws.{when_false, when_zero, no_first, no_second}
use Rattle.pic_num.specs.declared.motion.Particle.{Particle}
use Rattle.pic_num.specs.declared.axis.Axis.{Axis}
use Rattle.pic_num.specs.declared.axis.Axis.TheVariants.{X, Y, Z}
use Rattle.pic_num.specs.Push.{Shift, Halting, plus}
use Rattle.pic_num.specs.Space.{Triple, Spot, triple, unwrapped}
use Rattle.pic_num.proofs.Ring.{ring, reads}
use Rattle.pic_grid.specs.Current.{wrapped, flux_after, current}
use Rattle.pic_grid.specs.Flux.{flux, path_flux}
use Rattle.pic_grid.specs.Hat.{hat, IsInBox}
use Rattle.pic_grid.specs.Path.{floor_cell, same_int}
use Rattle.pic_grid.specs.Segment.{Piece, IsInside, IsInCell, Leads, arrived, onward}
use Rattle.pic_grid.specs.PushPhase.{Surroundings, kind_of, push_of, CanShare}
use Rattle.pic_grid.specs.Sums.{sum_over}
use Rattle.pic_grid.proofs.OverLaws.{sum_over_same}
use Rattle.pic_split.proofs.LeadLaws.{path_leads}
use Rattle.pic_grid.proofs.TwoHatLaws.{only, only_below, only_above, two_hats}
use Rattle.pic_split.proofs.ImageHatLaws.{IsNear}
use Rattle.pic_split.proofs.ImageLaws.{wrapped-zero, wrapped-over}
use Rattle.pic_split.proofs.ContinuityLaws.{IsNearGrid, near_cell, near_start, near_end}
use Rattle.pic_grid.specs.Traces.{trace_of, traces, IsBeyond}
use Rattle.pic_push.proofs.PushLaws.{push_move}

-- an edge beyond is neither that of a near cell nor the next one
only_beyond : (n : ℕ) (c j : ℤ) → IsNear n c → IsBeyond n j → (only c j ≡ pos 0) × (only (c +ℤ pos 1) j ≡ pos 0)
only_beyond n c j near (inl low) = let l = near.low in (only_below c j (omega (arith, ints, low, l)), only_below (c +ℤ pos 1) j (omega (arith, ints, low, l)))
only_beyond n c j near (inr high) = let h = near.high in
    (only_above c j (omega (arith, ints, high, h)), only_above (c +ℤ pos 1) j (omega (arith, ints, high, h)))

no_weight : (u v : ℤ) → pos 0 *ℤ u +ℤ pos 0 *ℤ v ≡ pos 0
no_weight u v = ring (u ∷ v ∷ []) (search reads depth 10) tt

-- the weight of a point of a near cell for a place beyond
hat_beyond : (side n : ℕ) (c p j : ℤ) → IsNear n c → IsInside side c p → IsBeyond n j → hat side p (j *ℤ pos side) ≡ pos 0
hat_beyond side n c p j near inside beyond =
    let both = only_beyond n c j near beyond in
    let u = c *ℤ pos side +ℤ pos side -ℤ p in
    let v = p -ℤ c *ℤ pos side in
    two_hats side c p j inside ∙ (λ i. both.0 i *ℤ u +ℤ both.1 i *ℤ v) ∙ no_weight u v

-- the edge of another cell
other_cell : (n : ℕ) (c j : ℤ) → IsNear n c → IsBeyond n j → same_int j c ≡ false
unfolding same_int
other_cell n c j near (inl low) = let l = near.low in let some : 0 < unsigned_abs (j -ℤ c) = omega (arith, ints, low, l) in grind (arith, nat_tests)
other_cell n c j near (inr high) = let h = near.high in let some : 0 < unsigned_abs (j -ℤ c) = omega (arith, ints, high, h) in grind (arith, nat_tests)

-- a piece has no flux through an edge that is beyond on x
flux_beyond_x : (side : ℕ) (n : Triple) (q : ℤ) (s : Piece) (a : Axis) (c : Spot) → IsNearGrid n s.cell → IsInCell side s → IsBeyond n.x c.x
    → flux side q s a c ≡ pos 0
unfolding flux
flux_beyond_x side n q s X c near at beyond = when_false _ _ (other_cell n.x s.cell.x c.x near.x beyond)
flux_beyond_x side n q s Y c near at beyond = when_zero _ _ (no_second q _ _ _ _ _
    (hat_beyond side n.x s.cell.x s.from.x c.x near.x (at.from X) beyond) (hat_beyond side n.x s.cell.x s.to.x c.x near.x (at.to X) beyond))
flux_beyond_x side n q s Z c near at beyond = when_zero _ _ (no_first q _ _ _ _ _
    (hat_beyond side n.x s.cell.x s.from.x c.x near.x (at.from X) beyond) (hat_beyond side n.x s.cell.x s.to.x c.x near.x (at.to X) beyond))

flux_beyond_y : (side : ℕ) (n : Triple) (q : ℤ) (s : Piece) (a : Axis) (c : Spot) → IsNearGrid n s.cell → IsInCell side s → IsBeyond n.y c.y
    → flux side q s a c ≡ pos 0
unfolding flux
flux_beyond_y side n q s Y c near at beyond = when_false _ _ (other_cell n.y s.cell.y c.y near.y beyond)
flux_beyond_y side n q s Z c near at beyond = when_zero _ _ (no_second q _ _ _ _ _
    (hat_beyond side n.y s.cell.y s.from.y c.y near.y (at.from Y) beyond) (hat_beyond side n.y s.cell.y s.to.y c.y near.y (at.to Y) beyond))
flux_beyond_y side n q s X c near at beyond = when_zero _ _ (no_first q _ _ _ _ _
    (hat_beyond side n.y s.cell.y s.from.y c.y near.y (at.from Y) beyond) (hat_beyond side n.y s.cell.y s.to.y c.y near.y (at.to Y) beyond))

flux_beyond_z : (side : ℕ) (n : Triple) (q : ℤ) (s : Piece) (a : Axis) (c : Spot) → IsNearGrid n s.cell → IsInCell side s → IsBeyond n.z c.z
    → flux side q s a c ≡ pos 0
unfolding flux
flux_beyond_z side n q s Z c near at beyond = when_false _ _ (other_cell n.z s.cell.z c.z near.z beyond)
flux_beyond_z side n q s X c near at beyond = when_zero _ _ (no_second q _ _ _ _ _
    (hat_beyond side n.z s.cell.z s.from.z c.z near.z (at.from Z) beyond) (hat_beyond side n.z s.cell.z s.to.z c.z near.z (at.to Z) beyond))
flux_beyond_z side n q s Y c near at beyond = when_zero _ _ (no_first q _ _ _ _ _
    (hat_beyond side n.z s.cell.z s.from.z c.z near.z (at.from Z) beyond) (hat_beyond side n.z s.cell.z s.to.z c.z near.z (at.to Z) beyond))

-- what is 0 for each near piece is 0 along a path
along_path : (side : ℕ) (n : Triple) (c e : Spot) (f : Piece → ℤ) → IsNearGrid n c → IsNearGrid n e
    → ((s : Piece) → IsNearGrid n s.cell → IsInCell side s → f s ≡ pos 0)
    → {p : Spot} → {ss : List Piece} → {r : Spot} → Leads side c e p ss r → sum_over f ss ≡ pos 0
unfolding sum_over
along_path side n c e f of_c of_e zeros arrived = refl
along_path side n c e f of_c of_e zeros (onward s at of rest) =
    (λ i. zeros s (near_cell n c e s of_c of_e of) at i +ℤ along_path side n c e f of_c of_e zeros rest i)

-- the flux of a push where that of every near piece is 0
trace_none : (w : Surroundings) (particle : Particle) (r : Result Shift Halting) (a : Axis) (c : Spot) → push_of w particle ≡ r → 0 < w.side
    → IsInBox w.side w.cells (triple particle.x)
    → ((q : ℤ) (s : Piece) → IsNearGrid w.cells s.cell → IsInCell w.side s → flux w.side q s a c ≡ pos 0) → trace_of w.side w.kinds particle r a c ≡ pos 0
unfolding trace_of path_flux
trace_none w particle (Err h) a c is above inside zeros = refl
trace_none w particle (Ok s) a c is above inside zeros =
    let move = push_move w particle s is in
    let start = unwrapped (triple particle.x) in
    along_path w.side w.cells (floor_cell w.side start) (floor_cell w.side (plus start s.d)) (λ t. flux w.side (kind_of w.kinds particle).charge t a c)
    (near_start w.side w.cells (triple particle.x) above inside) (near_end w.side w.cells (triple particle.x) s.d above inside move)
    (zeros (kind_of w.kinds particle).charge)
    (path_leads w.side start s.d above move)

traces_none : (w : Surroundings) (particles : List Particle) (a : Axis) (c : Spot) → 0 < w.side
    → All (CanShare w.side w.cells w.kinds) particles
    → ((q : ℤ) (s : Piece) → IsNearGrid w.cells s.cell → IsInCell w.side s → flux w.side q s a c ≡ pos 0) → traces w particles a c ≡ pos 0
unfolding traces sum_over
traces_none w [] a c above each zeros = refl
traces_none w (particle ∷ particles) a c above each zeros =
    (λ i. trace_none w particle (push_of w particle) a c refl above (All-head (CanShare w.side w.cells w.kinds) particle particles each).place zeros i
    +ℤ traces_none w particles a c above (All-tail (CanShare w.side w.cells w.kinds) particle particles each) zeros i)

-- the flux of all particles is 0 beyond
pub traces_beyond_x : (w : Surroundings) (particles : List Particle) (a : Axis) (c : Spot) → 0 < w.side → All (CanShare w.side w.cells w.kinds) particles
    → IsBeyond w.cells.x c.x → traces w particles a c ≡ pos 0
traces_beyond_x w particles a c above all beyond = traces_none w particles a c above all (λ q s near at. flux_beyond_x w.side w.cells q s a c near at beyond)

pub traces_beyond_y : (w : Surroundings) (particles : List Particle) (a : Axis) (c : Spot) → 0 < w.side → All (CanShare w.side w.cells w.kinds) particles
    → IsBeyond w.cells.y c.y → traces w particles a c ≡ pos 0
traces_beyond_y w particles a c above all beyond = traces_none w particles a c above all (λ q s near at. flux_beyond_y w.side w.cells q s a c near at beyond)

pub traces_beyond_z : (w : Surroundings) (particles : List Particle) (a : Axis) (c : Spot) → 0 < w.side → All (CanShare w.side w.cells w.kinds) particles
    → IsBeyond w.cells.z c.z → traces w particles a c ≡ pos 0
traces_beyond_z w particles a c above all beyond = traces_none w particles a c above all (λ q s near at. flux_beyond_z w.side w.cells q s a c near at beyond)

flux_is : (w : Surroundings) (particle : Particle) (a : Axis) (p : Triple) (r : Result Shift Halting)
    → flux_after w.side w.cells w.kinds particle a p r ≡ wrapped w.cells (trace_of w.side w.kinds particle r a) p
unfolding flux_after trace_of
flux_is w particle a p (Ok s) = refl
flux_is w particle a p (Err h) = sym (wrapped-zero w.cells p)

-- the current of all particles is their flux, wrapped
pub current_is : (w : Surroundings) (particles : List Particle) (a : Axis) (p : Triple) → current w particles a p ≡ wrapped w.cells (traces w particles a) p
unfolding current traces
current_is w particles a p =
    sum_over_same (λ particle. flux_after w.side w.cells w.kinds particle a p (push_of w particle))
    (λ particle. wrapped w.cells (trace_of w.side w.kinds particle (push_of w particle) a) p) particles
    (λ particle. flux_is w particle a p (push_of w particle))
    ∙ sym (wrapped-over w.cells (λ particle. trace_of w.side w.kinds particle (push_of w particle) a) particles p)
