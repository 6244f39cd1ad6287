-- The state of a pair is sound: nothing is there but two charges that cancel.
use Rattle.std.proofs.Common.{◌≡◌, ℕ, zero, suc, ◌*◌, ◌/◌, ◌^◌, ◌<◌, ◌≤◌, List, [], ◌∷◌, replicate, inl, inr, refl, sym, ap, ◌∙◌, subst, rules, arith}
use Rattle.std.proofs.Math.IntN.{ℤ, pos, negsuc, ◌+ℤ◌, ◌-ℤ◌, ◌*ℤ◌}
use Rattle.std.specs.Prelude.{◌≤ℤ◌, ◌<ℤ◌, All}
use Rattle.std.proofs.lemmas.Bool.{cases_lt}
use Rattle.std.proofs.lemmas.Int.{ints, to_z_pos, to_z-of_z}
use Rattle.std.proofs.lemmas.List.{get_or-replicate, get_or_past, length-replicate}
use mir.Syntax.{w32}
use mir.Val.{SFits, to_z}
use Rattle.pic_num.specs.Limits.{most_force, least_side, most_side, most_loops}
use Rattle.pic_num.specs.declared.axis.Axis.{Axis}
use Rattle.pic_num.specs.declared.axis.Axis.TheVariants.{X, Y, Z}
use Rattle.pic_num.specs.declared.motion.Kind.{Kind}
use Rattle.pic_num.specs.declared.motion.Particle.{Particle}
use Rattle.pic_num.specs.declared.mult.Scales.{Scales}
use Rattle.pic_num.specs.Multiplier.{Multiplier}
use Rattle.pic_num.specs.Rounding.{scaled}
use Rattle.pic_num.specs.Sizes.{IsAtMost}
use Rattle.pic_num.specs.Space.{Triple, triple, spot, along}
use Rattle.pic_num.specs.Velocity.{too_fast, IsKeptVelocity}
use Rattle.pic_num.proofs.RoundingLaws.{rounded-unique, power_above_zero}
use Rattle.pic_block.specs.Cells.{Grid, count_of, place_of}
use Rattle.pic_grid.specs.Differences.{div_e, down}
use Rattle.pic_grid.specs.Hat.{weight}
use Rattle.pic_grid.specs.declared.loops.Loop.{Loop}
use Rattle.pic_grid.specs.Lattice.{Field, value_at}
use Rattle.pic_grid.specs.Loops.{AreLoops}
use Rattle.pic_grid.specs.Parts.{one_part, layered}
use Rattle.pic_grid.specs.PushPhase.{CanShare}
use Rattle.pic_grid.specs.Species.{IsKind}
use Rattle.pic_grid.specs.Sums.{sum_over}
use Rattle.pic_filter.specs.Smoothing.{filtered}
use Rattle.pic_charge.specs.Charge.{share, charge_of, rho_of}
use Rattle.pic_charge.specs.Gauss.{MeetsGauss}
use Rattle.pic_field.specs.FieldPhases.{IsBounded}
use Rattle.pic_tile.specs.Frame.{AreKinds}
use Rattle.pic_tile.specs.Tiling.{Tiling, cells_of, grid_of_tiling}
use Rattle.pic_step.specs.Kept.{IsCut}
use Rattle.pic_step.specs.SerialStep.{world_of}
use Rattle.pic_step.specs.Sound.{IsSafe, IsSound}
use Rattle.pic_board_tests.proofs.steps.pair_of.Goals as goal

-- zeros, and a lattice of them
abbrev zero_values : Triple → List ℤ
zero_values n = replicate (3 * count_of n) (pos 0)

abbrev zeros : ℕ → Triple → Field
zeros side n = record { cells = n; side = side; parts = one_part; values = zero_values n }

zeros_at : (side : ℕ) (n : Triple) (a : Axis) (p : Triple) → value_at (zeros side n) a p ≡ pos 0
zeros_at side n a p = elim (cases_lt (place_of n a p) (3 * count_of n)) [
  | inl below ↦ get_or-replicate (3 * count_of n) (place_of n a p) (pos 0) (pos 0) below
  | inr past ↦ get_or_past (zero_values n) (place_of n a p) (pos 0) (omega (arith, past, length-replicate (3 * count_of n) (pos 0)))
]

zero_scaled : (by : Multiplier) → pos 0 ≡ scaled (pos 0) by
unfolding scaled
zero_scaled by =
    let above = power_above_zero by.k in
    rounded-unique (pos 0 *ℤ by.n) (pos (2 ^ by.k)) (pos 0) above (record { above = omega (arith, ints, above); below = omega (arith, ints, above) })

zero_bounded : (by : Multiplier) → IsBounded by (pos 0)
zero_bounded by = record {
  value = record { size = omega (arith, ints) };
  force = subst (λ (v : ℤ). IsAtMost v most_force) (zero_scaled by) (record { size = omega (arith, ints) });
}

zeros_safe : (side : ℕ) (n : Triple) (by : Multiplier) → IsSafe by (zeros side n)
zeros_safe side n by = record { bounded = λ a p w. subst (IsBounded by) (sym (zeros_at side n a p)) (zero_bounded by) }

-- the two charges stand on one place
pair_gauss : (side : ℕ) (n : Triple) (a b : Kind) (x : List ℕ) (u w : List ℤ) → a.charge ≡ pos 1 → b.charge ≡ negsuc 0
    → MeetsGauss side 0 n (a ∷ b ∷ []) (record { id = 0; species = 0; x = x; v = u } ∷ record { id = 1; species = 1; x = x; v = w } ∷ []) (zeros side n)
unfolding rho_of filtered charge_of sum_over share
pair_gauss side n a b x u w of_a of_b = record {
  at_node = λ p within.
      let none : (c : Axis) (q : Triple) → value_at (zeros side n) c q ≡ pos 0 = λ c q. zeros_at side n c q in
      let still : div_e n (value_at (zeros side n)) p ≡ pos 0 =
      λ t. none X p t -ℤ none X (down n X p) t +ℤ none Y p t -ℤ none Y (down n Y p) t +ℤ none Z p t -ℤ none Z (down n Z p) t in
      let at = weight side n (triple x) p in
      let one = ap (λ (q : ℤ). pos 12 *ℤ q *ℤ pos at) of_a in
      let other = ap (λ (q : ℤ). pos 12 *ℤ q *ℤ pos at) of_b in
      still ∙ omega (arith, ints, one, other);
}

-- the grid, and the particles at q, of which the second has the velocity v along x
abbrev four : Triple
four = record { x = 4; y = 4; z = 4 }

abbrev pair : ℕ → ℤ → List Particle
pair q v =
    record { id = 0; species = 0; x = q ∷ 0 ∷ 0 ∷ []; v = pos 0 ∷ pos 0 ∷ pos 0 ∷ [] }
    ∷ record { id = 1; species = 1; x = q ∷ 0 ∷ 0 ∷ []; v = v ∷ pos 0 ∷ pos 0 ∷ [] } ∷ []

two : {A : Type 0} (P : A → Type 0) (x y : A) → P x → P y → All P (x ∷ y ∷ [])
two P x y p q zero d below = p
two P x y p q (suc zero) d below = q
two P x y p q (suc (suc i)) d below = absurd (omega (arith, below))

is_kind : (k : Kind) → negsuc 32767 ≤ℤ k.charge → k.charge ≤ℤ pos 32767 → k.mass ≡ 1 → IsKind k
is_kind k low high one = record { charge_low = low; charge_high = high; mass_low = omega (arith, one); mass_high = omega (arith, one) }

pair_kinds : (a b : Kind) → a.charge ≡ pos 1 → a.mass ≡ 1 → b.charge ≡ negsuc 0 → b.mass ≡ 1 → AreKinds (a ∷ b ∷ [])
pair_kinds a b a_is a_one b_is b_one = record {
  few = omega arith;
  limits = two IsKind a b
      (is_kind a (omega (arith, ints, a_is)) (omega (arith, ints, a_is)) a_one) (is_kind b (omega (arith, ints, b_is)) (omega (arith, ints, b_is)) b_one);
}

kept : (side : ℕ) (v : ℤ) → (pos 0 ≤ℤ v) → (v <ℤ pos (4096 * side)) → IsKeptVelocity side (record { x = v; y = pos 0; z = pos 0 })
kept side v low high = record { least = least; most = most }
  where
    least : (a : Axis) → (pos 0 -ℤ pos (too_fast side)) ≤ℤ along a (record { x = v; y = pos 0; z = pos 0 })
    least X = omega (arith, ints, low)
    least Y = omega (arith, ints)
    least Z = omega (arith, ints)

    most : (a : Axis) → along a (record { x = v; y = pos 0; z = pos 0 }) <ℤ pos (too_fast side)
    most X = omega (arith, ints, high)
    most Y = omega (arith, ints)
    most Z = omega (arith, ints)

pair_sound : (loops : List Loop) (side q : ℕ) (v : ℤ) (scales : Scales) (a b : Kind) → AreLoops four most_loops loops
    → least_side ≤ side → side ≤ most_side → q < 4 * side → pos 0 ≤ℤ v → v <ℤ pos (4096 * side)
    → a.charge ≡ pos 1 → a.mass ≡ 1 → b.charge ≡ negsuc 0 → b.mass ≡ 1
    → IsSound (world_of 41 (record { n = four; side = side }) 0 loops scales (a ∷ b ∷ []) (zero_values four) (zero_values four) (pair q v))
pair_sound loops side q v scales a b within least most at low high a_is a_one b_is b_one = record {
  reached = omega arith;
  side_least = least;
  side_most = most;
  cells = record { x_least = omega arith; x_most = omega arith; y_least = omega arith; y_most = omega arith; z_least = omega arith; z_most = omega arith };
  filter = omega arith;
  loops = within;
  e = zeros_safe side four scales.e_force;
  b = zeros_safe side four scales.b_force;
  kinds = pair_kinds a b a_is a_one b_is b_one;
  few = omega arith;
  ordered = record { identities = refl };
  places = two (CanShare side four (a ∷ b ∷ [])) _ _
      (record { species = omega arith; place = record { x = at; y = omega (arith, at); z = omega (arith, at) } })
      (record { species = omega arith; place = record { x = at; y = omega (arith, at); z = omega (arith, at) } });
  velocities = two (λ particle. IsKeptVelocity side (spot particle.v)) _ _
      (kept side (pos 0) (omega (arith, ints)) (omega (arith, ints, least))) (kept side v low high);
  gauss = pair_gauss side four a b (q ∷ 0 ∷ 0 ∷ []) _ _ a_is b_is;
}

-- a lattice of zeros with a part for each layer of z is cut as a state's
zeros_cut : (grid : Grid) (m : Tiling) (parts : Triple) (f : Field)
    → f ≡ record { cells = grid.n; side = grid.side; parts = parts; values = zero_values grid.n } → grid_of_tiling m ≡ grid → parts ≡ layered (cells_of m)
    → IsCut m f
zeros_cut grid m parts f is of_grid layers = record {
  cells = ap (λ (k : Field). k.cells) is ∙ sym (ap (λ (h : Grid). h.n) of_grid);
  side = ap (λ (k : Field). k.side) is ∙ sym (ap (λ (h : Grid). h.side) of_grid);
  parts = ap (λ (k : Field). k.parts) is ∙ layers;
}

pub from_vec-kinds-requires : goal.from_vec-kinds-requires
from_vec-kinds-requires c =
    subst AreKinds (sym c.in_ok-from_slice.ensures.items)
    (pair_kinds c.kind_of.result c.kind_of-2.result c.kind_of.ensures.charge c.kind_of.ensures.mass c.kind_of-2.ensures.charge c.kind_of-2.ensures.mass)

pub begin-requires-clause-cut : goal.begin-requires-clause-cut
begin-requires-clause-cut c =
    let m = c.new-map.result in
    let grid = c.new-map.ensures.cells in
    let layers = sym (ap (λ (h : Grid). layered h.n) (grid ∙ c.new-cells.ensures)) in
    record {
      of_e = zeros_cut c.new-cells.result m _ c.in_ok-e.e c.in_ok-e.ensures grid layers;
      of_b = zeros_cut c.new-cells.result m _ c.in_ok-b.b c.in_ok-b.ensures grid layers;
    }

pub begin-requires-clause-sound : goal.begin-requires-clause-sound
begin-requires-clause-sound c =
    let cells = c.new-cells.ensures in
    let side = c.side-side.ensures in
    let q = c.side-side.result / 4 in
    let s = c.side-side.result in
    let signed : to_z w32 s ≡ pos s = to_z_pos w32 s (omega (arith, side.value, side.most)) in
    let fits : SFits w32 (to_z w32 s *ℤ pos 2048) = search rules in
    let product : pos s *ℤ pos 2048 ≡ pos (s * 2048) = omega (arith, ints) in
    let moves = to_z-of_z w32 (to_z w32 s *ℤ pos 2048) fits ∙ (λ i. signed i *ℤ pos 2048) ∙ product in
    let none = c.new-none.result in
    let scales : Scales = record { e_to_b = none; b_to_e = none; e_force = none; b_force = none } in
    let sound = pair_sound c.args.loops c.args.sub q (pos (s * 2048)) scales c.kind_of.result c.kind_of-2.result c.requires side.least side.most
    (omega (arith, side.value, side.least)) (omega (arith, ints)) (omega (arith, ints, side.value, side.least))
    c.kind_of.ensures.charge c.kind_of.ensures.mass c.kind_of-2.ensures.charge c.kind_of-2.ensures.mass in
    let zero = ap (λ (g : Grid). zero_values g.n) cells in
    let e = ap (λ (f : Field). f.values) c.in_ok-e.ensures ∙ zero in
    let b = ap (λ (f : Field). f.values) c.in_ok-b.ensures ∙ zero in
    let kinds = c.from_vec-kinds.ensures ∙ c.in_ok-from_slice.ensures.items in
    let particles = c.in_ok-particles.ensures.items ∙ ap (pair q) moves in
    let grid = c.new-map.ensures.cells ∙ cells in
    subst IsSound (sym (λ i. world_of 41 (grid i) 0 c.args.loops scales (kinds i) (e i) (b i) (particles i))) sound
