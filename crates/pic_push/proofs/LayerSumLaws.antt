-- The flux of a particle stays by the particle's tile, and so the layers of all tiles make the current.
use Rattle.std.proofs.Common.{◌≡◌, ℕ, ◌*◌, ◌/◌, ◌<◌, ◌≤◌, inl, inr, Result, Ok, Err, refl, sym, ◌∙◌, ap, subst, arith}
use Rattle.std.proofs.Math.IntN.{ℤ, pos, ◌+ℤ◌, ◌-ℤ◌}
use Rattle.std.specs.Prelude.{◌≤ℤ◌, unsigned_abs}
use Rattle.std.proofs.lemmas.Int.{ints}
use Rattle.std.proofs.lemmas.List.Elements.{All-weaker}
use Rattle.pic_block.specs.Block.{outer_of}
use Rattle.pic_block.specs.Cells.{cell_of}
use Rattle.pic_grid.proofs.PartLaws.{low_end, high_end}
use Rattle.pic_num.specs.declared.axis.Axis.{Axis}
use Rattle.pic_num.specs.declared.axis.Axis.TheVariants.{X, Y, Z}
use Rattle.pic_num.specs.declared.motion.Particle.{Particle}
use Rattle.pic_num.specs.Push.{Shift, Halting, plus}
use Rattle.pic_num.specs.Space.{Triple, Spot, triple, unwrapped, along, AreAtMost}
use Rattle.pic_grid.specs.Current.{wrapped, flux_after, current}
use Rattle.pic_grid.specs.Hat.{IsInBox, HasTwo}
use Rattle.pic_grid.specs.Path.{floor_of, floor_cell}
use Rattle.pic_grid.specs.PushPhase.{Surroundings, kind_of, push_of}
use Rattle.pic_grid.specs.Traces.{trace_of, traces}
use Rattle.pic_grid.proofs.ApartLaws.{IsApart, path_apart}
use Rattle.pic_grid.proofs.OverLaws.{sum_over_same}
use Rattle.pic_grid.proofs.FloorLaws.{floor_is, floors_next}
use Rattle.pic_grid.specs.Parts.{part_with}
use Rattle.pic_split.proofs.ImageLaws.{wrapped-zero}
use Rattle.pic_split.proofs.LeadLaws.{path_leads}
use Rattle.pic_tile.specs.Layers.{IsBeyondTile, StaysByTile, lowest_cell}
use Rattle.pic_tile.specs.LayerSum.{LayersMakeTheCurrent}
use Rattle.pic_tile.specs.Owners.{cell_of_point, tile_of}
use Rattle.pic_tile.specs.Tiling.{Tiling, cells_of}
use Rattle.pic_tile.proofs.AllTilesLaws.{IsByItsTile, all_tiles}
use Rattle.pic_tile.proofs.OwnerLaws.{cell_within}
use Rattle.pic_tile.proofs.TilingLaws.{owner_place, owner_below}
use Rattle.pic_push.proofs.PushLaws.{push_move}

-- On one axis: a path from a cell of a tile reaches at most one cell out of it.

-- a place beyond a tile is apart from a cell at most one out of it
near_apart : (low : ℤ) (n : ℕ) (c j : ℤ) → (low -ℤ pos 1) ≤ℤ c → c ≤ℤ (low +ℤ pos n) → IsBeyondTile low n j → IsApart c j
near_apart low n c j under over (inl below) = inl (omega (arith, ints, under, below))
near_apart low n c j under over (inr above) = inr (omega (arith, ints, over, above))

start_apart : (side n p : ℕ) (j : ℤ) → 0 < n → IsBeyondTile (pos (p / side / n * n)) n j → IsApart (floor_of side (pos p)) j
start_apart side n p j some beyond =
    let is = floor_is side p in
    let low = low_end (p / side) n in
    let high = high_end (p / side) n some in
    near_apart (pos (p / side / n * n)) n (floor_of side (pos p)) j (omega (arith, ints, is, low)) (omega (arith, ints, is, high)) beyond

end_apart : (side n p : ℕ) (d j : ℤ) → 0 < side → 0 < n → unsigned_abs d ≤ side → IsBeyondTile (pos (p / side / n * n)) n j
    → IsApart (floor_of side (pos p +ℤ d)) j
end_apart side n p d j above some small beyond =
    let is = floor_is side p in
    let low = low_end (p / side) n in
    let high = high_end (p / side) n some in
    let next = floors_next side (pos p) d above small in
    let under = next.0 in
    let over = next.1 in
    near_apart (pos (p / side / n * n)) n (floor_of side (pos p +ℤ d)) j (omega (arith, ints, is, low, under)) (omega (arith, ints, is, high, over)) beyond

-- The flux of a particle.

-- it is 0 at an edge that on an axis is apart from the cells of a path's start and end
trace_apart : (w : Surroundings) (x : Particle) (r : Result Shift Halting) (a b : Axis) (c : Spot) → push_of w x ≡ r → 0 < w.side
    → ((d : Spot) → AreAtMost d w.side
    → IsApart (along b (floor_cell w.side (unwrapped (triple x.x)))) (along b c)
    × IsApart (along b (floor_cell w.side (plus (unwrapped (triple x.x)) d))) (along b c))
    → trace_of w.side w.kinds x r a c ≡ pos 0
unfolding trace_of
trace_apart w x (Err h) a b c is some apart = refl
trace_apart w x (Ok s) a b c is some apart =
    let move = push_move w x s is in
    let from = unwrapped (triple x.x) in
    let both = apart s.d move in
    path_apart w.side (kind_of w.kinds x).charge (floor_cell w.side from) (floor_cell w.side (plus from s.d)) a b c both.0 both.1
    (path_leads w.side from s.d some move)

-- it stays by the particle's tile
pub trace_stays : (w : Surroundings) (m : Tiling) (x : Particle) (a : Axis) → 0 < m.side → w.side ≡ m.side → HasTwo m.size
    → IsInBox m.side (cells_of m) (triple x.x) → StaysByTile m (tile_of m x) (trace_of w.side w.kinds x (push_of w x) a)
trace_stays w m x a some same thick inside = record {
  x = λ c beyond.
      let there = subst (λ (p : Triple). IsBeyondTile (pos (p.x * m.size.x)) m.size.x c.x) place beyond in
      trace_apart w x (push_of w x) a X c refl above (λ d move. (
        start_apart w.side m.size.x at.x c.x (omega (arith, thick.x)) there,
        end_apart w.side m.size.x at.x d.x c.x above (omega (arith, thick.x)) move.x.size there,
      ));
  y = λ c beyond.
      let there = subst (λ (p : Triple). IsBeyondTile (pos (p.y * m.size.y)) m.size.y c.y) place beyond in
      trace_apart w x (push_of w x) a Y c refl above (λ d move. (
        start_apart w.side m.size.y at.y c.y (omega (arith, thick.y)) there,
        end_apart w.side m.size.y at.y d.y c.y above (omega (arith, thick.y)) move.y.size there,
      ));
  z = λ c beyond.
      let there = subst (λ (p : Triple). IsBeyondTile (pos (p.z * m.size.z)) m.size.z c.z) place beyond in
      trace_apart w x (push_of w x) a Z c refl above (λ d move. (
        start_apart w.side m.size.z at.z c.z (omega (arith, thick.z)) there,
        end_apart w.side m.size.z at.z d.z c.z above (omega (arith, thick.z)) move.z.size there,
      ));
}
  where
    at : Triple
    at = triple x.x

    above : 0 < w.side
    above = omega (arith, some, same)

    place : cell_of m.tiles (tile_of m x) ≡ part_with m.size (cell_of_point w.side (triple x.x))
    place =
        owner_place m (cell_of_point m.side at) thick (cell_within m.side (cells_of m) at some inside)
        ∙ ap (λ (side : ℕ). part_with m.size (cell_of_point side at)) (sym same)

-- it wraps to the particle's share of the current
flux_is : (w : Surroundings) (x : Particle) (a : Axis) (p : Triple) (r : Result Shift Halting)
    → wrapped w.cells (trace_of w.side w.kinds x r a) p ≡ flux_after w.side w.cells w.kinds x a p r
unfolding flux_after trace_of
flux_is w x a p (Ok s) = refl
flux_is w x a p (Err h) = wrapped-zero w.cells p

-- The law.

pub layers_current : LayersMakeTheCurrent
unfolding traces current
layers_current w m start particles r q a some same cells thick among inner shared inside =
    all_tiles m (tile_of m) (λ x. trace_of w.side w.kinds x (push_of w x) a) start particles r q thick among inner shared
    (All-weaker (λ x. IsInBox m.side (cells_of m) (triple x.x)) (IsByItsTile m (tile_of m) (λ x. trace_of w.side w.kinds x (push_of w x) a))
    each particles inside)
    ∙ sum_over_same (λ x. wrapped (cells_of m) (trace_of w.side w.kinds x (push_of w x) a) p)
    (λ x. flux_after w.side w.cells w.kinds x a p (push_of w x)) particles
    (λ x. ap (λ (n : Triple). wrapped n (trace_of w.side w.kinds x (push_of w x) a) p) (sym cells) ∙ flux_is w x a p (push_of w x))
  where
    p : Triple
    p = outer_of (lowest_cell m r) q

    each : (x : Particle) → IsInBox m.side (cells_of m) (triple x.x) → IsByItsTile m (tile_of m) (λ x. trace_of w.side w.kinds x (push_of w x) a) x
    each x h = record {
      below = owner_below m (cell_of_point m.side (triple x.x)) thick (cell_within m.side (cells_of m) (triple x.x) some h);
      stays = trace_stays w m x a some same thick h;
    }
