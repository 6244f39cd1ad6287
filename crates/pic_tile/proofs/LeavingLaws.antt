-- The direction in which a push leads a particle out of its tile leads to the tile of its new place.
use Rattle.std.proofs.Common.{◌≡◌, ℕ, ◌+◌, ◌*◌, ◌/◌, ◌%◌, ◌<◌, Result, Ok, Err, refl, sym, ◌∙◌, ap, arith}
use Rattle.std.proofs.Math.IntN.{ℤ, pos, negsuc}
use Rattle.std.proofs.lemmas.Bool.Decides.{nat_tests}
use Rattle.pic_num.specs.declared.motion.Particle.{Particle}
use Rattle.pic_num.specs.Push.{Shift, Halting, plus}
use Rattle.pic_num.specs.Space.{Triple, Spot, triple, unwrapped, AreAtMost}
use Rattle.pic_block.specs.Cells.{count_of, index_of, cell_of}
use Rattle.pic_block.proofs.CellLaws.{cell_of_within, index_of-cell_of}
use Rattle.pic_grid.specs.Hat.{IsInBox, HasTwo}
use Rattle.pic_grid.specs.Parts.{part_with}
use Rattle.pic_grid.specs.Path.{floor_cell}
use Rattle.pic_grid.specs.PushPhase.{Surroundings, push_of, after_push, moved}
use Rattle.pic_tile.specs.Directions.{directions, here, steps_of, ring_step}
use Rattle.pic_tile.specs.Leaving.{step_to, direction_by, direction_to, way_after, way, after_its_push}
use Rattle.pic_tile.specs.Owners.{cell_of_point, tile_of}
use Rattle.pic_tile.specs.Tiling.{Tiling, cells_of, place_beside, neighbour_of}
use Rattle.pic_tile.proofs.OwnerLaws.{cell_within}
use Rattle.pic_tile.proofs.RingLaws.{ring_stays}
use Rattle.pic_tile.proofs.StepLaws.{axis_leads}
use Rattle.pic_tile.proofs.TilingLaws.{owner_place, owner_below}

-- Directions by their steps.

pub step_below : (low n : ℕ) (c : ℤ) → step_to low n c < 3
unfolding step_to
step_below low n (pos c) = grind (arith, nat_tests)
step_below low n (negsuc c) = omega arith

pub steps_by : (x y z : ℕ) → x < 3 → y < 3 → z < 3 → steps_of (direction_by x y z) ≡ record { x = x; y = y; z = z }
steps_by x y z h k l =
    let on_x : (x + 3 * y + 9 * z) % 3 ≡ x = omega arith in
    let on_y : (x + 3 * y + 9 * z) / 3 % 3 ≡ y = omega arith in
    let on_z : (x + 3 * y + 9 * z) / 9 ≡ z = omega arith in
    λ i. record { x = on_x i; y = on_y i; z = on_z i }

pub direction_below : (m : Tiling) (tile : ℕ) (c : Spot) → direction_to m tile c < directions
unfolding direction_to
direction_below m tile c =
    let place = cell_of m.tiles tile in
    let x = step_below (place.x * m.size.x) m.size.x c.x in
    let y = step_below (place.y * m.size.y) m.size.y c.y in
    let z = step_below (place.z * m.size.z) m.size.z c.z in
    omega (arith, x, y, z)

pub way_below : (w : Surroundings) (m : Tiling) (particle : Particle) → way w m particle < directions
unfolding way
way_below w m particle = by_result (push_of w particle)
  where
    by_result : (r : Result Shift Halting) → way_after m particle r < directions
    by_result (Ok s) = direction_below m (tile_of m particle) (floor_cell m.side (plus (unwrapped (triple particle.x)) s.d))
    by_result (Err h) = omega arith

-- The direction without a step leads to the tile itself.
pub neighbour_here : (n : Triple) (tile : ℕ) → tile < count_of n → neighbour_of n tile here ≡ tile
neighbour_here n tile below =
    let at = cell_of n tile in
    let w = cell_of_within n tile below in
    let x : ring_step n.x 1 at.x ≡ at.x = ring_stays n.x 1 at.x refl w.x in
    let y : ring_step n.y 1 at.y ≡ at.y = ring_stays n.y 1 at.y refl w.y in
    let z : ring_step n.z 1 at.z ≡ at.z = ring_stays n.z 1 at.z refl w.z in
    let same : place_beside n (steps_of here) at ≡ at = (λ i. record { x = x i; y = y i; z = z i }) in
    ap (index_of n) same ∙ index_of-cell_of n tile

-- A particle of the box.

pub tile_place : (m : Tiling) (particle : Particle) → 0 < m.side → HasTwo m.size → IsInBox m.side (cells_of m) (triple particle.x)
    → cell_of m.tiles (tile_of m particle) ≡ part_with m.size (cell_of_point m.side (triple particle.x))
tile_place m particle some thick inside =
    owner_place m (cell_of_point m.side (triple particle.x)) thick (cell_within m.side (cells_of m) (triple particle.x) some inside)

pub tile_below : (m : Tiling) (particle : Particle) → 0 < m.side → HasTwo m.size → IsInBox m.side (cells_of m) (triple particle.x)
    → tile_of m particle < count_of m.tiles
tile_below m particle some thick inside =
    owner_below m (cell_of_point m.side (triple particle.x)) thick (cell_within m.side (cells_of m) (triple particle.x) some inside)

-- the steps from the tile at a place to a cell
abbrev steps_from : Tiling → Triple → Spot → Triple
steps_from m p c = record {
  x = step_to (p.x * m.size.x) m.size.x c.x;
  y = step_to (p.y * m.size.y) m.size.y c.y;
  z = step_to (p.z * m.size.z) m.size.z c.z;
}

direction_is : (m : Tiling) (tile : ℕ) (c : Spot) (p : Triple) → cell_of m.tiles tile ≡ p
    → direction_to m tile c ≡ direction_by (steps_from m p c).x (steps_from m p c).y (steps_from m p c).z
unfolding direction_to
direction_is m tile c p e = ap (λ (q : Triple). direction_by (steps_from m q c).x (steps_from m q c).y (steps_from m q c).z) e

neighbour_is : (m : Tiling) (tile : ℕ) (c : Spot) (p : Triple) → cell_of m.tiles tile ≡ p
    → neighbour_of m.tiles tile (direction_to m tile c) ≡ index_of m.tiles (place_beside m.tiles (steps_from m p c) p)
neighbour_is m tile c p e =
    let steps = steps_from m p c in
    let x = step_below (p.x * m.size.x) m.size.x c.x in
    let y = step_below (p.y * m.size.y) m.size.y c.y in
    let z = step_below (p.z * m.size.z) m.size.z c.z in
    ap (λ (d : ℕ). index_of m.tiles (place_beside m.tiles (steps_of d) (cell_of m.tiles tile))) (direction_is m tile c p e)
    ∙ ap (λ (t : Triple). index_of m.tiles (place_beside m.tiles t (cell_of m.tiles tile))) (steps_by steps.x steps.y steps.z x y z)
    ∙ ap (λ (q : Triple). index_of m.tiles (place_beside m.tiles steps q)) e

-- a move of at most a side
move_leads : (m : Tiling) (particle : Particle) (s : Shift) → 0 < m.side → HasTwo m.size → IsInBox m.side (cells_of m) (triple particle.x)
    → AreAtMost s.d m.side
    → tile_of m (moved m.side (cells_of m) particle s) ≡ neighbour_of m.tiles (tile_of m particle) (way_after m particle (Ok s))
unfolding moved
move_leads m particle s some thick inside most =
    let at = triple particle.x in
    let p = part_with m.size (cell_of_point m.side at) in
    let c = floor_cell m.side (plus (unwrapped at) s.d) in
    let x = axis_leads m.side m.tiles.x m.size.x at.x s.d.x some thick.x inside.x most.x.size in
    let y = axis_leads m.side m.tiles.y m.size.y at.y s.d.y some thick.y inside.y most.y.size in
    let z = axis_leads m.side m.tiles.z m.size.z at.z s.d.z some thick.z inside.z most.z.size in
    let new : part_with m.size (cell_of_point m.side (triple (moved m.side (cells_of m) particle s).x)) ≡ place_beside m.tiles (steps_from m p c) p =
    (λ i. record { x = x i; y = y i; z = z i }) in
    ap (index_of m.tiles) new ∙ sym (neighbour_is m (tile_of m particle) c p (tile_place m particle some thick inside))

after_moved : (side : ℕ) (n : Triple) (particle : Particle) (s : Shift) → after_push side n particle (Ok s) ≡ moved side n particle s
unfolding after_push
after_moved side n particle s = refl

after_halt : (side : ℕ) (n : Triple) (particle : Particle) (h : Halting) → after_push side n particle (Err h) ≡ particle
unfolding after_push
after_halt side n particle h = refl

-- a push that moves by at most a side, or halts
pub way_leads : (w : Surroundings) (m : Tiling) (particle : Particle) → w.side ≡ m.side → w.cells ≡ cells_of m → 0 < m.side → HasTwo m.size
    → IsInBox m.side (cells_of m) (triple particle.x) → ((s : Shift) → push_of w particle ≡ Ok s → AreAtMost s.d m.side)
    → tile_of m (after_its_push w particle) ≡ neighbour_of m.tiles (tile_of m particle) (way w m particle)
unfolding way after_its_push
way_leads w m particle side cells some thick inside most = by_result (push_of w particle) refl
  where
    moved_is : (s : Shift) → after_push w.side w.cells particle (Ok s) ≡ moved m.side (cells_of m) particle s
    moved_is s = after_moved w.side w.cells particle s ∙ (λ i. moved (side i) (cells i) particle s)

    still : (h : Halting) → tile_of m (after_push w.side w.cells particle (Err h)) ≡ tile_of m particle
    still h = ap (tile_of m) (after_halt w.side w.cells particle h)

    by_result : (r : Result Shift Halting) → push_of w particle ≡ r
        → tile_of m (after_push w.side w.cells particle r) ≡ neighbour_of m.tiles (tile_of m particle) (way_after m particle r)
    by_result (Ok s) is = (λ i. tile_of m (moved_is s i)) ∙ move_leads m particle s some thick inside (most s is)
    by_result (Err h) is = still h ∙ sym (neighbour_here m.tiles (tile_of m particle) (tile_below m particle some thick inside))
