-- Where a push leads a particle: the direction in which it leaves its tile.
use Rattle.std.specs.Prelude.{◌≡◌, ℕ, ◌<◌, ℤ, pos, negsuc, ◌+◌, ◌*◌, ◌==◌, nat_lt, if◌then◌else◌, List, map, filter, Result, Ok, Err}
use Rattle.pic_num.specs.declared.motion.Particle.{Particle}
use Rattle.pic_num.specs.Push.{Shift, Halting, plus}
use Rattle.pic_num.specs.Space.{Spot, triple, unwrapped}
use Rattle.pic_block.specs.Cells.{cell_of}
use Rattle.pic_grid.specs.Hat.{IsInBox, HasTwo}
use Rattle.pic_grid.specs.Path.{floor_cell}
use Rattle.pic_grid.specs.PushPhase.{Surroundings, push_of, after_push}
use Rattle.pic_tile.specs.Directions.{here}
use Rattle.pic_tile.specs.Owners.{tile_of}
use Rattle.pic_tile.specs.Tiling.{Tiling, cells_of, neighbour_of}

-- the step on one axis from a tile of n layers from low on to a cell, which isn't wrapped
unfoldable pub step_to : ℕ → ℕ → ℤ → ℕ
step_to low n (pos cell) = if nat_lt cell low then 0 else (if nat_lt cell (low + n) then 1 else 2)
step_to low n (negsuc below) = 0

-- the direction of these steps
abbrev pub direction_by : ℕ → ℕ → ℕ → ℕ
direction_by x y z = x + 3 * y + 9 * z

-- the direction from a tile to a cell, which isn't wrapped
unfoldable pub direction_to : Tiling → ℕ → Spot → ℕ
direction_to m tile cell =
    let place = cell_of m.tiles tile in
    direction_by
    (step_to (place.x * m.size.x) m.size.x cell.x)
    (step_to (place.y * m.size.y) m.size.y cell.y)
    (step_to (place.z * m.size.z) m.size.z cell.z)

-- the direction in which a push leads a particle out of its tile; one that halts stays
abbrev pub way_after : Tiling → Particle → Result Shift Halting → ℕ
way_after m particle (Ok s) =
    direction_to m (tile_of m particle) (floor_cell m.side (plus (unwrapped (triple particle.x)) s.d))
way_after m particle (Err h) = here

unfoldable pub way : Surroundings → Tiling → Particle → ℕ
way w m particle = way_after m particle (push_of w particle)

-- a particle after its push
unfoldable pub after_its_push : Surroundings → Particle → Particle
after_its_push w particle = after_push w.side w.cells particle (push_of w particle)

-- the particles that leave in a direction, after their push
unfoldable pub going : Surroundings → Tiling → ℕ → List Particle → List Particle
going w m dir particles =
    map (after_its_push w) (filter (λ particle. way w m particle == dir) particles)

-- that direction leads to the tile of the particle's new place
abbrev pub WayLeads : Type 0
WayLeads =
    (w : Surroundings) (m : Tiling) (particle : Particle)
    → w.side ≡ m.side
    → w.cells ≡ cells_of m
    → 0 < m.side
    → HasTwo m.size
    → IsInBox m.side (cells_of m) (triple particle.x)
    → tile_of m (after_its_push w particle)
    ≡ neighbour_of m.tiles (tile_of m particle) (way w m particle)
