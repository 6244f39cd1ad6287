-- The law of the layers: what the layers of all tiles give to each edge adds up to the current.
use Rattle.std.specs.Prelude.{◌≡◌, ℕ, ◌<◌, List}
use Rattle.std.specs.List.{All}
use Rattle.pic_num.specs.declared.axis.Axis.{Axis}
use Rattle.pic_num.specs.declared.motion.Particle.{Particle}
use Rattle.pic_num.specs.Space.{Triple, triple}
use Rattle.pic_block.specs.Block.{outer_of}
use Rattle.pic_block.specs.Cells.{IsWithin, count_of}
use Rattle.pic_grid.specs.Current.{current}
use Rattle.pic_grid.specs.Hat.{IsInBox, HasTwo}
use Rattle.pic_grid.specs.PushPhase.{Surroundings}
use Rattle.pic_grid.specs.Sums.{sum_below}
use Rattle.pic_grid.specs.Traces.{traces}
use Rattle.pic_tile.specs.Same.{Same}
use Rattle.pic_tile.specs.StandFor.{owned}
use Rattle.pic_tile.specs.Directions.{directions}
use Rattle.pic_tile.specs.Layers.{lowest_cell, sender_of, given_at}
use Rattle.pic_tile.specs.Owners.{tile_of}
use Rattle.pic_tile.specs.Tiling.{Tiling, cells_of}

-- each tile has its own of these particles, in any order
abbrev pub AreSharedOut : Tiling → (ℕ → List Particle) → List Particle → Type 0
AreSharedOut m start particles =
    (t : ℕ) → t < count_of m.tiles → Same (start t) (owned (tile_of m) t particles)

-- the flux that the senders' layers give to an edge of a tile, one sender for each direction, is
-- the current there. It holds for one tile on an axis, for two and for more.
abbrev pub LayersMakeTheCurrent : Type 0
LayersMakeTheCurrent =
    (w : Surroundings) (m : Tiling) (start : ℕ → List Particle) (particles : List Particle)
    → (r : ℕ) (q : Triple) (a : Axis)
    → 0 < m.side
    → w.side ≡ m.side
    → w.cells ≡ cells_of m
    → HasTwo m.size
    → r < count_of m.tiles
    → IsWithin q m.size
    → AreSharedOut m start particles
    → All (λ x. IsInBox m.side (cells_of m) (triple x.x)) particles
    → sum_below directions
    (λ d. given_at m (sender_of m d r) d (traces w (start (sender_of m d r)) a) q)
    ≡ current w particles a (outer_of (lowest_cell m r) q)
