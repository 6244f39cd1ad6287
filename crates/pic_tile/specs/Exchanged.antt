-- What the push phase leaves in the tiles, where each has received all that leads to it.
use Rattle.std.specs.Prelude.{◌≡◌, ℕ, ◌<◌, List, [], ◌∷◌, length, Option, None}
use Rattle.pic_num.specs.declared.axis.Axis.{Axis}
use Rattle.pic_num.specs.declared.motion.Particle.{Particle}
use Rattle.pic_num.specs.Space.{Triple}
use Rattle.pic_block.specs.Block.{inner_at, outer_of}
use Rattle.pic_block.specs.Cells.{IsWithin, count_of}
use Rattle.pic_grid.specs.declared.stop.Stop.{Stop}
use Rattle.pic_grid.specs.Current.{current}
use Rattle.pic_grid.specs.PushPhase.{Surroundings, moved_all, push_stop}
use Rattle.pic_tile.specs.Same.{Same}
use Rattle.pic_tile.specs.StandFor.{owned}
use Rattle.pic_tile.specs.StopOf.{lesser}
use Rattle.pic_tile.specs.Directions.{directions, here}
use Rattle.pic_tile.specs.Layers.{lowest_cell}
use Rattle.pic_tile.specs.Owners.{tile_of}
use Rattle.pic_tile.specs.Parcels.{IsReady}
use Rattle.pic_tile.specs.Tile.{TileValue, chain_at, flux_at, stop_at, tile_in}
use Rattle.pic_tile.specs.Tiling.{Tiling}

-- the least of the tiles' stops
unfoldable pub least_stop : List TileValue → Option Stop
least_stop [] = None
least_stop (t ∷ tiles) = lesser (stop_at t here) (least_stop tiles)

-- the tile r after the push of these particles: it has its own of them as the push phase moves them,
-- in any order, and at each of its edges the current
pub record HasReceived (w : Surroundings) (m : Tiling) (particles : List Particle) (r : ℕ) (t : TileValue) : Type 0 where
  pub number : t.number ≡ r
  pub ready : IsReady m t
  pub chain : Same (chain_at t here) (owned (tile_of m) r (moved_all w particles))
  pub flux : (a : Axis) (q : Triple) → IsWithin q m.size → inner_at (flux_at t here) a q ≡ current w particles a (outer_of (lowest_cell m r) q)
  pub quiet : (d : ℕ) → d < directions → (d ≡ here → ⊥) → stop_at t d ≡ None

-- all tiles, in order: the least of their stops is what stops the push phase, and where nothing stops
-- it no tile has a stop
pub record AreExchanged (w : Surroundings) (m : Tiling) (particles : List Particle) (tiles : List TileValue) : Type 0 where
  pub count : length tiles ≡ count_of m.tiles
  pub each : (r : ℕ) → r < count_of m.tiles → HasReceived w m particles r (tile_in tiles r)
  pub stop : least_stop tiles ≡ push_stop w particles
  pub none : push_stop w particles ≡ None → (r : ℕ) → r < count_of m.tiles → stop_at (tile_in tiles r) here ≡ None
