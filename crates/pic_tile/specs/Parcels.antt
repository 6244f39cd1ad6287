-- What the parcels of a tile hold before a push and after it.
use Rattle.std.specs.Prelude.{◌≡◌, ℕ, ℤ, pos, ◌<◌, List, [], length, None, IsSome}
use Rattle.pic_num.specs.declared.axis.Axis.{Axis}
use Rattle.pic_num.specs.declared.motion.Particle.{Particle}
use Rattle.pic_num.specs.Space.{Spot}
use Rattle.pic_block.specs.Cells.{count_of}
use Rattle.pic_grid.specs.PushPhase.{Surroundings}
use Rattle.pic_grid.specs.Traces.{traces}
use Rattle.pic_tile.specs.Same.{Same}
use Rattle.pic_tile.specs.StandFor.{owned}
use Rattle.pic_tile.specs.StopOf.{IsStopOf}
use Rattle.pic_tile.specs.declared.parcel.Parcel.{Parcel}
use Rattle.pic_tile.specs.Directions.{directions, here}
use Rattle.pic_tile.specs.Layers.{layers_from, layers_size, lowest_cell, IsLayers}
use Rattle.pic_tile.specs.Leaving.{going}
use Rattle.pic_tile.specs.Owners.{tile_of}
use Rattle.pic_tile.specs.Tile.{TileValue, parcel_at, chain_at, flux_at, stop_at, tile_in}
use Rattle.pic_tile.specs.Tiling.{Tiling}

-- the parcel of a direction after the push of a tile's particles: those that leave that way, the flux
-- that they all send through its layers, and in that of no step what stops their push
pub record IsParcel (w : Surroundings) (m : Tiling) (particles : List Particle) (tile dir : ℕ)
    (parcel : Parcel) : Type 0 where
  pub dir_is : parcel.dir ≡ dir
  pub chain : Same parcel.chain (going w m dir particles)
  pub flux : IsLayers m tile dir (traces w particles) parcel.flux
  pub halt : dir ≡ here → IsStopOf w particles parcel.stop
  pub none : (dir ≡ here → ⊥) → parcel.stop ≡ None

-- no flux at any edge
abbrev pub no_flux : Axis → Spot → ℤ
no_flux a c = pos 0

-- a tile whose particles can be pushed: it has all its parcels, the flux of each over its layers, and
-- its particles in that of no step alone; the others have no flux
pub record IsReady (m : Tiling) (t : TileValue) : Type 0 where
  pub whole : (d : ℕ) → d < directions → IsSome (parcel_at t d)
  pub low : (flux_at t here).low ≡ layers_from m.size (lowest_cell m t.number) here
  pub size : (flux_at t here).size ≡ layers_size m.size here
  pub chains : (d : ℕ) → d < directions → (d ≡ here → ⊥) → chain_at t d ≡ []
  pub empty : (d : ℕ) → d < directions → (d ≡ here → ⊥) → IsLayers m t.number d no_flux (flux_at t d)

-- a tile before its push: no flux at all, and nothing that stops it
pub record IsFresh (m : Tiling) (t : TileValue) : Type 0 where
  pub ready : IsReady m t
  pub empty : IsLayers m t.number here no_flux (flux_at t here)
  pub quiet : (d : ℕ) → d < directions → stop_at t d ≡ None

-- a tile has its own of these particles, in any order
abbrev pub StandsFor : Tiling → List Particle → TileValue → Type 0
StandsFor m particles t = Same (chain_at t here) (owned (tile_of m) t.number particles)

-- the tiles of a map in order, before their push, with these particles shared out
pub record AreFreshTiles (m : Tiling) (particles : List Particle) (tiles : List TileValue) : Type 0 where
  pub count : length tiles ≡ count_of m.tiles
  pub numbers : (i : ℕ) → i < count_of m.tiles → (tile_in tiles i).number ≡ i
  pub fresh : (i : ℕ) → i < count_of m.tiles → IsFresh m (tile_in tiles i)
  pub stand : (i : ℕ) → i < count_of m.tiles → StandsFor m particles (tile_in tiles i)
