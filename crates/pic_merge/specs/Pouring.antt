-- How a tile changes while a parcel is merged into that of no step.
use Rattle.std.specs.Prelude.{◌≡◌, ℕ, List, ◌++◌, IsSome}
use Rattle.pic_num.specs.declared.motion.Particle.{Particle}
use Rattle.pic_block.specs.Block.{BlockValues, IsShaped}
use Rattle.pic_block.specs.BlockLayers.{AddsLayers}
use Rattle.pic_tile.specs.Same.{Same}
use Rattle.pic_tile.specs.Directions.{here}
use Rattle.pic_tile.specs.Layers.{layers_begin}
use Rattle.pic_tile.specs.Tile.{TileValue, parcel_at, chain_at, flux_at, stop_at}

-- a tile before and after particles, and flux that comes in a direction, are added to its parcel of
-- no step
pub record Poured (dir : ℕ) (chain : List Particle) (flux : BlockValues) (old new : TileValue) : Type 0
  where
    pub number : new.number ≡ old.number
    pub there : IsSome (parcel_at new here)
    pub joined : Same (chain_at new here) (chain ++ chain_at old here)
    pub shape : IsShaped (flux_at old here) (flux_at new here)
    pub added : AddsLayers (flux_at old here) (flux_at new here) flux
        (layers_begin (flux_at old here).size dir)
    pub stop : stop_at new here ≡ stop_at old here
    pub others : (d : ℕ) → (d ≡ here → ⊥) → parcel_at new d ≡ parcel_at old d
