-- The particles of a state in tiles, and what their push works with.
use Rattle.std.specs.Prelude.{◌≡◌, ℕ, ◌<◌, List, length, IfSome}
use Rattle.pic_num.specs.declared.motion.Particle.{Particle}
use Rattle.pic_block.specs.Cells.{count_of}
use Rattle.pic_grid.specs.Parts.{layered}
use Rattle.pic_tile.specs.CoreState.{all_particles}
use Rattle.pic_tile.specs.Parcels.{AreFreshTiles, StandsFor}
use Rattle.pic_tile.specs.Tile.{tile_in}
use Rattle.pic_tile.specs.Tiling.{cells_of}
use Rattle.pic_advance.specs.Current.{LiesOn}
use Rattle.pic_core.specs.AtStart.{IsScratch}
use Rattle.pic_step.specs.declared.plasma.Plasma.{Plasma}
use Rattle.pic_step.specs.TileFlux.{HaveReceived}

-- particles are ready for their push: they are cut into tiles; beside these there are the room for
-- what they will receive, lattices with a part for each layer of z for the force values, and a block
-- for each tile
pub record IsPlasma (particles : List Particle) (p : Plasma) : Type 0 where
  pub tiles : AreFreshTiles p.frame.map particles p.tiles.items
  pub room : IsScratch p.frame.map p.room
  pub parts : p.frame.force_e.parts ≡ layered (cells_of p.frame.map)
  pub spare : length p.spare.items ≡ count_of p.frame.map.tiles
  pub smooth : IfSome p.smooth (LiesOn (cells_of p.frame.map) p.frame.map.tiles)
  pub count : p.count ≡ length particles

-- they are pushed: each tile has its own of them and its flux; all else is ready for the next push
pub record HasFlux (p : Plasma) : Type 0 where
  pub received : HaveReceived p.frame.map p.tiles.items
  pub stand : (r : ℕ) → r < count_of p.frame.map.tiles
      → StandsFor p.frame.map (all_particles p.tiles.items) (tile_in p.tiles.items r)
  pub room : IsScratch p.frame.map p.room
  pub parts : p.frame.force_e.parts ≡ layered (cells_of p.frame.map)
  pub spare : length p.spare.items ≡ count_of p.frame.map.tiles
  pub smooth : IfSome p.smooth (LiesOn (cells_of p.frame.map) p.frame.map.tiles)
  pub count : p.count ≡ length (all_particles p.tiles.items)
