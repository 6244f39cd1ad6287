-- Which tile a particle is of.
use Rattle.std.specs.Prelude.{ℕ, ◌/◌}
use Rattle.pic_num.specs.declared.motion.Particle.{Particle}
use Rattle.pic_num.specs.Space.{Triple, triple}
use Rattle.pic_block.specs.Cells.{index_of}
use Rattle.pic_tile.specs.Tiling.{Tiling, owner_of, place_in_tile}

-- the cell in which a position of the box lies
abbrev pub cell_of_point : ℕ → Triple → Triple
cell_of_point side point = record { x = point.x / side; y = point.y / side; z = point.z / side }

-- the tile of a particle: that of the cell of its position
abbrev pub tile_of : Tiling → Particle → ℕ
tile_of m particle = owner_of m (cell_of_point m.side (triple particle.x))

-- the number of its cell among those of its tile
abbrev pub cell_in_tile : Tiling → Particle → ℕ
cell_in_tile m particle =
    index_of m.size (place_in_tile m (cell_of_point m.side (triple particle.x)))
