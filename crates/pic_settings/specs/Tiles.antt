-- Whether a grid can be cut into so many tiles, and which fault is met first, this project's profile:
-- axis by axis from x on its limits and then what is left over, and at last all tiles together.
use Rattle.std.specs.Prelude.{ℤ, pos, ℕ, ◌/◌, ◌%◌, List, codes, slice_index, unsigned_abs, Ok}
use Rattle.pic_num.specs.Space.{Triple, triple}
use Rattle.pic_block.specs.Cells.{count_of}
use Rattle.pic_grid.specs.Tiles.{most_tiles}
use Rattle.pic_walk.specs.Limits.{from_to}
use Rattle.pic_walk.specs.Path.{key_at, element_at}
use Rattle.pic_walk.specs.Walk.{Walked, ◌>>=◌, within}

-- a number of tiles on an axis of n cells: from 1 to half the cells, and none is left over
unfoldable pub tiles_of_axis : ℕ → List ℕ → ℤ → Walked ℕ
tiles_of_axis n path t =
    within (from_to (pos 1) (pos (n / 2))) path t
    >>= (λ _. within (from_to (pos 0) (pos 0)) path (pos (n % unsigned_abs t))
    >>= (λ _. Ok (unsigned_abs t)))

-- the tiles of all three axes together, not too many
unfoldable pub few_tiles : List ℕ → List ℕ → Walked (List ℕ)
few_tiles path ts =
    within (from_to (pos 1) (pos most_tiles)) path (pos (count_of (triple ts))) >>= (λ _. Ok ts)

-- the path of the tiles
abbrev pub tiles_path : List ℕ
tiles_path = key_at (codes "grid") (codes "tiles")

-- the tiles at an index, on an axis of n cells
unfoldable pub axis_fits : ℕ → List ℕ → ℕ → Walked ℕ
axis_fits n ts i = tiles_of_axis n (element_at tiles_path i) (pos (slice_index ts i))

-- that a grid of n cells can be cut into so many tiles
unfoldable pub tiles_fit : Triple → List ℕ → Walked (Unit {0})
tiles_fit n ts =
    axis_fits n.x ts 0
    >>= (λ _. axis_fits n.y ts 1
    >>= (λ _. axis_fits n.z ts 2
    >>= (λ _. few_tiles tiles_path ts
    >>= (λ _. Ok tt))))
