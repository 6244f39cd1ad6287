-- The flux of a tile is 27 blocks, one for each direction, over layers of cells. The path of a
-- particle from a cell of the tile carries charge through edges of the tile, of one layer below it
-- and of two above. So on each axis the layers of a step down are one below the tile, those of no
-- step the tile's own, and those of a step up two above.
use Rattle.std.specs.Prelude.{◌≡◌, ℕ, zero, suc, ℤ, pos, ◌+◌, ◌-◌, ◌<ℤ◌, ◌⊎◌, ◌+ℤ◌, ◌-ℤ◌, ◌==◌, nat_lt, Bool, if◌then◌else◌, Option, Some, None}
use Rattle.pic_num.specs.declared.axis.Axis.{Axis}
use Rattle.pic_num.specs.Space.{Triple, Spot}
use Rattle.pic_block.specs.Block.{BlockValues, InZone, edge_at}
use Rattle.pic_block.specs.Cells.{cell_of}
use Rattle.pic_grid.specs.Parts.{corner_of}
use Rattle.pic_tile.specs.Directions.{steps_of, opposite}
use Rattle.pic_tile.specs.Tiling.{Tiling, neighbour_of}

-- On one axis, by the step: 0 down, 1 none, 2 up. The sending tile has n layers from low on, and so
-- has the receiving tile.

-- how many layers there are
abbrev pub layer_count : ℕ → ℕ → ℕ
layer_count n zero = 1
layer_count n (suc zero) = n
layer_count n (suc (suc step)) = 2

-- the lowest of them
abbrev pub layer_low : ℕ → ℤ → ℕ → ℤ
layer_low n low zero = low -ℤ pos 1
layer_low n low (suc zero) = low
layer_low n low (suc (suc step)) = low +ℤ pos n

-- which of the receiver's layers that one is
abbrev pub layer_begin : ℕ → ℕ → ℕ
layer_begin n zero = n - 1
layer_begin n (suc step) = 0

-- the layer that is the receiver's layer q, where one is
abbrev pub layer_at : ℕ → ℤ → ℕ → ℕ → Option ℤ
layer_at n low zero q = if q + 1 == n then Some (low -ℤ pos 1) else None
layer_at n low (suc zero) q = Some (low +ℤ pos q)
layer_at n low (suc (suc step)) q = if nat_lt q 2 then Some (low +ℤ pos n +ℤ pos q) else None

-- On three axes, by the direction d, for tiles of n layers whose lowest cell is low.

abbrev pub layers_size : Triple → ℕ → Triple
layers_size n d =
    let e = steps_of d in
    record {
      x = layer_count n.x e.x;
      y = layer_count n.y e.y;
      z = layer_count n.z e.z;
    }

abbrev pub layers_from : Triple → Spot → ℕ → Spot
layers_from n low d =
    let e = steps_of d in
    record {
      x = layer_low n.x low.x e.x;
      y = layer_low n.y low.y e.y;
      z = layer_low n.z low.z e.z;
    }

abbrev pub layers_begin : Triple → ℕ → Triple
layers_begin n d =
    let e = steps_of d in
    record {
      x = layer_begin n.x e.x;
      y = layer_begin n.y e.y;
      z = layer_begin n.z e.z;
    }

-- the lowest cell of a tile
abbrev pub lowest_cell : Tiling → ℕ → Spot
lowest_cell m tile = corner_of m.size (cell_of m.tiles tile)

-- the block has the layers of a tile in the direction d, and f at every edge of them
pub record IsLayers (m : Tiling) (tile d : ℕ) (f : Axis → Spot → ℤ) (b : BlockValues) : Type 0 where
  pub low : b.low ≡ layers_from m.size (lowest_cell m tile) d
  pub size : b.size ≡ layers_size m.size d
  pub values : (a : Axis) (c : Spot) → InZone b.low b.size c → edge_at b a c ≡ f a c

-- What the layers give to the tile that they go to.

-- the tile whose layers in the direction d go to a tile
abbrev pub sender_of : Tiling → ℕ → ℕ → ℕ
sender_of m d tile = neighbour_of m.tiles tile (opposite d)

-- g there, or 0 where there is none
abbrev pub at_some : Option ℤ → (ℤ → ℤ) → ℤ
at_some None g = pos 0
at_some (Some j) g = g j

abbrev pub pick : Bool → ℤ → ℤ
pick b v = if b then v else pos 0

-- what the layers of a tile in the direction d, where they hold f, give to the edge that lies q
-- above the lowest of the tile that they go to
unfoldable pub given_at : Tiling → ℕ → ℕ → (Spot → ℤ) → Triple → ℤ
given_at m tile d f q =
    let low = lowest_cell m tile in
    let e = steps_of d in
    at_some (layer_at m.size.z low.z e.z q.z)
    (λ z. at_some (layer_at m.size.y low.y e.y q.y)
    (λ y. at_some (layer_at m.size.x low.x e.x q.x) (λ x. f (record { x = x; y = y; z = z }))))

-- Where paths from a tile don't lead.

-- a coordinate below the layer under a tile of n layers, or above the second layer over it
abbrev pub IsBeyondTile : ℤ → ℕ → ℤ → Type 0
IsBeyondTile low n j = (j <ℤ (low -ℤ pos 1)) ⊎ ((low +ℤ pos n +ℤ pos 1) <ℤ j)

-- f is 0 at every edge that on some axis is beyond the tile
pub record StaysByTile (m : Tiling) (tile : ℕ) (f : Spot → ℤ) : Type 0 where
  pub x : (c : Spot) → IsBeyondTile (lowest_cell m tile).x m.size.x c.x → f c ≡ pos 0
  pub y : (c : Spot) → IsBeyondTile (lowest_cell m tile).y m.size.y c.y → f c ≡ pos 0
  pub z : (c : Spot) → IsBeyondTile (lowest_cell m tile).z m.size.z c.z → f c ≡ pos 0
