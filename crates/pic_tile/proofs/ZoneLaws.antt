-- The zones of a map's tiles.
use Rattle.std.proofs.Common.{ℕ, ◌+◌, ◌*◌, ◌<◌, ◌≤◌, arith}
use Rattle.std.proofs.Math.Nat.{mul-le-mul_right}
use Rattle.std.proofs.lemmas.Int.{ints}
use Rattle.pic_block.specs.Cells.{IsWithin, count_of, cell_of}
use Rattle.pic_block.proofs.CellLaws.{cell_of_within}
use Rattle.pic_tile.specs.Layers.{lowest_cell}
use Rattle.pic_tile.specs.Tiling.{Tiling, IsMap}
use Rattle.pic_tile.specs.Zones.{IsTileZone}

-- a tile ends where the next begins, or at the end of the axis
pub row_end : (p t n : ℕ) → p < t → p * n + n ≤ t * n
row_end p t n h = let most : (p + 1) * n ≤ t * n = mul-le-mul_right n (omega arith) in omega (arith, most)

pub tile_zone : (m : Tiling) (tile : ℕ) → IsMap m → tile < count_of m.tiles → IsTileZone (lowest_cell m tile) m.size
tile_zone m tile h below =
    let at = cell_of m.tiles tile in
    let w : IsWithin at m.tiles = cell_of_within m.tiles tile below in
    let x = row_end at.x m.tiles.x m.size.x w.x in
    let y = row_end at.y m.tiles.y m.size.y w.y in
    let z = row_end at.z m.tiles.z m.size.z w.z in
    record {
      x_low = omega (arith, ints);
      x_thick = h.thick.x;
      x_high = omega (arith, h.cells.x_most);
      y_low = omega (arith, ints);
      y_thick = h.thick.y;
      y_high = omega (arith, h.cells.y_most);
      z_low = omega (arith, ints);
      z_thick = h.thick.z;
      z_high = omega (arith, h.cells.z_most);
    }
