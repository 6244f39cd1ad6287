-- Tiles: each cell is in one, and a neighbour's neighbour by the direction back is the tile itself.
use Rattle.std.proofs.Common.{◌≡◌, ℕ, pos, ◌+◌, ◌-◌, ◌*◌, ◌/◌, ◌%◌, ◌<◌, ◌≤◌, ◌+ℤ◌, ◌≤ℤ◌, ◌<ℤ◌, sym, ◌∙◌, ap, subst, arith}
use Rattle.std.proofs.lemmas.Int.{ints}
use Rattle.std.proofs.lemmas.Nat.{div-mul-add, div_below}
use Rattle.pic_block.specs.Cells.{IsWithin, count_of, index_of, cell_of}
use Rattle.pic_block.specs.Block.{InZone}
use Rattle.pic_block.proofs.CellLaws.{index_of_below, cell_of-index_of, index_of-cell_of, cell_of_within}
use Rattle.pic_grid.proofs.PartLaws.{in_part}
use Rattle.pic_grid.specs.Hat.{HasTwo}
use Rattle.pic_num.specs.Space.{Triple, unwrapped}
use Rattle.pic_grid.specs.Parts.{part_with, corner_of}
use Rattle.pic_tile.specs.Directions.{directions, steps_of, opposite, ring_step}
use Rattle.pic_tile.specs.Tiling.{Tiling, IsMap, cells_of, IsInTile, owner_of, place_beside, neighbour_of}
use Rattle.pic_tile.proofs.RingLaws.{ring_below, ring_back}

-- a cell's part is one of the tiles
pub part_within : (m : Tiling) (c : Triple) → HasTwo m.size → IsWithin c (cells_of m) → IsWithin (part_with m.size c) m.tiles
part_within m c h w =
    let x : 0 < m.size.x = omega (arith, h.x) in
    let y : 0 < m.size.y = omega (arith, h.y) in
    let z : 0 < m.size.z = omega (arith, h.z) in
    record {
      x = div_below c.x m.size.x m.tiles.x x w.x;
      y = div_below c.y m.size.y m.tiles.y y w.y;
      z = div_below c.z m.size.z m.tiles.z z w.z;
    }

-- the place of a cell's tile
pub owner_place : (m : Tiling) (c : Triple) → HasTwo m.size → IsWithin c (cells_of m) → cell_of m.tiles (owner_of m c) ≡ part_with m.size c
owner_place m c h w = cell_of-index_of m.tiles (part_with m.size c) (part_within m c h w)

pub owner_below : (m : Tiling) (c : Triple) → HasTwo m.size → IsWithin c (cells_of m) → owner_of m c < count_of m.tiles
owner_below m c h w = index_of_below m.tiles (part_with m.size c) (part_within m c h w)

-- a cell's tile has it
pub owner_has : (m : Tiling) (c : Triple) → IsMap m → IsWithin c (cells_of m) → IsInTile m (owner_of m c) c
owner_has m c h w =
    let part = owner_place m c h.thick w in
    subst (λ (p : Triple). InZone (corner_of m.size p) m.size (unwrapped c)) (sym part) (in_part m.size c h.layers)

-- the row of a number between its ends
row_is : (c p s : ℕ) → pos (p * s) ≤ℤ pos c → pos c <ℤ (pos (p * s) +ℤ pos s) → c / s ≡ p
row_is c p s low high =
    let least : p * s ≤ c = omega (arith, ints) in
    let rest : c - p * s < s = omega (arith, ints) in
    let whole : c ≡ p * s + (c - p * s) = omega arith in
    ap (λ (d : ℕ). d / s) whole ∙ div-mul-add p s (c - p * s) rest

-- and no other has it
pub owner_only : (m : Tiling) (t : ℕ) (c : Triple) → IsInTile m t c → owner_of m c ≡ t
owner_only m t c h =
    let p = cell_of m.tiles t in
    let x : c.x / m.size.x ≡ p.x = row_is c.x p.x m.size.x h.x_low h.x_high in
    let y : c.y / m.size.y ≡ p.y = row_is c.y p.y m.size.y h.y_low h.y_high in
    let z : c.z / m.size.z ≡ p.z = row_is c.z p.z m.size.z h.z_low h.z_high in
    let part : part_with m.size c ≡ p = (λ i. record { x = x i; y = y i; z = z i }) in
    ap (index_of m.tiles) part ∙ index_of-cell_of m.tiles t

-- steps lead to places of tiles, and back
pub stepped_within : (n e p : Triple) → IsWithin p n → IsWithin (place_beside n e p) n
stepped_within n e p w = record { x = ring_below n.x e.x p.x w.x; y = ring_below n.y e.y p.y w.y; z = ring_below n.z e.z p.z w.z }

pub steps_back : (d : ℕ) → d < directions → steps_of (opposite d) ≡ record { x = 2 - d % 3; y = 2 - d / 3 % 3; z = 2 - d / 9 }
steps_back d h =
    let x : (26 - d) % 3 ≡ 2 - d % 3 = omega arith in
    let y : (26 - d) / 3 % 3 ≡ 2 - d / 3 % 3 = omega arith in
    let z : (26 - d) / 9 ≡ 2 - d / 9 = omega arith in
    λ i. record { x = x i; y = y i; z = z i }

stepped_back : (n p : Triple) (d : ℕ) → d < directions → IsWithin p n → place_beside n (steps_of (opposite d)) (place_beside n (steps_of d) p) ≡ p
stepped_back n p d h w =
    let x : ring_step n.x (2 - d % 3) (ring_step n.x (d % 3) p.x) ≡ p.x = ring_back n.x (d % 3) p.x w.x (omega arith) in
    let y : ring_step n.y (2 - d / 3 % 3) (ring_step n.y (d / 3 % 3) p.y) ≡ p.y = ring_back n.y (d / 3 % 3) p.y w.y (omega arith) in
    let z : ring_step n.z (2 - d / 9) (ring_step n.z (d / 9) p.z) ≡ p.z = ring_back n.z (d / 9) p.z w.z (omega arith) in
    let steps : Triple = record { x = 2 - d % 3; y = 2 - d / 3 % 3; z = 2 - d / 9 } in
    let back : place_beside n steps (place_beside n (steps_of d) p) ≡ p = (λ i. record { x = x i; y = y i; z = z i }) in
    ap (λ (e : Triple). place_beside n e (place_beside n (steps_of d) p)) (steps_back d h) ∙ back

-- the neighbour's neighbour by the direction back
pub neighbour_back : (n : Triple) (t d : ℕ) → t < count_of n → d < directions → neighbour_of n (neighbour_of n t d) (opposite d) ≡ t
neighbour_back n t d h k =
    let w = cell_of_within n t h in
    let next = place_beside n (steps_of d) (cell_of n t) in
    let place : cell_of n (index_of n next) ≡ next = cell_of-index_of n next (stepped_within n (steps_of d) (cell_of n t) w) in
    ap (λ (p : Triple). index_of n (place_beside n (steps_of (opposite d)) p)) place
    ∙ ap (index_of n) (stepped_back n (cell_of n t) d k w)
    ∙ index_of-cell_of n t
