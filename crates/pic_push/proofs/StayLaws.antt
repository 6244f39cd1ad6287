-- A particle whose path ends in its tile stays in the box, where nothing has to be wrapped.
use Rattle.std.proofs.Common.{◌≡◌, ℕ, ◌+◌, ◌*◌, ◌/◌, ◌%◌, ◌^◌, ◌<◌, ◌≤◌, ◌∙◌, ap, sym, subst, arith}
use Rattle.std.proofs.Math.IntN.{ℤ, pos, negsuc, ◌+ℤ◌, ◌*ℤ◌}
use Rattle.std.proofs.Math.Nat.{mul-le-mul_right}
use Rattle.std.proofs.lemmas.Int.{ints}
use Rattle.std.proofs.lemmas.Nat.{div-add-mod', mod_below}
use Rattle.std.specs.Prelude.{◌≤ℤ◌, ◌<ℤ◌}
use Rattle.pic_num.proofs.RoundingLaws.{residue-unique}
use Rattle.pic_num.proofs.SizeLaws.{times_at_most}
use Rattle.pic_num.specs.declared.motion.Particle.{Particle}
use Rattle.pic_num.specs.Limits.{most_side, most_cells_of_axis}
use Rattle.pic_num.specs.Push.{Shift, plus}
use Rattle.pic_num.specs.Rounding.{residue}
use Rattle.pic_num.specs.Space.{Triple, Spot, triple, unwrapped}
use Rattle.pic_block.proofs.CellLaws.{cell_of_within}
use Rattle.pic_block.specs.Among.{IsOneOf}
use Rattle.pic_block.specs.Block.{InZone}
use Rattle.pic_block.specs.Cells.{count_of, cell_of}
use Rattle.pic_grid.proofs.FloorLaws.{floor_is}
use Rattle.pic_grid.proofs.PathLaws.{floor_low, floor_high}
use Rattle.pic_grid.specs.Hat.{IsInBox, HasTwo}
use Rattle.pic_grid.specs.Parts.{part_with, corner_of}
use Rattle.pic_grid.specs.Path.{floor_of, floor_cell}
use Rattle.pic_grid.specs.PushPhase.{Surroundings}
use Rattle.pic_tile.proofs.LeavingLaws.{tile_below, tile_place}
use Rattle.pic_tile.specs.Layers.{lowest_cell}
use Rattle.pic_tile.specs.Owners.{cell_of_point, tile_of}
use Rattle.pic_tile.specs.Tiling.{Tiling, cells_of}
use Rattle.pic_push.specs.declared.charged_path.Path.{Path}
use Rattle.pic_push.specs.Paths.{IsPathOf, StaysInBox, path_end}

-- a coordinate of the box is its own residue
pub as_it_was : (p : ℤ) (len r : ℕ) → pos r ≡ p → p <ℤ pos len → r ≡ residue p len
as_it_was p len r is below =
    residue-unique p len r (omega (arith, ints, is, below)) (record { below = omega (arith, ints, is, below); turns = (pos 0, omega (arith, ints, is)) })

-- and no large number
pub no_large : (side n : ℕ) (p : ℤ) → side ≤ most_side → n ≤ most_cells_of_axis → IsOneOf (pos 0) (n * side) p → p <ℤ pos (2 ^ 31)
no_large side n p most few on =
    let length = times_at_most n side most_cells_of_axis most_side few most in let below = on.1 in omega (arith, ints, length, below)

-- on one axis the cell of a position is among those of its tile
begins_on : (side n p : ℕ) → 0 < n → IsOneOf (pos (p / side / n * n)) n (floor_of side (pos p))
begins_on side n p thick =
    let c = p / side in
    let rest : c % n < n = mod_below c n thick in
    let whole : c / n * n + c % n ≡ c = div-add-mod' c n in
    let is : floor_of side (pos p) ≡ pos c = floor_is side p in
    (omega (arith, ints, is, whole), omega (arith, ints, is, whole, rest))

-- so a particle of a tile lies in one of its cells
pub begins : (m : Tiling) (x : Particle) (tile : ℕ) (low : Spot) (size : Triple) → 0 < m.side → HasTwo m.size → IsInBox m.side (cells_of m) (triple x.x)
    → tile_of m x ≡ tile → low ≡ lowest_cell m tile → size ≡ m.size → InZone low size (floor_cell m.side (unwrapped (triple x.x)))
begins m x tile low size some thick place own at layers =
    let p = triple x.x in
    let cell = floor_cell m.side (unwrapped p) in
    let on_x = begins_on m.side m.size.x p.x (let two = thick.x in omega (arith, two)) in
    let on_y = begins_on m.side m.size.y p.y (let two = thick.y in omega (arith, two)) in
    let on_z = begins_on m.side m.size.z p.z (let two = thick.z in omega (arith, two)) in
    let corner = corner_of m.size (part_with m.size (cell_of_point m.side p)) in
    let is : low ≡ corner = at ∙ ap (lowest_cell m) (sym own) ∙ ap (corner_of m.size) (tile_place m x some thick place) in
    let inside : InZone corner m.size cell =
    record { x_low = on_x.0; x_high = on_x.1; y_low = on_y.0; y_high = on_y.1; z_low = on_z.0; z_high = on_z.1 }
    in
    subst (λ (n : Triple). InZone low n cell) (sym layers) (subst (λ (l : Spot). InZone l m.size cell) (sym is) inside)

-- on an axis of k tiles of n cells: one whose cell is among those of a tile is on the axis
stays_on : (side k n t : ℕ) (p c : ℤ) → t < k → (c *ℤ pos side) ≤ℤ p → p <ℤ (c *ℤ pos side +ℤ pos side) → pos (t * n) ≤ℤ c → c <ℤ (pos (t * n) +ℤ pos n)
    → IsOneOf (pos 0) (k * n * side) p
stays_on side k n t p (pos c) few low high least below =
    let row : (t + 1) * n ≤ k * n = mul-le-mul_right n (omega arith) in
    let end : (t + 1) * n ≡ t * n + n = omega arith in
    let cells : c + 1 ≤ k * n = omega (arith, ints, row, end, below) in
    let points : (c + 1) * side ≤ k * n * side = mul-le-mul_right side cells in
    let next : (c + 1) * side ≡ c * side + side = omega arith in
    (omega (arith, ints, low), omega (arith, ints, high, points, next))
stays_on side k n t p (negsuc c) few low high least below = absurd (omega (arith, ints, least))

-- a point whose cell is one of a tile's is in the box
stays : (m : Tiling) (tile : ℕ) (p : Spot) → 0 < m.side → tile < count_of m.tiles → InZone (lowest_cell m tile) m.size (floor_cell m.side p)
    → StaysInBox m.side (cells_of m) p
stays m tile p some few inside =
    let at = cell_of m.tiles tile in
    let w = cell_of_within m.tiles tile few in
    record {
      x = stays_on m.side m.tiles.x m.size.x at.x p.x (floor_of m.side p.x) w.x (floor_low m.side p.x some) (floor_high m.side p.x some)
          inside.x_low inside.x_high;
      y = stays_on m.side m.tiles.y m.size.y at.y p.y (floor_of m.side p.y) w.y (floor_low m.side p.y some) (floor_high m.side p.y some)
          inside.y_low inside.y_high;
      z = stays_on m.side m.tiles.z m.size.z at.z p.z (floor_of m.side p.z) w.z (floor_low m.side p.z some) (floor_high m.side p.z some)
          inside.z_low inside.z_high;
    }

-- so is the end of a particle's path that ends in its tile
pub end_stays : (w : Surroundings) (m : Tiling) (x : Particle) (s : Shift) (p : Path) (tile : ℕ) (low : Spot) (size : Triple) (cell : Spot) → 0 < m.side
    → HasTwo m.size → IsInBox m.side (cells_of m) (triple x.x) → IsPathOf w x s p → w.side ≡ m.side → tile_of m x ≡ tile → low ≡ lowest_cell m tile
    → size ≡ m.size → cell ≡ path_end p → InZone low size cell → StaysInBox m.side (cells_of m) (plus (unwrapped (triple x.x)) s.d)
end_stays w m x s p tile low size cell some thick place of same own at layers end inside =
    let side : p.sub ≡ m.side = of.sub_is ∙ same in
    let few : tile < count_of m.tiles = subst (λ (t : ℕ). t < count_of m.tiles) own (tile_below m x some thick place) in
    let led = end ∙ (λ i. floor_cell (side i) (plus (unwrapped (of.from_is i)) (of.by_is i))) in
    stays m tile (plus (unwrapped (triple x.x)) s.d) some few
    (subst (InZone (lowest_cell m tile) m.size) led
    (subst (λ (n : Triple). InZone (lowest_cell m tile) n cell) layers (subst (λ (l : Spot). InZone l size cell) at inside)))
