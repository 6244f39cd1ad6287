-- The blocks of a lattice lie among its cells, and each cell in one of them.
use Rattle.std.proofs.Common.{◌≡◌, ℕ, ℤ, pos, ◌+◌, ◌*◌, ◌/◌, ◌<◌, ◌≤◌, ◌-ℤ◌, ◌≤ℤ◌, List, unsigned_abs, sym, subst, arith}
use Rattle.std.proofs.lemmas.Int.{ints}
use Rattle.pic_num.specs.Space.{Triple, Spot, unwrapped}
use Rattle.pic_num.proofs.SizeLaws.{times_at_most}
use Rattle.pic_block.specs.Block.{BlockValues, InZone, IsAmongCells, inner_of, outer_of}
use Rattle.pic_block.specs.Cells.{IsCells, IsWithin, count_of, cell_of}
use Rattle.pic_block.proofs.CellLaws.{cell_of_within}
use Rattle.pic_grid.specs.Lattice.{IsParts}
use Rattle.pic_grid.specs.Parts.{part_size, ArePartsOf}
use Rattle.pic_grid.proofs.PartLaws.{IsAxisCut, cut}
use Rattle.pic_advance.specs.Blocks.{block_in}

-- the layers of a part on an axis end among the n cells
part_end : (n k c : ℕ) → IsAxisCut n k → c < k → c * (n / k) + n / k ≤ n
part_end n k c h below =
    let whole : k * (n / k) ≡ n = h.whole in
    let up : (c + 1) * (n / k) ≤ k * (n / k) = times_at_most (c + 1) (n / k) k (n / k) (omega (arith, below)) (omega arith) in
    omega (arith, whole, up)

-- the blocks lie among the cells
pub part_among : (n parts : Triple) (blocks : List BlockValues) (i : ℕ) → IsCells n → IsParts n parts → ArePartsOf n parts blocks → i < count_of parts
    → IsAmongCells (block_in blocks i).low (block_in blocks i).size n
part_among n parts blocks i h k are below =
    let c = cut n parts h k in
    let p = cell_of parts i in
    let w = cell_of_within parts i below in
    let zone = are.zones i below in
    let s = part_size n parts in
    let here : IsAmongCells (record { x = pos (p.x * s.x); y = pos (p.y * s.y); z = pos (p.z * s.z) }) s n = record {
      x_low = omega (arith, ints);
      x_high = part_end n.x parts.x p.x c.x w.x;
      y_low = omega (arith, ints);
      y_high = part_end n.y parts.y p.y c.y w.y;
      z_low = omega (arith, ints);
      z_high = part_end n.z parts.z p.z c.z w.z;
    } in
    subst (λ (l : Spot). IsAmongCells l (block_in blocks i).size n) (sym zone.low)
    (subst (λ (m : Triple). IsAmongCells (record { x = pos (p.x * s.x); y = pos (p.y * s.y); z = pos (p.z * s.z) }) m n) (sym zone.size) here)

back : (l : ℤ) (c : ℕ) → pos 0 ≤ℤ l → l ≤ℤ pos c → unsigned_abs l + unsigned_abs (pos c -ℤ l) ≡ c
back l c h k = omega (arith, ints, h, k)

-- a cell of a zone is that which lies as far above the lowest
pub outer_of-inner_of : (low : Spot) (size n p : Triple) → IsAmongCells low size n → InZone low size (unwrapped p)
    → outer_of low (inner_of low (unwrapped p)) ≡ p
outer_of-inner_of low size n p h inside =
    let x = back low.x p.x h.x_low inside.x_low in
    let y = back low.y p.y h.y_low inside.y_low in
    let z = back low.z p.z h.z_low inside.z_low in
    λ i. record { x = x i; y = y i; z = z i }

-- and lies among the cells
pub outer_within : (low : Spot) (size n p : Triple) → IsAmongCells low size n → IsWithin p size → IsWithin (outer_of low p) n
outer_within low size n p h w =
    let x = w.x in
    let y = w.y in
    let z = w.z in
    let x_high = h.x_high in
    let y_high = h.y_high in
    let z_high = h.z_high in
    record { x = omega (arith, x, x_high); y = omega (arith, y, y_high); z = omega (arith, z, z_high) }
