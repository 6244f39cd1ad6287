-- A block whose zone lies among the cells of the grid: its cells, counted from the lowest and on the
-- grid.
use Rattle.std.proofs.Common.{◌≡◌, ℕ, ℤ, pos, ◌+◌, ◌<◌, ◌+ℤ◌, ◌-ℤ◌, ◌≤ℤ◌, ◌<ℤ◌, slice_index_or, unsigned_abs, ◌∙◌, ap, arith}
use Rattle.std.proofs.lemmas.Int.{ints}
use Rattle.pic_num.specs.declared.axis.Axis.{Axis}
use Rattle.pic_num.specs.Space.{Triple, Spot, unwrapped}
use Rattle.pic_block.specs.Cells.{IsWithin, place_of}
use Rattle.pic_block.specs.Block.{BlockValues, InZone, IsAmongCells, IsShaped, inner_of, edge_at, inner_at, outer_of}

inner_up : (l : ℤ) (x : ℕ) → pos 0 ≤ℤ l → unsigned_abs (pos (unsigned_abs l + x) -ℤ l) ≡ x
inner_up l x h = omega (arith, ints)

-- the cell that lies p above the lowest lies p above the lowest
pub inner_of-outer_of : (low : Spot) (size n p : Triple) → IsAmongCells low size n → inner_of low (unwrapped (outer_of low p)) ≡ p
inner_of-outer_of low size n p h =
    let x = inner_up low.x p.x h.x_low in
    let y = inner_up low.y p.y h.y_low in
    let z = inner_up low.z p.z h.z_low in
    λ i. record { x = x i; y = y i; z = z i }

outer_low : (l : ℤ) (x : ℕ) → pos 0 ≤ℤ l → l ≤ℤ pos (unsigned_abs l + x)
outer_low l x h = omega (arith, ints)

outer_high : (l : ℤ) (x s : ℕ) → pos 0 ≤ℤ l → x < s → pos (unsigned_abs l + x) <ℤ (l +ℤ pos s)
outer_high l x s h k = omega (arith, ints)

-- it is one of the zone's
pub outer_inside : (low : Spot) (size n p : Triple) → IsAmongCells low size n → IsWithin p size → InZone low size (unwrapped (outer_of low p))
outer_inside low size n p h w = record {
  x_low = outer_low low.x p.x h.x_low;
  x_high = outer_high low.x p.x size.x h.x_low w.x;
  y_low = outer_low low.y p.y h.y_low;
  y_high = outer_high low.y p.y size.y h.y_low w.y;
  z_low = outer_low low.z p.z h.z_low;
  z_high = outer_high low.z p.z size.z h.z_low w.z;
}

-- the component there
pub edge_at-outer : (b : BlockValues) (n : Triple) (a : Axis) (p : Triple) → IsAmongCells b.low b.size n
    → edge_at b a (unwrapped (outer_of b.low p)) ≡ inner_at b a p
edge_at-outer b n a p h =
    ap (λ (q : Triple). slice_index_or b.values (place_of b.size a q) (pos 0)) (inner_of-outer_of b.low b.size n p h)

-- and that of a block of the same zone
pub edge_at-shaped : (j b : BlockValues) (n : Triple) (a : Axis) (p : Triple) → IsShaped j b → IsAmongCells b.low b.size n
    → edge_at j a (unwrapped (outer_of b.low p)) ≡ inner_at j a p
edge_at-shaped j b n a p shaped h =
    (λ i. slice_index_or j.values (place_of j.size a (inner_of (shaped.low i) (unwrapped (outer_of b.low p)))) (pos 0))
    ∙ ap (λ (q : Triple). slice_index_or j.values (place_of j.size a q) (pos 0)) (inner_of-outer_of b.low b.size n p h)
