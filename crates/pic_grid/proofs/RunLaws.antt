-- Runs of a lattice: the cells from one to the end of its part lie in one block, side by side.
use Rattle.std.proofs.Common.{◌≡◌, ℕ, ℤ, pos, ◌+◌, ◌*◌, ◌/◌, ◌%◌, ◌<◌, ◌≤◌, ◌-ℤ◌, List, slice_index_or, unsigned_abs, sym, ◌∙◌, ap, subst, arith}
use Rattle.std.proofs.lemmas.Int.{ints}
use Rattle.std.proofs.lemmas.Nat.{div-add-mod', div-mul-add}
use Rattle.std.proofs.Math.Nat.{mul-le-mul_right}
use Rattle.pic_num.specs.declared.axis.Axis.{Axis}
use Rattle.pic_num.specs.Space.{Triple, Spot, unwrapped}
use Rattle.pic_block.specs.Cells.{IsCells, IsWithin, index_of}
use Rattle.pic_block.specs.Block.{BlockValues, inner_of, edge_at, inner_at, no_block}
use Rattle.pic_block.specs.Rows.{part_end}
use Rattle.pic_block.proofs.CellLaws.{cell_of-index_of, index_of_below}
use Rattle.pic_grid.specs.Lattice.{IsParts, value_at}
use Rattle.pic_grid.specs.Parts.{part_size, part_with, IsPart, ArePartsOf, joined}
use Rattle.pic_grid.proofs.PartLaws.{cut, part_size_limits, part_of_within, block_of, value_at-joined}

-- the part of a layer below that part's end
same_layer : (s x i : ℕ) → 1 ≤ s → x + i < part_end s x → (x + i) / s ≡ x / s
same_layer s x i some below =
    let whole : x / s * s + x % s ≡ x = div-add-mod' x s in
    let rest : x % s + i < s = omega arith in
    let split : x + i ≡ x / s * s + (x % s + i) = omega arith in
    ap (λ (j : ℕ). j / s) split ∙ div-mul-add (x / s) s (x % s + i) rest

-- how far a layer lies above the lowest of its part
pub above_corner : (s x : ℕ) → unsigned_abs (pos x -ℤ pos (x / s * s)) ≡ x % s
above_corner s x =
    let whole : x / s * s + x % s ≡ x = div-add-mod' x s in
    omega (arith, ints)

above_more : (s x i : ℕ) → unsigned_abs (pos (x + i) -ℤ pos (x / s * s)) ≡ x % s + i
above_more s x i =
    let whole : x / s * s + x % s ≡ x = div-add-mod' x s in
    omega (arith, ints)

module _ (n parts : Triple) (blocks : List BlockValues) (p : Triple) (h : IsCells n) (k : IsParts n parts) (are : ArePartsOf n parts blocks) (w : IsWithin p n)
  where
    abbrev s : Triple
    s = part_size n parts

    abbrev b : BlockValues
    b = block_of n parts blocks p

    -- the block of a cell's part
    pub here : IsPart s (part_with s p) b
    here =
        let among = part_of_within n parts p h k w in
        let zone = are.zones (index_of parts (part_with s p)) (index_of_below parts (part_with s p) among) in
        subst (λ (q : Triple). IsPart s q b) (cell_of-index_of parts (part_with s p) among) zone

    some : 1 ≤ s.x
    some = (part_size_limits n parts h k).x_least

    low : b.low.x ≡ pos (p.x / s.x * s.x)
    low = ap (λ (l : Spot). l.x) here.low

    -- the part of the cell p ends among the cells, as does a run from there,
    pub run_inside : part_end s.x p.x ≤ n.x
    run_inside =
        let part : p.x / s.x < parts.x = (part_of_within n parts p h k w).x in
        let whole : parts.x * s.x ≡ n.x = (cut n parts h k).x.whole in
        let up : (p.x / s.x + 1) * s.x ≤ parts.x * s.x = mul-le-mul_right s.x (omega arith) in
        omega arith

    -- each value before the end is that of the lattice
    pub run_value : (side : ℕ) (a : Axis) (i : ℕ) → p.x + i < part_end s.x p.x
        → inner_at b a (record (inner_of b.low (unwrapped p)) { x = (inner_of b.low (unwrapped p)).x + i })
        ≡ value_at (joined (record { n = n; side = side }) parts blocks) a (record p { x = p.x + i })
    run_value side a i below =
        let q = record p { x = p.x + i } in
        let in_x : p.x + i < n.x = omega (arith, run_inside) in
        let inside : IsWithin q n = record { x = in_x; y = w.y; z = w.z } in
        let part : part_with s q ≡ part_with s p = λ j. record { x = same_layer s.x p.x i some below j; y = p.y / s.y; z = p.z / s.z } in
        let at_x : (inner_of b.low (unwrapped p)).x + i ≡ (inner_of b.low (unwrapped q)).x =
        ap (λ (l : ℤ). unsigned_abs (pos p.x -ℤ l) + i) low
        ∙ ap (λ (m : ℕ). m + i) (above_corner s.x p.x)
        ∙ sym (above_more s.x p.x i)
        ∙ sym (ap (λ (l : ℤ). unsigned_abs (pos (p.x + i) -ℤ l)) low) in
        ap (λ (m : ℕ). inner_at b a (record (inner_of b.low (unwrapped p)) { x = m })) at_x
        ∙ sym (ap (λ (m : Triple). edge_at (slice_index_or blocks (index_of parts m) no_block) a (unwrapped q)) part)
        ∙ sym (value_at-joined (record { n = n; side = side }) parts blocks a q inside)
