-- A lattice with a part for each layer of z: the block of a layer has the layer's components.
use Rattle.std.proofs.Common.{◌≡◌, ℕ, pos, ◌+◌, ◌*◌, ◌/◌, ◌%◌, ◌<◌, List, length, slice_index_or, refl, sym, ◌∙◌, ap, subst, arith}
use Rattle.std.proofs.lemmas.Nat.{div-add-mod', div_below}
use Rattle.std.proofs.Math.Nat.{div-one, div_self}
use Rattle.std.proofs.Math.IntN.{ℤ}
use Rattle.pic_num.specs.Sizes.{IsAtMost}
use Rattle.pic_num.specs.Space.{Triple, Spot, unwrapped, axis_number}
use Rattle.pic_block.specs.Cells.{Grid, IsCells, IsWithin, count_of, index_of, place_of}
use Rattle.pic_block.specs.Block.{BlockValues, inner_of, edge_at, no_block}
use Rattle.pic_block.specs.Weak.{most_weak, AreWeak}
use Rattle.pic_grid.specs.Lattice.{Field, IsParts}
use Rattle.pic_grid.specs.Parts.{part_size, part_with, layered, IsPart, ArePartsOf, joined, IsLayer, IsWeakLayer}
use Rattle.pic_grid.proofs.PartLaws.{number_of, block_of, value_at-joined}
use Rattle.pic_grid.proofs.RunLaws.{here, above_corner}

-- a layer of weak values is weak
pub weak_layer : (f : Field) (z : ℕ) (values : List ℤ) → IsLayer f z values → AreWeak values → IsWeakLayer f z
weak_layer f z values is are = record {
  at = λ a x y in_x in_y. subst (λ (v : ℤ). IsAtMost v most_weak) (is.at a x y in_x in_y) (are.at (axis_number a * (f.cells.x * f.cells.y) + y * f.cells.x + x));
}

-- a cell's part is the only one on an axis of one part
pub none_over : (n x : ℕ) → x < n → x / n ≡ 0
none_over n x below =
    let low : x / n < 1 = div_below x n 1 (omega (arith, below)) (omega (arith, below)) in
    omega (arith, low)

pub whole_rest : (n x : ℕ) → x < n → x % n ≡ x
whole_rest n x below =
    let whole : x / n * n + x % n ≡ x = div-add-mod' x n in
    let product : x / n * n ≡ 0 * n = ap (λ (m : ℕ). m * n) (none_over n x below) in
    omega (arith, whole, product)

one_rest : (z : ℕ) → z % 1 ≡ 0
one_rest z =
    let whole : z / 1 * 1 + z % 1 ≡ z = div-add-mod' z 1 in
    let same = div-one z in
    omega (arith, whole, same)

layer_place : (d nx ny y x : ℕ) → d * (nx * ny * 1) + ((0 * ny + y) * nx + x) ≡ d * (nx * ny) + y * nx + x
layer_place d nx ny y x = omega arith

module _ (grid : Grid) (parts : Triple) (blocks : List BlockValues) (h : IsCells grid.n) (k : IsParts grid.n parts) (are : ArePartsOf grid.n parts blocks)
    (is : parts ≡ layered grid.n)
  where
    abbrev n : Triple
    n = grid.n

    abbrev thin : Triple
    thin = record { x = n.x; y = n.y; z = 1 }

    size_is : part_size n parts ≡ thin
    size_is =
        let some : 0 < n.z = omega (arith, h.z_least) in
        ap (part_size n) is ∙ (λ i. record { x = div-one n.x i; y = div-one n.y i; z = div_self {n = n.z} some i })

    part_is : (p : Triple) → IsWithin p n → part_with (part_size n parts) p ≡ record { x = 0; y = 0; z = p.z }
    part_is p w =
        ap (λ (s : Triple). part_with s p) size_is
        ∙ (λ i. record { x = none_over n.x p.x w.x i; y = none_over n.y p.y w.y i; z = div-one p.z i })

    number_is : (p : Triple) → IsWithin p n → number_of n parts p ≡ p.z
    unfolding index_of
    number_is p w =
        let both : number_of n parts p ≡ (p.z * 1 + 0) * 1 + 0 = λ i. index_of (is i) (part_is p w i) in
        both ∙ omega arith

    -- there is a block for each layer,
    pub layer_below : (z : ℕ) → z < n.z → z < length blocks
    layer_below z below =
        let count : length blocks ≡ 1 * 1 * n.z = are.count ∙ ap count_of is in
        omega (arith, below, count)

    -- that of the layer z has its components
    module _ (z : ℕ) (b : BlockValues) (below : z < n.z) (of : b ≡ slice_index_or blocks z no_block) (whole : length b.values ≡ 3 * count_of b.size)
      where
        abbrev cell : ℕ → ℕ → Triple
        cell x y = record { x = x; y = y; z = z }

        of_cell : (p : Triple) → IsWithin p n → p.z ≡ z → b ≡ block_of n parts blocks p
        of_cell p w in_layer = of ∙ ap (λ (m : ℕ). slice_index_or blocks m no_block) (sym (number_is p w ∙ in_layer))

        part : (p : Triple) → IsWithin p n → p.z ≡ z → IsPart (part_size n parts) (part_with (part_size n parts) p) b
        part p w in_layer =
            subst (λ (d : BlockValues). IsPart (part_size n parts) (part_with (part_size n parts) p) d) (sym (of_cell p w in_layer))
            (here n parts blocks p h k are w)

        size : b.size ≡ thin
        size =
            let w : IsWithin (cell 0 0) n = record { x = omega (arith, h.x_least); y = omega (arith, h.y_least); z = below } in
            (part (cell 0 0) w refl).size ∙ size_is

        inner : (x y : ℕ) → (w : IsWithin (cell x y) n) → inner_of b.low (unwrapped (cell x y)) ≡ record { x = x; y = y; z = 0 }
        inner x y w =
            let s = part_size n parts in
            let at_x = above_corner s.x x ∙ ap (λ (m : Triple). x % m.x) size_is ∙ whole_rest n.x x w.x in
            let at_y = above_corner s.y y ∙ ap (λ (m : Triple). y % m.y) size_is ∙ whole_rest n.y y w.y in
            let at_z = above_corner s.z z ∙ ap (λ (m : Triple). z % m.z) size_is ∙ one_rest z in
            ap (λ (l : Spot). inner_of l (unwrapped (cell x y))) (part (cell x y) w refl).low ∙ (λ i. record { x = at_x i; y = at_y i; z = at_z i })

        pub is_layer : IsLayer (joined grid parts blocks) z b.values
        unfolding place_of index_of
        is_layer = record {
          long = whole ∙ ap (λ (m : Triple). 3 * count_of m) size ∙ omega arith;
          at = λ a x y in_x in_y.
              let w : IsWithin (cell x y) n = record { x = in_x; y = in_y; z = below } in
              let place : place_of b.size a (inner_of b.low (unwrapped (cell x y))) ≡ axis_number a * (n.x * n.y) + y * n.x + x =
              (λ i. place_of (size i) a (inner x y w i)) ∙ layer_place (axis_number a) n.x n.y y x in
              ap (λ (m : ℕ). slice_index_or b.values m (pos 0)) (sym place)
              ∙ ap (λ (d : BlockValues). edge_at d a (unwrapped (cell x y))) (of_cell (cell x y) w refl)
              ∙ sym (value_at-joined grid parts blocks a (cell x y) w);
        }
