-- A lattice of one part: its block has all components, in the order of places.
use Rattle.std.proofs.Common.{◌≡◌, ℕ, ℤ, pos, ◌+◌, ◌*◌, ◌%◌, ◌<◌, ◌≤◌, List, length, drop, slice_index_or, slice_set, sym, ◌∙◌, ap, subst, arith}
use Rattle.std.proofs.lemmas.List.{get_or-set_same, length-drop}
use Rattle.std.proofs.Math.Nat.{div-one}
use Rattle.pic_num.specs.Space.{Triple, Spot, unwrapped}
use Rattle.pic_block.specs.Cells.{Grid, IsCells, IsWithin, count_of, index_of, place_of}
use Rattle.pic_block.specs.Block.{BlockValues, inner_of, edge_at, overwritten, no_block}
use Rattle.pic_block.proofs.WrittenLaws.{written_long}
use Rattle.pic_grid.specs.Lattice.{IsParts, values_of, with_places}
use Rattle.pic_grid.specs.Parts.{part_size, part_with, one_part, IsPart, ArePartsOf, IsLattice, value_in, joined}
use Rattle.pic_grid.proofs.LatticeLaws.{length-values_of, same_values}
use Rattle.pic_grid.proofs.LayeredLaws.{none_over, whole_rest}
use Rattle.pic_grid.proofs.PartLaws.{number_of, block_of, value_at-joined, are_parts_with}
use Rattle.pic_grid.proofs.RunLaws.{here, above_corner}

-- a list stays as long
pub length-overwritten : (first : ℕ) (vs xs : List ℤ) → first + length vs ≤ length xs → length (overwritten first vs xs) ≡ length xs
length-overwritten first vs xs room =
    let all = written_long xs vs (drop (first + length vs) xs) first (omega (arith, room)) in
    omega (arith, room, length-drop (first + length vs) xs, all)

module _ (grid : Grid) (parts : Triple) (blocks : List BlockValues) (h : IsCells grid.n) (k : IsParts grid.n parts) (are : ArePartsOf grid.n parts blocks)
    (is : parts ≡ one_part)
  where
    abbrev n : Triple
    n = grid.n

    size_is : part_size n parts ≡ n
    size_is = ap (part_size n) is ∙ (λ i. record { x = div-one n.x i; y = div-one n.y i; z = div-one n.z i })

    part_is : (p : Triple) → IsWithin p n → part_with (part_size n parts) p ≡ record { x = 0; y = 0; z = 0 }
    part_is p w =
        ap (λ (s : Triple). part_with s p) size_is
        ∙ (λ i. record { x = none_over n.x p.x w.x i; y = none_over n.y p.y w.y i; z = none_over n.z p.z w.z i })

    number_is : (p : Triple) → IsWithin p n → number_of n parts p ≡ 0
    unfolding index_of
    number_is p w =
        let both : number_of n parts p ≡ (0 * 1 + 0) * 1 + 0 = λ i. index_of (is i) (part_is p w i) in
        both ∙ omega arith

    -- there is one,
    pub only_one : 0 < length blocks
    only_one =
        let count : length blocks ≡ 1 * 1 * 1 = are.count ∙ ap count_of is in
        omega (arith, count)

    -- and it has the lattice's values
    module _ (b : BlockValues) (of : b ≡ slice_index_or blocks 0 no_block)
      where
        of_cell : (p : Triple) → IsWithin p n → b ≡ block_of n parts blocks p
        of_cell p w = of ∙ ap (λ (m : ℕ). slice_index_or blocks m no_block) (sym (number_is p w))

        part : (p : Triple) → IsWithin p n → IsPart (part_size n parts) (part_with (part_size n parts) p) b
        part p w =
            subst (λ (d : BlockValues). IsPart (part_size n parts) (part_with (part_size n parts) p) d) (sym (of_cell p w)) (here n parts blocks p h k are w)

        pub size : b.size ≡ n
        size =
            let w : IsWithin (record { x = 0; y = 0; z = 0 }) n =
            record { x = omega (arith, h.x_least); y = omega (arith, h.y_least); z = omega (arith, h.z_least) } in
            (part (record { x = 0; y = 0; z = 0 }) w).size ∙ size_is

        inner : (p : Triple) → IsWithin p n → inner_of b.low (unwrapped p) ≡ p
        inner p w =
            let s = part_size n parts in
            let at_x = above_corner s.x p.x ∙ ap (λ (m : Triple). p.x % m.x) size_is ∙ whole_rest n.x p.x w.x in
            let at_y = above_corner s.y p.y ∙ ap (λ (m : Triple). p.y % m.y) size_is ∙ whole_rest n.y p.y w.y in
            let at_z = above_corner s.z p.z ∙ ap (λ (m : Triple). p.z % m.z) size_is ∙ whole_rest n.z p.z w.z in
            ap (λ (l : Spot). inner_of l (unwrapped p)) (part p w).low ∙ (λ i. record { x = at_x i; y = at_y i; z = at_z i })

        pub values_are : length b.values ≡ 3 * count_of b.size → values_of n (value_in n parts blocks) ≡ b.values
        values_are whole =
            same_values n (values_of n (value_in n parts blocks)) b.values (length-values_of n (value_in n parts blocks))
            (whole ∙ ap (λ (m : Triple). 3 * count_of m) size) (λ a p w.
            value_at-joined grid parts blocks a p w
            ∙ ap (λ (d : BlockValues). edge_at d a (unwrapped p)) (sym (of_cell p w))
            ∙ (λ i. slice_index_or b.values (place_of (size i) a (inner p w i)) (pos 0)))

-- its block overwritten is the lattice overwritten
module _ (grid : Grid) (parts s : Triple) (blocks : List BlockValues) (l : IsLattice grid.n parts s blocks) (is : parts ≡ one_part) (first : ℕ) (vs : List ℤ)
    (b new : BlockValues) (of : b ≡ slice_index_or blocks 0 no_block) (whole : length b.values ≡ 3 * count_of b.size)
    (room : first + length vs ≤ 3 * count_of grid.n) (after : new ≡ record b { values = overwritten first vs b.values })
  where
    now : List BlockValues
    now = slice_set blocks 0 new

    read : new ≡ slice_index_or (slice_set blocks 0 new) 0 no_block
    read = sym (get_or-set_same blocks 0 new no_block (only_one grid parts blocks l.cells l.parts_fit l.zones is))

    zones : ArePartsOf grid.n parts (slice_set blocks 0 new)
    zones = are_parts_with grid.n parts blocks 0 new l.zones (ap (λ (d : BlockValues). d.low) after ∙ ap (λ (d : BlockValues). d.low) of)
        (ap (λ (d : BlockValues). d.size) after ∙ ap (λ (d : BlockValues). d.size) of)

    pub overwritten_kept : IsLattice grid.n parts s (slice_set blocks 0 new)
    overwritten_kept = record { cells = l.cells; parts_fit = l.parts_fit; layers = l.layers; zones = zones }

    fits : first + length vs ≤ length b.values
    fits =
        let cells : 3 * count_of b.size ≡ 3 * count_of grid.n =
        ap (λ (m : Triple). 3 * count_of m) (size grid parts blocks l.cells l.parts_fit l.zones is b of) in
        omega (arith, room, whole, cells)

    long : length new.values ≡ 3 * count_of new.size
    long = ap (λ (d : BlockValues). length d.values) after ∙ length-overwritten first vs b.values fits ∙ whole
        ∙ ap (λ (d : BlockValues). 3 * count_of d.size) (sym after)

    pub overwritten_is : joined grid parts (slice_set blocks 0 new) ≡ with_places (joined grid parts blocks) first vs
    overwritten_is =
        let before = values_are grid parts blocks l.cells l.parts_fit l.zones is b of whole in
        let then = values_are grid parts (slice_set blocks 0 new) l.cells l.parts_fit zones is new read long in
        let values = then ∙ ap (λ (d : BlockValues). d.values) after ∙ ap (overwritten first vs) (sym before) in
        λ i. record { cells = grid.n; side = grid.side; parts = parts; values = values i }
