-- Places of a lattice by three slots: the sums of their shares are the number of the cell's part and
-- the number of its place in the part's block.
use Rattle.std.proofs.Common.{◌≡◌, ℕ, pos, ◌+◌, ◌-◌, ◌*◌, ◌/◌, ◌%◌, ◌<◌, ◌≤◌, List, length, drop, take, slice_index_or, sym, ◌∙◌, ap, subst, arith}
use Rattle.std.proofs.lemmas.Nat.{div-add-mod'}
use Rattle.pic_num.specs.declared.axis.Axis.{Axis}
use Rattle.pic_num.specs.Space.{Triple, Spot, axis_number, unwrapped}
use Rattle.pic_block.specs.Block.{BlockValues, inner_of, edge_at, inner_at}
use Rattle.pic_block.specs.Cells.{Grid, IsWithin, count_of, index_of, place_of}
use Rattle.pic_block.specs.Rows.{part_end}
use Rattle.pic_block.proofs.BlockLaws.{inner_within}
use Rattle.pic_block.proofs.CellLaws.{place_of_below}
use Rattle.pic_block.proofs.RowLaws.{place_of-row, place_of-along, row_fits, part_at}
use Rattle.pic_grid.specs.declared.slot.Slot.{Slot}
use Rattle.pic_grid.specs.Lattice.{Field, value_at}
use Rattle.pic_grid.specs.Parts.{part_size, part_with, corner_of, IsPart, IsLattice, joined}
use Rattle.pic_grid.specs.Slot.{IsSlotX, IsSlotY, IsSlotZ}
use Rattle.pic_grid.proofs.PartLaws.{block_of, block_has, lattice_below, lattice_block, value_at-joined}
use Rattle.pic_grid.proofs.RunLaws.{here, above_corner, run_inside, run_value}

number_sum : (a b c px py : ℕ) → a * 1 + b * px + c * (px * py) ≡ (c * py + b) * px + a
number_sum a b c px py = omega arith

-- three slots, one of each axis
pub record AreSlots (n parts : Triple) (u v w : Slot) : Type 0 where
  pub x : IsSlotX n parts u
  pub y : IsSlotY n parts v
  pub z : IsSlotZ n parts w

pub slots_of : (grid : Grid) (parts : Triple) (blocks : List BlockValues) (f : Field) (x y z : Slot) → joined grid parts blocks ≡ f
    → IsSlotX f.cells f.parts x → IsSlotY f.cells f.parts y → IsSlotZ f.cells f.parts z → AreSlots grid.n parts x y z
slots_of grid parts blocks f x y z view on_x on_y on_z =
    subst (λ (g : Field). AreSlots g.cells g.parts x y z) (sym view) (record { x = on_x; y = on_y; z = on_z })

-- three slots of a lattice, and the cell that they are of
module _ (n parts s : Triple) (blocks : List BlockValues) (x y z : Slot) (l : IsLattice n parts s blocks) (on : AreSlots n parts x y z)
  where
    abbrev p : Triple
    p = record { x = x.index; y = y.index; z = z.index }

    abbrev part : ℕ
    part = x.part + y.part + z.part

    abbrev place : ℕ
    place = x.place + y.place + z.place

    pub slots_within : IsWithin p n
    slots_within = record { x = on.x.within; y = on.y.within; z = on.z.within }

    part_is : part ≡ index_of parts (part_with (part_size n parts) p)
    unfolding index_of
    part_is =
        (λ i. on.x.part i + on.y.part i + on.z.part i)
        ∙ number_sum (x.index / (part_size n parts).x) (y.index / (part_size n parts).y) (z.index / (part_size n parts).z) parts.x parts.y

    number : part ≡ index_of parts (part_with s p)
    number = part_is ∙ ap (λ (m : Triple). index_of parts (part_with m p)) (sym l.layers)

    -- their part is one of the parts
    slots_below : part < length blocks
    slots_below = lattice_below n parts s blocks p part l slots_within number

    abbrev inner : Triple
    inner = record { x = x.index % (part_size n parts).x; y = y.index % (part_size n parts).y; z = z.index % (part_size n parts).z }

    place_is : (a : Axis) → axis_number a * count_of (part_size n parts) + place ≡ place_of (part_size n parts) a inner
    unfolding place_of index_of
    place_is a =
        ap (λ (m : ℕ). axis_number a * count_of (part_size n parts) + m)
        ((λ i. on.x.place i + on.y.place i + on.z.place i)
        ∙ number_sum inner.x inner.y inner.z (part_size n parts).x (part_size n parts).y)

    inner_is : inner_of (corner_of (part_size n parts) (part_with (part_size n parts) p)) (unwrapped p) ≡ inner
    inner_is i = record {
      x = above_corner (part_size n parts).x x.index i;
      y = above_corner (part_size n parts).y y.index i;
      z = above_corner (part_size n parts).z z.index i;
    }

    -- what was read there is the block of the cell's part
    module _ (b : BlockValues) (read : b ≡ slice_index_or blocks part b)
      where
        block : b ≡ block_of n parts blocks p
        block = lattice_block n parts s blocks p part b l slots_within number read

        zone : IsPart (part_size n parts) (part_with (part_size n parts) p) b
        zone = subst (IsPart (part_size n parts) (part_with (part_size n parts) p)) (sym block) (here n parts blocks p l.cells l.parts_fit l.zones slots_within)

        at : (a : Axis) → axis_number a * count_of s + place ≡ place_of b.size a (inner_of b.low (unwrapped p))
        at a =
            ap (λ (m : Triple). axis_number a * count_of m + place) l.layers
            ∙ place_is a
            ∙ ap (place_of (part_size n parts) a) (sym inner_is)
            ∙ sym (λ i. place_of (zone.size i) a (inner_of (zone.low i) (unwrapped p)))

        has : IsWithin (inner_of b.low (unwrapped p)) b.size
        has =
            subst (λ (c : BlockValues). IsWithin (inner_of c.low (unwrapped p)) c.size) (sym block)
            (inner_within _ _ (unwrapped p) (block_has n parts blocks p l.cells l.parts_fit l.zones slots_within))

        -- which has the cell's place,
        pub slots_place : (a : Axis) → length b.values ≡ 3 * count_of b.size → axis_number a * count_of s + place < length b.values
        slots_place a size =
            let below = place_of_below b.size a (inner_of b.low (unwrapped p)) has in
            omega (arith, below, size, at a)

        -- and there its value
        pub slots_value : (side : ℕ) (a : Axis)
            → slice_index_or b.values (axis_number a * count_of s + place) (pos 0) ≡ value_at (joined (record { n = n; side = side }) parts blocks) a p
        slots_value side a =
            ap (λ (m : ℕ). slice_index_or b.values m (pos 0)) (at a)
            ∙ ap (λ (c : BlockValues). edge_at c a (unwrapped p)) block
            ∙ sym (value_at-joined (record { n = n; side = side }) parts blocks a p slots_within)

        inner_x : (inner_of b.low (unwrapped p)).x ≡ x.place
        inner_x =
            let own : x.index % (part_size n parts).x ≡ x.place = omega (arith, on.x.place) in
            ap (λ (low : Spot). (inner_of low (unwrapped p)).x) zone.low ∙ ap (λ (m : Triple). m.x) inner_is ∙ own

        size_x : b.size.x ≡ s.x
        size_x = ap (λ (m : Triple). m.x) zone.size ∙ ap (λ (m : Triple). m.x) (sym l.layers)

        place_in : x.place < s.x
        place_in = omega (arith, has.x, inner_x, size_x)

        -- the row from there on ends among the block's places,
        pub slots_row : (a : Axis) → length b.values ≡ 3 * count_of b.size → axis_number a * count_of s + place + (s.x - x.place) ≤ length b.values
        slots_row a size =
            let q = inner_of b.low (unwrapped p) in
            let first = place_of-row b.size a q.x q.y q.z in
            let fits = row_fits b.size a q.y q.z has.y has.z in
            omega (arith, at a, first, fits, size, inner_x, size_x, place_in)

        -- with the part,
        pub slots_end : x.index + (s.x - x.place) ≡ part_end (part_size n parts).x x.index
        slots_end =
            let whole : x.index / (part_size n parts).x * (part_size n parts).x + x.index % (part_size n parts).x ≡ x.index =
            div-add-mod' x.index (part_size n parts).x in
            let layers : s.x ≡ (part_size n parts).x = ap (λ (m : Triple). m.x) l.layers in
            omega (arith, on.x.place, place_in)

        pub slots_inside : x.index + (s.x - x.place) ≤ n.x
        slots_inside = subst (λ (m : ℕ). m ≤ n.x) (sym slots_end) (run_inside n parts blocks p l.cells l.parts_fit l.zones slots_within)

        -- and has the values of the lattice
        pub slots_run : (side : ℕ) (a : Axis) (k i : ℕ) → i < k → x.index + i < part_end (part_size n parts).x x.index
            → slice_index_or (take k (drop (axis_number a * count_of s + place) b.values)) i (pos 0)
            ≡ value_at (joined (record { n = n; side = side }) parts blocks) a (record p { x = x.index + i })
        slots_run side a k i below inside =
            part_at b.values (axis_number a * count_of s + place) k i below
            ∙ ap (λ (m : ℕ). slice_index_or b.values (m + i) (pos 0)) (at a)
            ∙ ap (λ (m : ℕ). slice_index_or b.values m (pos 0)) (sym (place_of-along b.size a (inner_of b.low (unwrapped p)) i))
            ∙ ap (λ (c : BlockValues). inner_at c a (record (inner_of c.low (unwrapped p)) { x = (inner_of c.low (unwrapped p)).x + i })) block
            ∙ run_value n parts blocks p l.cells l.parts_fit l.zones slots_within side a i inside

-- the part of three slots of a lattice is one of its parts, as the code has them
pub slots_index : (grid : Grid) (parts s : Triple) (blocks : List BlockValues) (f : Field) (x y z : Slot) → IsLattice grid.n parts s blocks
    → joined grid parts blocks ≡ f → IsSlotX f.cells f.parts x → IsSlotY f.cells f.parts y → IsSlotZ f.cells f.parts z
    → x.part + y.part + z.part < length blocks
slots_index grid parts s blocks f x y z l view on_x on_y on_z =
    slots_below grid.n parts s blocks x y z l (slots_of grid parts blocks f x y z view on_x on_y on_z)
