-- A lattice, taken into its blocks and put together again.
use Rattle.std.proofs.Common.{◌≡◌, ℕ, ℤ, ◌+◌, ◌*◌, ◌/◌, ◌<◌, List, ◌++◌, All, length, take, drop, slice_index_or, refl, sym, ◌∙◌, ap, subst, arith}
use Rattle.std.proofs.lemmas.List.Elements.{All-from_get_or}
use Rattle.std.proofs.lemmas.Nat.{div-mul-add}
use Rattle.std.proofs.Math.Seq.{take-append_seam}
use Rattle.pic_num.specs.declared.axis.Axis.{Axis}
use Rattle.pic_num.specs.Sizes.{IsAtMost}
use Rattle.pic_num.specs.Space.{Triple, Spot, unwrapped}
use Rattle.pic_block.specs.Block.{BlockValues, IsAmongCells, IsShaped, AllAtMost, inner_of, edge_at, inner_at, outer_of, no_block}
use Rattle.pic_block.specs.Cells.{Grid, IsCells, IsWithin, count_of, index_of, cell_of}
use Rattle.pic_block.proofs.BlockLaws.{inner_within}
use Rattle.pic_block.proofs.CellLaws.{index_of-cell_of}
use Rattle.pic_grid.specs.Lattice.{Field, IsParts, EachAtMost, grid_of, value_at, field_of}
use Rattle.pic_grid.specs.Parts.{part_size, corner_of, ArePartsOf, value_in, joined}
use Rattle.pic_grid.proofs.LatticeLaws.{is_field_of, length-values_of}
use Rattle.pic_grid.proofs.PartLaws.{number_of as part_number, block_has, number_below, value_at-joined}
use Rattle.pic_field.proofs.ZoneLaws.{edge_at-outer}
use Rattle.pic_advance.specs.Blocks.{block_in, EachBlock, IsAmong, IsMade}
use Rattle.pic_advance.proofs.ZoneLaws.{part_among, outer_of-inner_of, outer_within}

-- a lattice of n cells is that of these blocks
pub record HasBlocks (n : Triple) (f : Field) (blocks : List BlockValues) : Type 0 where
  pub cells : IsCells n
  pub parts : IsParts n f.parts
  pub zones : ArePartsOf n f.parts blocks
  pub is : f ≡ joined (record { n = n; side = f.side }) f.parts blocks

pub has_blocks : (n : Triple) (f : Field) (blocks : List BlockValues) → f.cells ≡ n → IsCells n → IsParts f.cells f.parts
    → ArePartsOf f.cells f.parts blocks → f ≡ joined (grid_of f) f.parts blocks → HasBlocks n f blocks
has_blocks n f blocks same cells parts zones is = record {
  cells = cells;
  parts = subst (λ (m : Triple). IsParts m f.parts) same parts;
  zones = subst (λ (m : Triple). ArePartsOf m f.parts blocks) same zones;
  is = is ∙ (λ i. joined (record { n = same i; side = f.side }) f.parts blocks);
}

-- blocks lent by a list and given back are those of the list
pub given_back : (len : ℕ) (new items : List BlockValues) → len ≡ length items → length new ≡ length items
    → take len (new ++ drop (length new) items) ≡ new
given_back len new items long same =
    let all : len ≡ length new = omega (arith, long, same) in
    ap (λ (k : ℕ). take k (new ++ drop (length new) items)) all ∙ take-append_seam new (drop (length new) items)

-- the grid is that of another lattice, of n cells of this side
pub record IsGrid (n : Triple) (side : ℕ) (g : Grid) : Type 0 where
  pub cells : g.n ≡ n
  pub side_is : g.side ≡ side

module _ (n : Triple) (f : Field) (blocks : List BlockValues) (h : HasBlocks n f blocks)
  where
    count : length blocks ≡ count_of f.parts
    count = h.zones.count

    -- each block lies among the cells,
    pub taken_among : (i : ℕ) → i < length blocks → IsAmongCells (block_in blocks i).low (block_in blocks i).size n
    taken_among i below = part_among n f.parts blocks i h.cells h.parts h.zones (omega (arith, count, below))

    -- and its cells are those of its part
    own_number : (i : ℕ) (p : Triple) → i < length blocks → IsWithin p (block_in blocks i).size → part_number n f.parts (outer_of (block_in blocks i).low p) ≡ i
    own_number i p below w =
        let zone = h.zones.zones i (omega (arith, count, below)) in
        let s = part_size n f.parts in
        let c = cell_of f.parts i in
        let v : IsWithin p s = subst (λ (m : Triple). IsWithin p m) zone.size w in
        let x : (c.x * s.x + p.x) / s.x ≡ c.x = div-mul-add c.x s.x p.x v.x in
        let y : (c.y * s.y + p.y) / s.y ≡ c.y = div-mul-add c.y s.y p.y v.y in
        let z : (c.z * s.z + p.z) / s.z ≡ c.z = div-mul-add c.z s.z p.z v.z in
        ap (λ (l : Spot). part_number n f.parts (outer_of l p)) zone.low
        ∙ (λ j. index_of f.parts (record { x = x j; y = y j; z = z j }))
        ∙ index_of-cell_of f.parts i

    -- a component of the lattice at a block's cell is the block's
    pub taken_edge : (i : ℕ) (a : Axis) (p : Triple) → i < length blocks → IsWithin p (block_in blocks i).size
        → value_at f a (outer_of (block_in blocks i).low p) ≡ edge_at (block_in blocks i) a (unwrapped (outer_of (block_in blocks i).low p))
    taken_edge i a p below w =
        let q = outer_of (block_in blocks i).low p in
        let within = outer_within (block_in blocks i).low (block_in blocks i).size n p (taken_among i below) w in
        ap (λ (k : Field). value_at k a q) h.is
        ∙ value_at-joined (record { n = n; side = f.side }) f.parts blocks a q within
        ∙ ap (λ (k : ℕ). edge_at (slice_index_or blocks k no_block) a (unwrapped q)) (own_number i p below w)

    pub taken_value : (i : ℕ) (a : Axis) (p : Triple) → i < length blocks → IsWithin p (block_in blocks i).size
        → value_at f a (outer_of (block_in blocks i).low p) ≡ inner_at (block_in blocks i) a p
    taken_value i a p below w = taken_edge i a p below w ∙ edge_at-outer (block_in blocks i) n a p (taken_among i below)

    -- the sizes of a block's values are those of the lattice's
    pub taken_small : (most i : ℕ) → i < length blocks → EachAtMost most f → f.cells ≡ n → AllAtMost most (block_in blocks i)
    taken_small most i below small same = record {
      at_most = λ a c inside.
          let b = block_in blocks i in
          let p = inner_of b.low c in
          let w = inner_within b.low b.size c inside in
          let within : IsWithin (outer_of b.low p) n = outer_within b.low b.size n p (taken_among i below) w in
          subst (λ (v : ℤ). IsAtMost v most) (taken_value i a p below w)
          (small.at_most a (outer_of b.low p) (subst (λ (m : Triple). IsWithin (outer_of b.low p) m) (sym same) within));
    }

    -- what the calls for the blocks require
    pub all_among : All (IsAmong n) blocks
    all_among = All-from_get_or (IsAmong n) blocks no_block (λ i below. record { among = taken_among i below })

    module _ (new : List BlockValues) (g : Axis → Triple → ℤ) (each : EachBlock (IsMade g) blocks new)
      where
        -- blocks of new values make a lattice
        pub made_zones : (m : Grid) (parts : Triple) → m.n ≡ n → parts ≡ f.parts → ArePartsOf m.n parts new
        made_zones m parts same of_f =
            subst (λ (k : Triple). ArePartsOf k parts new) (sym same) (subst (λ (k : Triple). ArePartsOf n k new) (sym of_f) (record {
              count = each.long ∙ count;
              zones = λ i below.
                  let made = each.each i (omega (arith, count, below)) in
                  let zone = h.zones.zones i below in
                  record { low = made.shaped.low ∙ zone.low; size = made.shaped.size ∙ zone.size };
            }))

        -- whose values g gives
        pub made_is : (m : Grid) (side : ℕ) (parts : Triple) (r : Field) → IsGrid n side m → parts ≡ f.parts → r ≡ joined m parts new
            → r ≡ field_of side n f.parts g
        made_is m side parts r grid of_f is =
            let here : Grid = record { n = n; side = side } in
            is
            ∙ (λ i. joined (record { n = grid.cells i; side = grid.side_is i }) (of_f i) new)
            ∙ is_field_of side n f.parts g (joined here f.parts new) refl refl refl (length-values_of n (value_in n f.parts new)) (λ a p w.
            let k = part_number n f.parts p in
            let b = block_in blocks k in
            let below = number_below n f.parts blocks p h.cells h.parts h.zones w in
            let zone = block_has n f.parts blocks p h.cells h.parts h.zones w in
            let made = each.each k below in
            value_at-joined here f.parts new a p w
            ∙ ap (λ (l : Spot). inner_at (block_in new k) a (inner_of l (unwrapped p))) made.shaped.low
            ∙ made.values a (inner_of b.low (unwrapped p)) (inner_within b.low b.size (unwrapped p) zone)
            ∙ ap (g a) (outer_of-inner_of b.low b.size n p (taken_among k below) zone))

-- two lattices that are cut alike have equally many blocks, over the same zones
module _ (n : Triple) (e j : Field) (es js : List BlockValues) (h : HasBlocks n e es) (k : HasBlocks n j js) (parts : j.parts ≡ e.parts)
  where
    pub same_long : length js ≡ length es
    same_long =
        let all = h.zones.count in
        let beside = k.zones.count in
        let same : count_of j.parts ≡ count_of e.parts = ap count_of parts in
        omega (arith, all, beside, same)

    pub same_zone : (i : ℕ) → i < length es → IsShaped (block_in js i) (block_in es i)
    same_zone i below =
        let all = h.zones.count in
        let beside = k.zones.count in
        let one = h.zones.zones i (omega (arith, all, below)) in
        let other = k.zones.zones i (omega (arith, beside, below, same_long)) in
        record {
          low = other.low ∙ (λ l. corner_of (part_size n (parts l)) (cell_of (parts l) i)) ∙ sym one.low;
          size = other.size ∙ (λ l. part_size n (parts l)) ∙ sym one.size;
        }
