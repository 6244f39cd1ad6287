-- The stop of all blocks of a lattice is that of the whole grid: a stop of the grid is one of the block
-- that has its cell, and least there.
use Rattle.std.proofs.Common.{◌≡◌, ℕ, ℤ, ◌^◌, ◌<◌, List, length, Option, Some, refl, sym, ◌∙◌, ap, subst, arith}
use Rattle.pic_num.specs.declared.axis.Axis.{Axis}
use Rattle.pic_num.specs.Multiplier.{Multiplier}
use Rattle.pic_num.specs.Space.{Triple, unwrapped}
use Rattle.pic_num.proofs.LeastLaws.{Finds, finds_along}
use Rattle.pic_block.specs.Block.{BlockValues, inner_of, outer_of}
use Rattle.pic_block.specs.Cells.{IsCells, IsWithin, count_of, place_of}
use Rattle.pic_block.proofs.BlockLaws.{inner_within}
use Rattle.pic_grid.specs.declared.stop.Phase.{Phase}
use Rattle.pic_grid.specs.declared.stop.Stop.{Stop}
use Rattle.pic_grid.specs.Lattice.{IsParts}
use Rattle.pic_grid.specs.Parts.{origin, ArePartsOf}
use Rattle.pic_grid.proofs.NumberedLaws.{Place}
use Rattle.pic_grid.proofs.PartLaws.{number_of as part_number, block_has, number_below}
use Rattle.pic_field.specs.FieldPhases.{fault_of, cell_above, lowest, least_fault}
use Rattle.pic_field.specs.LeastStop.{IsBefore, less_axis, less_z, less_y, less_x}
use Rattle.pic_field.proofs.CalmLaws.{least_fault-same}
use Rattle.pic_field.proofs.FaultLaws.{box_fault, box_finds, box_is, above_origin}
use Rattle.pic_field.proofs.LeastStopLaws.{fault_of-some}
use Rattle.pic_field.proofs.OrderLaws.{before_less, less_before, before_place, place_before}
use Rattle.pic_advance.specs.Blocks.{block_in, number_of, place_number, earliest, block_stop, row_stop}
use Rattle.pic_advance.proofs.EarliestLaws.{earliest_same, earliest_finds}
use Rattle.pic_advance.proofs.ZoneLaws.{part_among, outer_of-inner_of, outer_within}

-- places in a box are in the order of their places on the grid
before_inside : (low : Triple) (b : Axis) (q : Triple) (a : Axis) (p : Triple) → IsBefore b (cell_above low q) a (cell_above low p) → IsBefore b q a p
before_inside low b q a p (less_axis less) = less_axis less
before_inside low b q a p (less_z e less) = less_z e (let h : q.z < p.z = omega (arith, less) in h)
before_inside low b q a p (less_y e z less) =
    less_y e (let h : q.z ≡ p.z = omega (arith, z) in h) (let h : q.y < p.y = omega (arith, less) in h)
before_inside low b q a p (less_x e z y less) =
    less_x e (let h : q.z ≡ p.z = omega (arith, z) in h) (let h : q.y ≡ p.y = omega (arith, y) in h) (let h : q.x < p.x = omega (arith, less) in h)

-- the cells that three numbers below 2^32 name
abbrev all_cells : Triple
all_cells = record { x = 2 ^ 32; y = 2 ^ 32; z = 2 ^ 32 }

near_cell : (n p : Triple) → IsCells n → IsWithin p n → IsWithin p all_cells
near_cell n p cells w =
    let x = w.x in
    let y = w.y in
    let z = w.z in
    let x_most = cells.x_most in
    let y_most = cells.y_most in
    let z_most = cells.z_most in
    record { x = omega (arith, x, x_most); y = omega (arith, y, y_most); z = omega (arith, z, z_most) }

-- a stop names the number of its place
stop_number : (phase : Phase) (by : Multiplier) (a : Axis) (p : Triple) (v : ℤ) (stop : Stop) → fault_of phase by a p v ≡ Some stop
    → place_number stop ≡ number_of a p
unfolding place_number
stop_number phase by a p v stop some = ap place_number (fault_of-some phase by a p v stop some).names

module _ (phase : Phase) (by : Multiplier) (n parts : Triple) (blocks : List BlockValues) (g : Axis → Triple → ℤ)
    (cells : IsCells n) (fit : IsParts n parts) (are : ArePartsOf n parts blocks)
  where
    abbrev stop_at : ℕ → Option Stop
    stop_at i = block_stop phase by g (block_in blocks i)

    abbrev number : Place → ℕ
    number c = number_of c.0 c.1

    -- the stop of a place of the grid
    abbrev value : Place → Option Stop
    value c = fault_of phase by c.0 c.1 (g c.0 c.1)

    -- the block of a number has the place: it lies so far above the lowest cell
    abbrev InBlock : ℕ → Place → Type 0
    InBlock i c = (p : Triple) × IsWithin p (block_in blocks i).size × (cell_above (lowest (block_in blocks i).low) p ≡ c.1)

    within_grid : (i : ℕ) (p : Triple) → i < count_of parts → IsWithin p (block_in blocks i).size → IsWithin (cell_above (lowest (block_in blocks i).low) p) n
    within_grid i p below w = outer_within (block_in blocks i).low (block_in blocks i).size n p (part_among n parts blocks i cells fit are below) w

    -- the stop of a block is found at the least of its places, in the order of the grid
    block_finds : (i : ℕ) → i < count_of parts → Finds (InBlock i) number value (stop_at i)
    block_finds i below =
        finds_along (stop_at i) (box_finds phase by low size g) (InBlock i) number value (λ (c : Place). (c.0, cell_above low c.1)) (λ c w. (c.1, w, refl))
        (λ c there. ((c.0, there.0), there.1, (λ j. (c.0, there.2 j)))) (λ c w. refl) order
      where
        low : Triple
        low = lowest (block_in blocks i).low

        size : Triple
        size = (block_in blocks i).size

        near : (p : Triple) → IsWithin p size → IsWithin (cell_above low p) all_cells
        near p w = near_cell n (cell_above low p) cells (within_grid i p below w)

        order : (c d : Place) → IsWithin c.1 size → IsWithin d.1 size → number (c.0, cell_above low c.1) < number (d.0, cell_above low d.1)
            → place_of size c.0 c.1 < place_of size d.0 d.1
        order c d v w less =
            before_place size c.0 c.1 d.0 d.1 v
            (before_inside low c.0 c.1 d.0 d.1 (less_before all_cells c.0 (cell_above low c.1) d.0 (cell_above low d.1) (near c.1 v) (near d.1 w) less))

    -- the block of a cell
    has : (c : Place) → IsWithin c.1 n → (i : ℕ) × (i < count_of parts) × InBlock i c
    has c w =
        let i = part_number n parts c.1 in
        let b = block_in blocks i in
        let in_list = number_below n parts blocks c.1 cells fit are w in
        let count = are.count in
        let below : i < count_of parts = omega (arith, in_list, count) in
        let zone = block_has n parts blocks c.1 cells fit are w in (
          i,
          below,
          (
            inner_of b.low (unwrapped c.1),
            inner_within b.low b.size (unwrapped c.1) zone,
            outer_of-inner_of b.low b.size n c.1 (part_among n parts blocks i cells fit are below) zone,
          ),
        )

    named : (c : Place) (stop : Stop) → value c ≡ Some stop → place_number stop ≡ number c
    named c stop some = stop_number phase by c.0 c.1 (g c.0 c.1) stop some

    -- the law
    pub stop_of_parts : earliest stop_at (count_of parts) ≡ least_fault phase by origin n g
    stop_of_parts = sym (box_is phase by origin n g (earliest stop_at (count_of parts))
        (finds_along (earliest stop_at (count_of parts))
        (earliest_finds InBlock named stop_at (count_of parts) block_finds)
        (λ (c : Place). IsWithin c.1 n) (λ c. place_of n c.0 c.1) (box_fault phase by origin g) (λ (c : Place). c)
        within (λ c w. (c, has c w, refl)) (λ c there j. fault_of phase by c.0 (above_origin c.1 j) (g c.0 (above_origin c.1 j))) order))
      where
        within : (c : Place) → (i : ℕ) × (i < count_of parts) × InBlock i c → IsWithin c.1 n
        within c there = subst (λ (p : Triple). IsWithin p n) there.2.2 (within_grid there.0 there.2.0 there.1 there.2.1)

        order : (c d : Place) → (i : ℕ) × (i < count_of parts) × InBlock i c → (i : ℕ) × (i < count_of parts) × InBlock i d
            → place_of n c.0 c.1 < place_of n d.0 d.1 → number c < number d
        order c d v w less =
            before_less all_cells c.0 c.1 d.0 d.1 (near_cell n c.1 cells (within c v)) (place_before n c.0 c.1 d.0 d.1 (within c v) (within d w) less)

-- blocks that have the new values that g gives have the stop that g has
pub row_stop_is : (phase : Phase) (by : Multiplier) (n parts : Triple) (blocks : List BlockValues) (f : ℕ → Axis → Triple → ℤ) (g : Axis → Triple → ℤ)
    → IsCells n → IsParts n parts → ArePartsOf n parts blocks
    → ((i : ℕ) → i < count_of parts → (a : Axis) (p : Triple) → IsWithin p (block_in blocks i).size
    → f i a (outer_of (block_in blocks i).low p) ≡ g a (outer_of (block_in blocks i).low p))
    → row_stop phase by f blocks ≡ least_fault phase by origin n g
row_stop_is phase by n parts blocks f g cells fit are same =
    let count : length blocks ≡ count_of parts = are.count in
    ap (earliest (λ i. block_stop phase by (f i) (block_in blocks i))) count
    ∙ earliest_same (λ i. block_stop phase by (f i) (block_in blocks i)) (λ i. block_stop phase by g (block_in blocks i)) (count_of parts)
    (λ i below. least_fault-same phase by (lowest (block_in blocks i).low) (block_in blocks i).size (f i) g (same i below))
    ∙ stop_of_parts phase by n parts blocks g cells fit are
