-- The field phases of a step on Yee's staggered grid (K. S. Yee, IEEE Trans. Antennas Propag. 14,
-- 1966, 302): B and E advance in turn, each by the curl of the other. A value is scaled and rounded
-- once and only then differenced. The roundings, the two bounds of a new value and the order of
-- stops are this project's profile.
use Rattle.std.specs.Prelude.{◌≡◌, ℤ, pos, ℕ, ◌+◌, ◌*◌, ◌/◌, ◌%◌, ◌^◌, ◌+ℤ◌, ◌-ℤ◌, unsigned_abs, nat_lt, if◌then◌else◌, [], ◌∷◌, Option, Some, None}
use Rattle.std.specs.List.{range_with_len}
use Rattle.pic_num.specs.declared.mult.Scales.{Scales}
use Rattle.pic_num.specs.declared.axis.Axis.{Axis}
use Rattle.pic_num.specs.First.{first_of}
use Rattle.pic_num.specs.Limits.{most_value, most_force}
use Rattle.pic_num.specs.Multiplier.{Multiplier}
use Rattle.pic_num.specs.Rounding.{scaled}
use Rattle.pic_num.specs.Sizes.{IsAtMost}
use Rattle.pic_num.specs.Space.{Triple, Spot, unwrapped}
use Rattle.pic_block.specs.Cells.{IsWithin, count_of, cell_of, axis_of}
use Rattle.pic_block.specs.Block.{BlockValues, InZone, edge_at, inner_at, outer_of}
use Rattle.pic_grid.specs.declared.stop.Bound.TheVariants.{Value, Force}
use Rattle.pic_grid.specs.declared.stop.Phase.{Phase}
use Rattle.pic_grid.specs.declared.stop.Phase.TheVariants.{Half2, Electric}
use Rattle.pic_grid.specs.declared.stop.Stop.{Stop}
use Rattle.pic_grid.specs.declared.stop.Stop.TheVariants.{Field as field_stop}
use Rattle.pic_grid.specs.Differences.{curl_b, curl_e}
use Rattle.pic_grid.specs.Lattice.{Field, value_at}

-- half a step of B at a place, from its old value v: v less the curl of the scaled E
unfoldable pub half_of : Scales → Field → Axis → Triple → ℤ → ℤ
half_of scales e a p v = v -ℤ curl_e e.cells (λ c q. scaled (value_at e c q) scales.e_to_b) a p

-- a value of B and what drives its face: rounded once, and only then added to
abbrev pub driven_b : Scales → Field → (Axis → Triple → ℤ) → Axis → Triple → ℤ
driven_b scales b m c q = scaled (value_at b c q) scales.b_to_e +ℤ m c q

-- a step of E at a place, from its old value v and the current j there: v and the curl of the
-- scaled B, which m drives, less j
unfoldable pub full_of : Scales → Field → (Axis → Triple → ℤ) → Axis → Triple → ℤ → ℤ → ℤ
full_of scales b m a p v j = v +ℤ curl_b b.cells (driven_b scales b m) a p -ℤ j

-- what drives B where nothing does
abbrev pub no_drive : Axis → Triple → ℤ
no_drive _ _ = pos 0

-- a value that drives B is at most 2^64 in size,
abbrev pub most_drive_value : ℕ
most_drive_value = 2 ^ 64

-- so a value of E that the curl of such is added to is at most that much larger
abbrev pub most_raised : ℕ
most_raised = most_value + 4 * most_drive_value

-- and one that a current is taken off then at most that of the current more
abbrev pub most_lessened : ℕ
most_lessened = most_raised + most_value

-- the current where there is none
abbrev pub no_current : Axis → Triple → ℤ
no_current _ _ = pos 0

-- the values of a block, by axis and cell of the grid
abbrev pub values_in : BlockValues → Axis → Triple → ℤ
values_in j a p = edge_at j a (unwrapped p)

-- the values of a block after half a step of B, by axis and cell of the grid,
abbrev pub half_in : Scales → Field → BlockValues → Axis → Triple → ℤ
half_in scales e old a p = half_of scales e a p (edge_at old a (unwrapped p))

-- after both half steps of B, between which E stays,
abbrev pub twice_in : Scales → Field → BlockValues → Axis → Triple → ℤ
twice_in scales e old a p = half_of scales e a p (half_in scales e old a p)

-- and after a step of E with the current j
abbrev pub full_in : Scales → Field → (Axis → Triple → ℤ) → (Axis → Triple → ℤ) → BlockValues
    → Axis → Triple → ℤ
full_in scales b m j old a p = full_of scales b m a p (edge_at old a (unwrapped p)) (j a p)

-- what stops a phase at a new value v: it is above 2^90 in size, else its force value is above
-- 2^44. The stop names the number that is too large.
unfoldable pub fault_of : Phase → Multiplier → Axis → Triple → ℤ → Option Stop
fault_of phase by a p v =
    let cell = p.x ∷ p.y ∷ p.z ∷ [] in
    let force = scaled v by in
    if nat_lt most_value (unsigned_abs v) then Some (field_stop phase Value a cell v)
    else (if nat_lt most_force (unsigned_abs force) then Some (field_stop phase Force a cell force)
    else None)

-- the cell of the grid that lies p above low
abbrev pub cell_above : Triple → Triple → Triple
cell_above low p = record { x = low.x + p.x; y = low.y + p.y; z = low.z + p.z }

-- the lowest cell of a zone on the grid
abbrev pub lowest : Spot → Triple
lowest low = record { x = unsigned_abs low.x; y = unsigned_abs low.y; z = unsigned_abs low.z }

-- the stop at the place of a number, of new values f by axis and cell of the grid, in the box of
-- size cells from low on
abbrev pub fault_at : Phase → Multiplier → Triple → Triple → (Axis → Triple → ℤ) → ℕ → Option Stop
fault_at phase by low size f i =
    let a = axis_of (i / count_of size) in
    let p = cell_above low (cell_of size (i % count_of size)) in
    fault_of phase by a p (f a p)

-- the stop of that box: that of its least place (the axis first, then z, then y, then x)
unfoldable pub least_fault : Phase → Multiplier → Triple → Triple → (Axis → Triple → ℤ)
    → Option Stop
least_fault phase by low size f =
    first_of (fault_at phase by low size f) (range_with_len 0 (3 * count_of size))

-- a block has what half a step of B makes of an old one, all of whose places lie among the cells,
abbrev pub IsHalfStep : Scales → Field → BlockValues → BlockValues → Type 0
IsHalfStep scales e old new =
    (a : Axis) (p : Triple) → IsWithin p old.size
    → inner_at new a p ≡ half_of scales e a (outer_of old.low p) (inner_at old a p)

-- or what both half steps of B of a step make of it, between which E stays,
abbrev pub IsTwiceHalved : Scales → Field → BlockValues → BlockValues → Type 0
IsTwiceHalved scales e old new =
    (a : Axis) (p : Triple) → IsWithin p old.size
    → let q = outer_of old.low p in
    inner_at new a p ≡ half_of scales e a q (half_of scales e a q (inner_at old a p))

-- or the force values of B between the two,
abbrev pub IsForceBetween : Scales → Field → BlockValues → BlockValues → Type 0
IsForceBetween scales e old force =
    (a : Axis) (p : Triple) → IsWithin p old.size
    → inner_at force a p
    ≡ scaled (half_of scales e a (outer_of old.low p) (inner_at old a p)) scales.b_force

-- or a step of E with the current j, where m drives B
abbrev pub IsFullStep : Scales → Field → (Axis → Triple → ℤ) → (Axis → Triple → ℤ) → BlockValues
    → BlockValues → Type 0
IsFullStep scales b m j old new =
    (a : Axis) (p : Triple) → IsWithin p old.size
    → let q = outer_of old.low p in
    inner_at new a p ≡ full_of scales b m a q (inner_at old a p) (j a q)

-- the stop of half a step of B in a phase,
abbrev pub stop_of_half : Phase → Scales → Field → BlockValues → Option Stop
stop_of_half phase scales e old =
    least_fault phase scales.b_force (lowest old.low) old.size (half_in scales e old)

-- of the second half step of B where E stays between the two,
abbrev pub stop_of_second : Scales → Field → BlockValues → Option Stop
stop_of_second scales e old =
    least_fault Half2 scales.b_force (lowest old.low) old.size (twice_in scales e old)

-- and of a step of E
abbrev pub stop_of_full : Scales → Field → (Axis → Triple → ℤ) → (Axis → Triple → ℤ) → BlockValues
    → Option Stop
stop_of_full scales b m j old =
    least_fault Electric scales.e_force (lowest old.low) old.size (full_in scales b m j old)

-- a value passes neither bound: it is at most 2^90 in size, and its force value at most 2^44
pub record IsBounded (by : Multiplier) (v : ℤ) : Type 0 where
  pub value : IsAtMost v most_value
  pub force : IsAtMost (scaled v by) most_force

-- no value of a block passes a bound
pub record AllBounded (by : Multiplier) (b : BlockValues) : Type 0 where
  pub bounded : (a : Axis) (c : Spot) → InZone b.low b.size c → IsBounded by (edge_at b a c)
