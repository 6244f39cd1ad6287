-- The least place with a force value above 2^44.
use Rattle.std.proofs.Common.{◌≡◌, ℕ, ◌+◌, ◌*◌, ◌/◌, ◌%◌, ◌^◌, ◌<◌, Bool, cond, leb, List, [], ◌∷◌, length, Option, Some, None, ap, sym, ◌∙◌, arith}
use Rattle.std.proofs.Math.IntN.{ℤ, pos, ◌+ℤ◌, ◌*ℤ◌}
use Rattle.std.specs.List.{range_with_len}
use Rattle.std.specs.Prelude.{unsigned_abs}
use Rattle.std.proofs.lemmas.Bool.{leb-true, le-leb}
use Rattle.std.proofs.lemmas.Int.{ints}
use Rattle.pic_num.specs.declared.axis.Axis.{Axis}
use Rattle.pic_num.specs.declared.axis.Axis.TheVariants.{X, Y, Z}
use Rattle.pic_num.specs.First.{first_of}
use Rattle.pic_num.specs.Limits.{most_force}
use Rattle.pic_num.specs.Multiplier.{Multiplier}
use Rattle.pic_num.specs.Rounding.{scaled}
use Rattle.pic_num.specs.Sizes.{IsAtMost}
use Rattle.pic_num.specs.Space.{Triple, Spot}
use Rattle.pic_num.proofs.FirstLaws.{first_of_next, first_of_at, first_of_none, first_of_same, first_finds, first_is, none_if}
use Rattle.pic_num.proofs.LeastLaws.{Finds, finds_none}
use Rattle.pic_num.proofs.RoundingLaws.{scaled-no_larger}
use Rattle.pic_block.specs.Cells.{IsWithin, count_of, cell_of, axis_of, place_of}
use Rattle.pic_block.proofs.CellLaws.{place_within}
use Rattle.pic_grid.specs.Lattice.{Field, value_at, field_of}
use Rattle.pic_grid.proofs.LatticeLaws.{value_at-field_of}
use Rattle.pic_grid.proofs.NumberedLaws.{Place, places_numbered}
use Rattle.pic_grid.specs.Sums.{sum_over}
use Rattle.pic_walk.specs.declared.row.Row.{Row}
use Rattle.pic_deck.specs.Initial.{strong, first_strong, set_up, IsMild}

-- what is found at the place of a number
abbrev pub strong_at : Triple → Multiplier → (Axis → Triple → ℤ) → ℕ → Option ℤ
strong_at n by g i = strong by (g (axis_of (i / count_of n)) (cell_of n (i % count_of n)))

pub strong_at-place : (n : Triple) (by : Multiplier) (g : Axis → Triple → ℤ) (a : Axis) (p : Triple) (i : ℕ) → IsWithin p n → place_of n a p ≡ i
    → strong_at n by g i ≡ strong by (g a p)
strong_at-place n by g a p i h e =
    ap (strong_at n by g) (sym e) ∙ ap (λ (c : Place). strong by (g c.0 c.1)) ((places_numbered n).back (a, p) h)

-- nothing so far, and nothing here
pub none_more : (n : Triple) (by : Multiplier) (g : Axis → Triple → ℤ) (i : ℕ) → first_of (strong_at n by g) (range_with_len 0 i) ≡ None
    → strong_at n by g i ≡ None
    → first_of (strong_at n by g) (range_with_len 0 (i + 1)) ≡ None
none_more n by g i none here =
    let next = first_of_next (strong_at n by g) 0 i in
    next ∙ rw (none, let e : 0 + i ≡ i = omega arith in ap (strong_at n by g) e ∙ here)

-- nothing so far, and something here
pub some_here : (n : Triple) (by : Multiplier) (g : Axis → Triple → ℤ) (i : ℕ) (f : ℤ) → first_of (strong_at n by g) (range_with_len 0 i) ≡ None
    → i < 3 * count_of n
    → strong_at n by g i ≡ Some f → first_strong n by g ≡ Some f
unfolding first_strong
some_here n by g i f none below here =
    first_of_at (strong_at n by g) 0 (3 * count_of n) i f (omega arith) (omega (arith, below)) here
    (λ j low high. first_of_none (strong_at n by g) 0 i none j low (omega (arith, high)))

-- nothing anywhere
pub none_at_all : (n : Triple) (by : Multiplier) (g : Axis → Triple → ℤ) (i : ℕ) → i ≡ 3 * count_of n → first_of (strong_at n by g) (range_with_len 0 i) ≡ None
    → first_strong n by g ≡ None
unfolding first_strong
none_at_all n by g i e none = ap (λ k. first_of (strong_at n by g) (range_with_len 0 k)) (sym e) ∙ none

-- fields of the same values have the same first
pub first_strong_same : (n : Triple) (by : Multiplier) (g h : Axis → Triple → ℤ) → ((a : Axis) (p : Triple) → IsWithin p n → g a p ≡ h a p)
    → first_strong n by g ≡ first_strong n by h
unfolding first_strong
first_strong_same n by g h same =
    first_of_same (strong_at n by g) (strong_at n by h) 0 (3 * count_of n)
    (λ i low high. ap (strong by) (same (axis_of (i / count_of n)) (cell_of n (i % count_of n)) (place_within n i (omega (arith, high)))))

-- a value whose force value isn't too large
module _ (by : Multiplier) (v : ℤ)
  where
    abbrev is_weak : Bool
    is_weak = leb (unsigned_abs (scaled v by)) most_force

    pub weak_where : strong by v ≡ None → IsAtMost (scaled v by) most_force
    unfolding strong
    weak_where none = record { size = leb-true (unsigned_abs (scaled v by)) most_force (none_if is_weak (scaled v by) none) }

    pub none_where : IsAtMost (scaled v by) most_force → strong by v ≡ None
    unfolding strong
    none_where weak = ap (λ (t : Bool). cond t None (Some (scaled v by))) (le-leb (unsigned_abs (scaled v by)) most_force weak.size)

module _ (n : Triple) (by : Multiplier) (g : Axis → Triple → ℤ)
  where
    -- what is found is found at the least place
    abbrev pub StrongFinds : Option ℤ → Type 0
    StrongFinds o = Finds {X = Place} (λ c. IsWithin c.1 n) (λ c. place_of n c.0 c.1) (λ c. strong by (g c.0 c.1)) o

    pub strong_finds : StrongFinds (first_strong n by g)
    unfolding first_strong
    strong_finds = first_finds (places_numbered n) (λ (c : Place). strong by (g c.0 c.1))

    pub strong_is : (o : Option ℤ) → StrongFinds o → first_strong n by g ≡ o
    unfolding first_strong
    strong_is o found = first_is (places_numbered n) (λ (c : Place). strong by (g c.0 c.1)) o found

    -- where nothing is found every force value is small
    pub IsMild-from : ((a : Axis) (p : Triple) → IsWithin p n → IsAtMost (g a p) (2 ^ 84)) → first_strong n by g ≡ None → IsMild n by g
    IsMild-from small none = record { values = small; forces = λ a p w. weak_where by (g a p) (strong_finds.none none (a, p) w) }

    pub none_strong : ((a : Axis) (p : Triple) → IsWithin p n → IsAtMost (scaled (g a p) by) most_force) → first_strong n by g ≡ None
    none_strong weak = strong_is None (finds_none (λ c w. none_where by (g c.0 c.1) (weak c.0 c.1 w)))

-- the force value of 0 is 0
no_force : (by : Multiplier) (v : ℤ) → v ≡ pos 0 → IsAtMost (scaled v by) most_force
no_force by v e =
    let size = scaled-no_larger v by in
    let none : v *ℤ by.n ≡ pos 0 = ap (λ (z : ℤ). z *ℤ by.n) e ∙ omega (arith, ints) in
    record { size = omega (arith, size, ap unsigned_abs none) }

pub no_forces : (n : Triple) (by : Multiplier) (g : Axis → Triple → ℤ) → ((a : Axis) (p : Triple) → g a p ≡ pos 0) → first_strong n by g ≡ None
no_forces n by g zero = none_strong n by g (λ a p w. no_force by (g a p) (zero a p))

pub zero_mild : (n : Triple) (by : Multiplier) (g : Axis → Triple → ℤ) → ((a : Axis) (p : Triple) → g a p ≡ pos 0) → IsMild n by g
zero_mild n by g zero = IsMild-from n by g (λ a p h. record { size = rw (zero a p) (omega arith) }) (no_forces n by g zero)

-- a field of zeros without rows
pub zero_set_up : (u : Spot) (rows : List Row) → u ≡ record { x = pos 0; y = pos 0; z = pos 0 } → length rows ≡ 0 → (a : Axis) (p : Triple)
    → set_up u rows a p ≡ pos 0
unfolding set_up sum_over
zero_set_up u [] e h X p = ap (λ (v : Spot). v.x +ℤ pos 0) e
zero_set_up u [] e h Y p = ap (λ (v : Spot). v.y +ℤ pos 0) e
zero_set_up u [] e h Z p = ap (λ (v : Spot). v.z +ℤ pos 0) e
zero_set_up u (r ∷ rows) e h a p = absurd (omega (arith, h))

-- the first of a lattice given by its values
pub first_of_field : (f : Field) (side : ℕ) (m parts n : Triple) (by : Multiplier) (g : Axis → Triple → ℤ) → f ≡ field_of side m parts g → m ≡ n
    → first_strong f.cells by (value_at f) ≡ first_strong n by g
first_of_field f side m parts n by g is same =
    ap (λ (k : Field). first_strong k.cells by (value_at k)) is
    ∙ first_strong_same m by (value_at (field_of side m parts g)) g (λ a p h. value_at-field_of side m parts g a p h)
    ∙ ap (λ (k : Triple). first_strong k by g) same

-- and the size of its values
pub size_of_field : (f : Field) (side : ℕ) (m parts : Triple) (g : Axis → Triple → ℤ) → f ≡ field_of side m parts g
    → ((a : Axis) (p : Triple) → IsWithin p m → IsAtMost (g a p) (2 ^ 84))
    → (a : Axis) (p : Triple) → IsWithin p f.cells → IsAtMost (value_at f a p) (2 ^ 90)
size_of_field f side m parts g is small =
    rw is (λ a p h. let k = small a p h in rw (value_at-field_of side m parts g a p h) (record { size = omega (arith, k.size) }))
