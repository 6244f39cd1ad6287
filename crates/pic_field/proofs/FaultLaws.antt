-- The stop of a phase: what it says of the new values, and how a walk finds it.
use Rattle.std.proofs.Common.{◌≡◌, ℕ, ℤ, ◌+◌, ◌*◌, ◌^◌, ◌<◌, ◌≤◌, Bool, true, false, cond, ltb, Option}
use Rattle.std.proofs.Common.{Some, None, Result, OnOk, unsigned_abs, refl, sym, ◌∙◌, ap, subst, arith, zero-add}
use Rattle.std.specs.Option.{option_or}
use Rattle.std.specs.Result.{result_err}
use Rattle.std.specs.List.{range_with_len}
use borrow.Author.Tests.{ltb-false}
use Rattle.pic_num.specs.declared.axis.Axis.{Axis}
use Rattle.pic_num.specs.First.{first_of}
use Rattle.pic_num.specs.Multiplier.{Multiplier}
use Rattle.pic_num.specs.Push.{unless}
use Rattle.pic_num.specs.Rounding.{scaled}
use Rattle.pic_num.specs.Space.{Triple, Spot}
use Rattle.pic_num.proofs.FirstLaws.{first_of_next, first_finds, first_is}
use Rattle.pic_num.proofs.LeastLaws.{Finds}
use Rattle.pic_block.specs.Cells.{IsWithin, count_of, place_of}
use Rattle.pic_block.specs.Block.{BlockValues, IsAmongCells, inner_of, inner_at, outer_of}
use Rattle.pic_block.proofs.BlockLaws.{inner_within}
use Rattle.pic_block.proofs.PlaceLaws.{IsPlace}
use Rattle.pic_grid.specs.declared.stop.Phase.{Phase}
use Rattle.pic_grid.specs.declared.stop.Stop.{Stop}
use Rattle.pic_grid.specs.Parts.{origin}
use Rattle.pic_grid.proofs.NumberedLaws.{Place, places_numbered}
use Rattle.pic_field.specs.FieldPhases.{fault_of, cell_above, lowest, fault_at, least_fault, IsBounded, AllBounded}

-- neither of two tests holds where neither answer is given
neither : (t u : Bool) (r s : Stop) → cond t (Some r) (cond u (Some s) None) ≡ None → (t ≡ false) × (u ≡ false)
neither true u r s h = cc
neither false true r s h = cc
neither false false r s h = (refl, refl)

-- a value that stops nothing passes neither bound
pub fault_of-none : (phase : Phase) (by : Multiplier) (a : Axis) (p : Triple) (v : ℤ) → fault_of phase by a p v ≡ None → IsBounded by v
unfolding fault_of
fault_of-none phase by a p v none =
    let both = neither (ltb (2 ^ 90) (unsigned_abs v)) (ltb (2 ^ 44) (unsigned_abs (scaled v by))) _ _ none in
    let value : unsigned_abs v ≤ 2 ^ 90 = ltb-false (2 ^ 90) (unsigned_abs v) both.0 in
    let force : unsigned_abs (scaled v by) ≤ 2 ^ 44 = ltb-false (2 ^ 44) (unsigned_abs (scaled v by)) both.1 in
    record { value = record { size = value }; force = record { size = force } }

-- the stop that a phase's answer has
pub stop_of : (o : Option Stop) (r : Result (Unit {0}) Stop) → r ≡ unless o tt → result_err r ≡ o
stop_of None r is = ap result_err is
stop_of (Some stop) r is = ap result_err is

-- a cell counted from the lowest of the grid
pub above_origin : (p : Triple) → cell_above origin p ≡ p
above_origin p = λ i. record { x = zero-add p.x i; y = zero-add p.y i; z = zero-add p.z i }

-- the stop at a place of the box of size cells from low on
abbrev pub box_fault : Phase → Multiplier → Triple → (Axis → Triple → ℤ) → Place → Option Stop
box_fault phase by low f c = fault_of phase by c.0 (cell_above low c.1) (f c.0 (cell_above low c.1))

-- the stop at a place's number is that of the place
pub fault_at-place_of : (phase : Phase) (by : Multiplier) (low size : Triple) (f : Axis → Triple → ℤ) (a : Axis) (p : Triple) → IsWithin p size
    → fault_at phase by low size f (place_of size a p) ≡ fault_of phase by a (cell_above low p) (f a (cell_above low p))
fault_at-place_of phase by low size f a p w = ap (box_fault phase by low f) ((places_numbered size).back (a, p) w)

module _ (phase : Phase) (by : Multiplier) (low size : Triple) (f : Axis → Triple → ℤ)
  where
    -- the stop of the box is found at its least place
    abbrev pub BoxFinds : Option Stop → Type 0
    BoxFinds o = Finds {X = Place} (λ c. IsWithin c.1 size) (λ c. place_of size c.0 c.1) (box_fault phase by low f) o

    pub box_finds : BoxFinds (least_fault phase by low size f)
    unfolding least_fault
    box_finds = first_finds (places_numbered size) (box_fault phase by low f)

    pub box_is : (o : Option Stop) → BoxFinds o → least_fault phase by low size f ≡ o
    unfolding least_fault
    box_is o found = first_is (places_numbered size) (box_fault phase by low f) o found

    -- where it has none, its values pass neither bound
    pub least_fault-bounded : least_fault phase by low size f ≡ None → (a : Axis) (p : Triple) → IsWithin p size → IsBounded by (f a (cell_above low p))
    least_fault-bounded none a p w = fault_of-none phase by a (cell_above low p) (f a (cell_above low p)) (box_finds.none none (a, p) w)

-- in a walk over a block, whose zone lies among n cells, the place of the number i is the component
-- on an axis at the cell q of the grid, which lies p above the lowest
pub record IsHere (old : BlockValues) (n : Triple) (i : ℕ) (a : Axis) (p q : Triple) : Type 0 where
  pub among : IsAmongCells old.low old.size n
  pub within : IsWithin p old.size
  pub number : place_of old.size a p ≡ i
  pub at : q ≡ outer_of old.low p

-- as the code knows it: by its own copy of the zone
pub is_here : (old : BlockValues) (n : Triple) (i : ℕ) (a : Axis) (p q : Triple) (low : Spot) (size : Triple) → low ≡ old.low → size ≡ old.size
    → IsAmongCells old.low old.size n → IsPlace size i a p → i < 3 * count_of size → q ≡ outer_of low p → IsHere old n i a p q
is_here old n i a p q low size same_low same_size among place below at = record {
  among = among;
  within = subst (λ (s : Triple). IsWithin p s) same_size (place.within below);
  number = sym (ap (λ (s : Triple). place_of s a p) same_size) ∙ place.number below;
  at = at ∙ ap (λ (l : Spot). outer_of l p) same_low;
}

-- the stop of the places below i
unfoldable pub fault_below : Phase → Multiplier → (Axis → Triple → ℤ) → BlockValues → ℕ → Option Stop
fault_below phase by f old i = first_of (fault_at phase by (lowest old.low) old.size f) (range_with_len 0 i)

pub fault_below-none : (phase : Phase) (by : Multiplier) (f : Axis → Triple → ℤ) (old : BlockValues) → fault_below phase by f old 0 ≡ None
unfolding fault_below first_of
fault_below-none phase by f old = refl

-- a walk's step
pub fault_below-more : (phase : Phase) (by : Multiplier) (f : Axis → Triple → ℤ) (old : BlockValues) (n : Triple) (i : ℕ)
    → (a : Axis) (p q : Triple) (stop found : Option Stop)
    → IsHere old n i a p q → stop ≡ fault_below phase by f old i → found ≡ fault_of phase by a q (f a q)
    → option_or stop found ≡ fault_below phase by f old (i + 1)
unfolding fault_below
fault_below-more phase by f old n i a p q stop found h before here =
    let g = fault_at phase by (lowest old.low) old.size f in
    let number = fault_at-place_of phase by (lowest old.low) old.size f a p h.within in
    let last : found ≡ g i = here ∙ (λ j. fault_of phase by a (h.at j) (f a (h.at j))) ∙ sym number ∙ ap g h.number in
    let same : i ≡ 0 + i = omega arith in
    (λ j. option_or (before j) (last j))
    ∙ ap (λ (k : ℕ). option_or (first_of g (range_with_len 0 i)) (g k)) same
    ∙ sym (first_of_next g 0 i)

-- at its end
pub fault_below-all : (phase : Phase) (by : Multiplier) (f : Axis → Triple → ℤ) (old : BlockValues) (i : ℕ) → i ≡ 3 * count_of old.size
    → fault_below phase by f old i ≡ least_fault phase by (lowest old.low) old.size f
unfolding fault_below least_fault
fault_below-all phase by f old i end =
    ap (λ (k : ℕ). first_of (fault_at phase by (lowest old.low) old.size f) (range_with_len 0 k)) end

on_ok : (o : Option Stop) (r : Result (Unit {0}) Stop) (P : Type 0) → r ≡ unless o tt → (o ≡ None → P) → OnOk r P
on_ok None r P e h = subst (λ (s : Result (Unit {0}) Stop). OnOk s P) (sym e) (h refl)
on_ok (Some stop) r P e h = subst (λ (s : Result (Unit {0}) Stop). OnOk s P) (sym e) tt

-- a phase that is Ok leaves a block of bounded values
pub bounded_on_ok : (phase : Phase) (by : Multiplier) (f : Axis → Triple → ℤ) (old new : BlockValues) (r : Result (Unit {0}) Stop)
    → new.low ≡ old.low → new.size ≡ old.size
    → ((a : Axis) (p : Triple) → IsWithin p old.size → inner_at new a p ≡ f a (outer_of old.low p))
    → r ≡ unless (least_fault phase by (lowest old.low) old.size f) tt → OnOk r (AllBounded by new)
bounded_on_ok phase by f old new r low size values stop =
    on_ok (least_fault phase by (lowest old.low) old.size f) r (AllBounded by new) stop (λ none. record {
      bounded = λ a c inside.
          let p = inner_of new.low c in
          let w : IsWithin p old.size = subst (λ (m : Triple). IsWithin p m) size (inner_within new.low new.size c inside) in
          subst (IsBounded by) (sym (values a p w)) (least_fault-bounded phase by (lowest old.low) old.size f none a p w);
    })
