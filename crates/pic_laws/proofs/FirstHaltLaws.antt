-- The halt of a push is the first, by test and axis, at which a vector passes its limit.
use Rattle.std.proofs.Common.{◌≡◌, ℕ, zero, suc, ◌+◌, ◌*◌, ◌<◌, inl, inr, Bool, cond, List, [], ◌∷◌}
use Rattle.std.proofs.Common.{Option, Some, None, Ok, unsigned_abs, refl, sym, ◌∙◌, ap, subst, arith}
use Rattle.std.specs.Prelude.{nat_lt}
use Rattle.std.specs.Option.{option_or}
use Rattle.std.specs.List.{Contains}
use Rattle.std.proofs.lemmas.Bool.{cases_order, ltb-true, ltb-false, lt-ltb, le-ltb}
use Rattle.std.proofs.lemmas.Option.{cond_some}
use Rattle.pic_num.specs.declared.axis.Axis.{Axis}
use Rattle.pic_num.specs.declared.axis.Axis.TheVariants.{X, Y, Z}
use Rattle.pic_num.specs.declared.motion.What.{What}
use Rattle.pic_num.specs.declared.motion.What.TheVariants.{Speed, Turn, Far}
use Rattle.pic_num.specs.First.{first_of}
use Rattle.pic_num.specs.Multiplier.{Multiplier}
use Rattle.pic_num.specs.Push.{Shift, Halting, first_above, unless, pushed}
use Rattle.pic_num.specs.Space.{Spot, along, axis_number}
use Rattle.pic_num.proofs.AxisLaws.{axis_below}
use Rattle.pic_num.proofs.FirstLaws.{list_finds, list_is, none_unless, unless_ok, unless_err}
use Rattle.pic_num.proofs.LeastLaws.{IsLeast, Finds, finds_none, finds_some}
use Rattle.pic_laws.specs.FirstHalt.{new_velocity, move_of, tested_vector, limit_of, test_number, KeepsLimit}
use Rattle.pic_laws.specs.FirstHalt.{IsEarlier, earlier_test, less_axis, IsFirstHalt, IsWholePush, LawOfTheFirstHalt}

-- The nine tests of a component, in order
abbrev Test : Type 0
Test = What × Axis

abbrev number : Test → ℕ
number c = test_number c.0 * 3 + axis_number c.1

abbrev tests : List Test
tests =
    (Speed, X) ∷ (Speed, Y) ∷ (Speed, Z) ∷ (Turn, X) ∷ (Turn, Y) ∷ (Turn, Z) ∷ (Far, X) ∷ (Far, Y) ∷ (Far, Z) ∷ []

among : (what : What) (a : Axis) → Contains tests (what, a)
among Speed X = (0, omega arith, refl)
among Speed Y = (1, omega arith, refl)
among Speed Z = (2, omega arith, refl)
among Turn X = (3, omega arith, refl)
among Turn Y = (4, omega arith, refl)
among Turn Z = (5, omega arith, refl)
among Far X = (6, omega arith, refl)
among Far Y = (7, omega arith, refl)
among Far Z = (8, omega arith, refl)

same_test : (what other : What) → test_number what ≡ test_number other → what ≡ other
same_test what other same = sym (back what) ∙ ap what_of same ∙ back other
  where
    what_of : ℕ → What
    what_of zero = Speed
    what_of (suc zero) = Turn
    what_of (suc (suc i)) = Far

    back : (w : What) → what_of (test_number w) ≡ w
    back Speed = refl
    back Turn = refl
    back Far = refl

-- one test comes before another where its number is less
earlier_less : (c d : Test) → IsEarlier c.0 c.1 d.0 d.1 → number c < number d
earlier_less c d (earlier_test less) = let axis = axis_below c.1 in omega (arith, less, axis)
earlier_less c d (less_axis same less) = let what = ap test_number same in omega (arith, what, less)

less_earlier : (c d : Test) → number c < number d → IsEarlier c.0 c.1 d.0 d.1
less_earlier c d less =
    let axis = axis_below d.1 in
    let other = axis_below c.1 in
    elim (cases_order (test_number c.0) (test_number d.0)) [
      | inl same ↦ less_axis (same_test c.0 d.0 same) (omega (arith, same, less))
      | inr apart ↦ elim apart [
        | inl lower ↦ earlier_test lower
        | inr higher ↦ absurd (omega (arith, higher, less, axis, other))
      ]
    ]

-- the first of three, or of others
three_or : {A : Type 0} (x y z o : Option A) → option_or (option_or x (option_or y (option_or z None))) o ≡ option_or x (option_or y (option_or z o))
three_or (Some x) y z o = refl
three_or None (Some y) z o = refl
three_or None None (Some z) o = refl
three_or None None None o = refl

-- The tests of three vectors
module _ (side : ℕ) (vectors : What → Spot) where
  abbrev passes : Test → Bool
  passes c = nat_lt (limit_of side c.0) (unsigned_abs (along c.1 (vectors c.0)))

  abbrev halt_on : Test → Halting
  halt_on c = record { what = c.0; axis = c.1; value = along c.1 (vectors c.0) }

  abbrev halt_at : Test → Option Halting
  halt_at c = cond (passes c) (Some (halt_on c)) None

  abbrev first : What → Option Halting
  first what = first_above what (limit_of side what) (vectors what)

  abbrev halt : Option Halting
  halt = option_or (first Speed) (option_or (first Turn) (first Far))

  halt_is : halt ≡ first_of halt_at tests
  unfolding first_above first_of
  halt_is =
      three_or (halt_at (Speed, X)) (halt_at (Speed, Y)) (halt_at (Speed, Z)) (option_or (first Turn) (first Far))
      ∙ ap (λ (o : Option Halting). option_or (halt_at (Speed, X)) (option_or (halt_at (Speed, Y)) (option_or (halt_at (Speed, Z)) o)))
      (three_or (halt_at (Turn, X)) (halt_at (Turn, Y)) (halt_at (Turn, Z)) (first Far))

  -- the halt is found at the least test
  abbrev HaltFinds : Option Halting → Type 0
  HaltFinds o = Finds (Contains tests) number halt_at o

  halt_finds : HaltFinds halt
  halt_finds = subst HaltFinds (sym halt_is) (list_finds number halt_at tests (Speed, X) refl)

  finds_halt : (o : Option Halting) → HaltFinds o → halt ≡ o
  finds_halt o found = halt_is ∙ list_is number halt_at tests (Speed, X) refl o found

  none_keeps : (c : Test) → halt_at c ≡ None → KeepsLimit side vectors c.0 c.1
  none_keeps c none = record { size = ltb-false (limit_of side c.0) (unsigned_abs (along c.1 (vectors c.0))) (none_unless (passes c) (halt_on c) none) }

  keeps_none : (c : Test) → KeepsLimit side vectors c.0 c.1 → halt_at c ≡ None
  keeps_none c keeps =
      ap (λ (t : Bool). cond t (Some (halt_on c)) None) (le-ltb (limit_of side c.0) (unsigned_abs (along c.1 (vectors c.0))) keeps.size)

  first_halt : (h : Halting) → IsLeast (Contains tests) number halt_at h → IsFirstHalt side vectors h
  first_halt h l =
      let found = cond_some (passes l.at) (halt_on l.at) h l.found in
      subst (IsFirstHalt side vectors) found.1 (record {
        passes = ltb-true (limit_of side l.at.0) (unsigned_abs (along l.at.1 (vectors l.at.0))) found.0;
        value = refl;
        first = λ what a earlier. none_keeps (what, a) (l.before (what, a) (among what a) (earlier_less (what, a) l.at earlier));
      })

  halt_first : (h : Halting) → IsFirstHalt side vectors h → IsLeast (Contains tests) number halt_at h
  halt_first h is = record {
    at = (h.what, h.axis);
    within = among h.what h.axis;
    found = ap (λ (t : Bool). cond t (Some (halt_on (h.what, h.axis))) None)
        (lt-ltb (limit_of side h.what) (unsigned_abs (along h.axis (vectors h.what))) is.passes)
        ∙ (λ i. Some (record { what = h.what; axis = h.axis; value = sym is.value i }));
    before = λ c w less. keeps_none c (is.first c.0 c.1 (less_earlier c (h.what, h.axis) less));
  }

-- The law
module _ (side : ℕ) (v e b : Spot) (kick turn : Multiplier) where
  abbrev vectors : What → Spot
  vectors = tested_vector v e b kick turn

  abbrev whole : Shift
  whole = record { v = new_velocity v e b kick turn; d = vectors Far }

  pushed_is : pushed side v e b kick turn ≡ unless (halt side vectors) whole
  unfolding pushed
  pushed_is = refl

  pushed_by : (o : Option Halting) → halt side vectors ≡ o → pushed side v e b kick turn ≡ unless o whole
  pushed_by o is = pushed_is ∙ ap (λ (p : Option Halting). unless p whole) is

  ok_whole : (s : Shift) → pushed side v e b kick turn ≡ Ok s → IsWholePush side v e b kick turn s
  ok_whole s is =
      let both = unless_ok (halt side vectors) whole s (sym pushed_is ∙ is) in
      subst (IsWholePush side v e b kick turn) both.1 (record {
        keeps = λ what a. none_keeps side vectors (what, a) ((halt_finds side vectors).none both.0 (what, a) (among what a));
        velocity = refl;
        move = refl;
      })

  whole_ok : (s : Shift) → IsWholePush side v e b kick turn s → pushed side v e b kick turn ≡ Ok s
  whole_ok s is =
      pushed_by None (finds_halt side vectors None (finds_none (λ c w. keeps_none side vectors c (is.keeps c.0 c.1))))
      ∙ (λ i. Ok (record { v = sym is.velocity i; d = sym (is.move ∙ ap move_of is.velocity) i }))

pub first_halt_law : LawOfTheFirstHalt
first_halt_law side v e b kick turn = (
  λ h. (
    (λ is. first_halt side (vectors side v e b kick turn) h ((halt_finds side (vectors side v e b kick turn)).some h
        (unless_err (halt side (vectors side v e b kick turn)) (whole side v e b kick turn) h (sym (pushed_is side v e b kick turn) ∙ is)))),
    λ is. pushed_by side v e b kick turn (Some h) (finds_halt side (vectors side v e b kick turn) (Some h)
        (finds_some h (halt_first side (vectors side v e b kick turn) h is))),
  ),
  λ s. (ok_whole side v e b kick turn s, whole_ok side v e b kick turn s),
)
