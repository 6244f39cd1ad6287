-- The frames that are awaited are those that are due.
use Rattle.std.proofs.Common.{◌≡◌, ℕ, ◌+◌, ◌-◌, ◌*◌, ◌/◌, ◌%◌, ◌<◌, ◌≤◌, Bool, true, false, Some}
use Rattle.std.proofs.Common.{None, nat_lt, if◌then◌else◌, refl, ap, sym, subst, ◌∙◌, inl, inr, arith}
use Rattle.std.specs.Prelude.{min, IsTrue, MatchOption}
use Rattle.std.proofs.lemmas.Bool.{cases_lt}
use Rattle.std.proofs.lemmas.Bool.Decides.{nat_tests}
use Rattle.std.proofs.Math.Nat.{add-mod_right}
use Rattle.std.proofs.lemmas.Nat.{div-add-mod', mod-mul-add}
use Rattle.pic_record.specs.Due.{is_due, due_after}
use Rattle.pic_record.specs.DueInTurn.{IsNextDue, FramesAreDueInTurn}

-- so far behind a multiple
pub behind_multiple : (every last more : ℕ) → last % every ≡ 0 → more < every → (last + more) % every ≡ more
behind_multiple every last more multiple small =
    let whole = div-add-mod' last every in
    let is : last + more ≡ last / every * every + more = omega (arith, whole, multiple) in
    ap (λ n. n % every) is ∙ mod-mul-add (last / every) every more small

-- tests of numbers
due_at_last : (steps every step : ℕ) → step ≡ steps → IsTrue (is_due steps every step)
due_at_last steps every step same = grind (arith, nat_tests)

due_at_multiple : (steps every step : ℕ) → step % every ≡ 0 → IsTrue (is_due steps every step)
due_at_multiple steps every step multiple = grind (arith, nat_tests)

not_due : (steps every step : ℕ) → step < steps → 0 < step % every → is_due steps every step ≡ false
not_due steps every step below some = grind (arith, nat_tests)

multiple_where : (steps every step : ℕ) → IsTrue (is_due steps every step) → step < steps → step % every ≡ 0
multiple_where steps every step due below = grind (arith, nat_tests)

-- the step behind
next_is : (steps every last : ℕ) → 0 < every → last < steps → last % every ≡ 0 → IsNextDue steps every last (min (last + every) steps)
next_is steps every last some below multiple = elim (cases_lt (last + every) steps) [
  | inl more ↦
      (let is : min (last + every) steps ≡ last + every = omega (arith, more) in
      record {
        behind = omega (arith, some, is);
        most = omega (arith, more, is);
        due = subst (λ (n : ℕ). IsTrue (is_due steps every n)) (sym is) (due_at_multiple steps every (last + every) (whole_behind is));
        none_between = λ step behind under. between step behind (omega (arith, under, is)) (omega (arith, under, is, more));
      })
  | inr past ↦
      (let is : min (last + every) steps ≡ steps = omega (arith, past) in
      record {
        behind = omega (arith, below, is);
        most = omega (arith, is);
        due = subst (λ (n : ℕ). IsTrue (is_due steps every n)) (sym is) (due_at_last steps every steps refl);
        none_between = λ step behind under. between step behind (omega (arith, under, is, past)) (omega (arith, under, is));
      })
]
  where
    whole_behind : min (last + every) steps ≡ last + every → (last + every) % every ≡ 0
    whole_behind is = add-mod_right last every ∙ multiple

    between : (step : ℕ) → last < step → step < last + every → step < steps → is_due steps every step ≡ false
    between step behind under before =
        let more : step ≡ last + (step - last) = omega (arith, behind) in
        let left : step % every ≡ step - last =
        ap (λ (n : ℕ). n % every) more ∙ behind_multiple every last (step - last) multiple (omega (arith, behind, under)) in
        not_due steps every step before (omega (arith, left, behind))

-- behind each step at which a frame is due
then_is : (steps every last : ℕ) → 0 < every → last ≤ steps → IsTrue (is_due steps every last)
    → MatchOption (due_after steps every (Some last)) (last ≡ steps) (IsNextDue steps every last)
then_is steps every last some most due = go (nat_lt last steps) refl
  where
    go : (b : Bool) → nat_lt last steps ≡ b
        → MatchOption (if b then Some (min (last + every) steps) else None) (last ≡ steps) (IsNextDue steps every last)
    go true is =
        let below : last < steps = grind (arith, nat_tests) in
        next_is steps every last some below (multiple_where steps every last due below)
    go false is = grind (arith, nat_tests)

pub due_in_turn : FramesAreDueInTurn
due_in_turn steps every some = record {
  first = refl;
  at_once = due_at_multiple steps every 0 (zero_whole every);
  then = λ last most due. then_is steps every last some most due;
}
  where
    zero_whole : (n : ℕ) → 0 % n ≡ 0
    zero_whole n = omega arith
