-- The frames of a dump are due in their turn.
use Rattle.std.proofs.Common.{◌≡◌, ℕ, zero, suc, ◌+◌, ◌*◌, ◌≤◌, Some, inl, inr, arith}
use Rattle.std.specs.Prelude.{min}
use Rattle.std.proofs.Math.Nat.{mul-le-mul_left}
use Rattle.std.proofs.lemmas.Bool.{cases_lt, lt-ltb, le-ltb}
use Rattle.pic_record.specs.Due.{due_after}
use Rattle.pic_record.specs.Layout.{LayoutView}
use Rattle.pic_dump.specs.InTurn.{due_step, step_before}

-- the step that is due after those before
pub due_is_step : (l : LayoutView) (k s : ℕ) → due_after l.steps l.every (step_before l k) ≡ Some s → s ≡ due_step l k
due_is_step l zero s due = let same : 0 ≡ s = cc in omega (arith, same)
due_is_step l (suc k) s due = elim (cases_lt (due_step l k) l.steps) [
  | inl less ↦ (let next = rw (lt-ltb (due_step l k) l.steps less) at due in
      let is : min (due_step l k + l.every) l.steps ≡ s = cc in
      let more : suc k * l.every ≡ k * l.every + l.every = omega arith in
      omega (arith, less, is, more))
  | inr over ↦ (let none = rw (le-ltb (due_step l k) l.steps over) at due in absurd cc)
]

-- there is no frame more than the steps, and one
pub few_due : (l : LayoutView) (k s : ℕ) → 1 ≤ l.every → due_after l.steps l.every (step_before l k) ≡ Some s → k ≤ l.steps
few_due l zero s least due = omega arith
few_due l (suc k) s least due = elim (cases_lt (due_step l k) l.steps) [
  | inl less ↦ (let more = mul-le-mul_left k least in omega (arith, less, more))
  | inr over ↦ (let none = rw (le-ltb (due_step l k) l.steps over) at due in absurd cc)
]
