-- The steps that a reader awaits, one after another, are those after which a run puts a frame.
use Rattle.std.specs.Prelude.{◌≡◌, ℕ, ◌<◌, ◌≤◌, Some, None, false, IsTrue, MatchOption}
use Rattle.pic_record.specs.Due.{is_due, due_after}

-- the first step behind another after which a frame is due
pub record IsNextDue (steps every last next : ℕ) : Type 0 where
  pub behind : last < next
  pub most : next ≤ steps
  pub due : IsTrue (is_due steps every next)
  pub none_between : (step : ℕ) → last < step → step < next → is_due steps every step ≡ false

-- the first of them is step 0; behind such a step comes the next one, and none exactly behind the
-- last step of the run
pub record AreDueInTurn (steps every : ℕ) : Type 0 where
  pub first : due_after steps every None ≡ Some 0
  pub at_once : IsTrue (is_due steps every 0)
  pub then :
      (last : ℕ) → last ≤ steps → IsTrue (is_due steps every last)
      → MatchOption (due_after steps every (Some last)) (last ≡ steps) (IsNextDue steps every last)

abbrev pub FramesAreDueInTurn : Type 0
FramesAreDueInTurn = (steps every : ℕ) → 0 < every → AreDueInTurn steps every
