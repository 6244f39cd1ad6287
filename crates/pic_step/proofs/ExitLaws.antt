-- Where a step ends, phase by phase.
use Rattle.std.proofs.Common.{◌≡◌, ◌≢◌, Option, Some, None, Result, Ok, Err, IsErrAnd, sym, ap, ◌∙◌}
use Rattle.std.proofs.lemmas.Result.{err_from_is_err_and}
use Rattle.std.specs.Option.{option_or}
use Rattle.pic_num.specs.Push.{unless}
use Rattle.pic_grid.specs.declared.stop.Phase.TheVariants.{Half1, Half2}
use Rattle.pic_grid.specs.declared.stop.Stop.{Stop}
use Rattle.pic_grid.specs.PushPhase.{push_stop}
use Rattle.pic_step.specs.declared.stepping.StepStop.{StepStop}
use Rattle.pic_step.specs.declared.stepping.StepStop.TheVariants as step_stop
use Rattle.pic_step.specs.SerialStep.{World, around, half_on, push_on, current_of, before_electric, half_stop, full_stop, next_world, stop_of_step, stepped}
use Rattle.pic_step.specs.StateView.{StateView}

ends : (w : World) (o : Option Stop) → stop_of_step w ≡ o → stepped w ≡ unless o (next_world w)
unfolding stepped
ends w o h = ap (λ (p : Option Stop). unless p (next_world w)) h

pub stops_first : (w : World) (s : Stop) → half_stop Half1 w ≡ Some s → stepped w ≡ Err s
unfolding stop_of_step
stops_first w s h = ends w (Some s) (ap (λ (o : Option Stop). option_or o (option_or (push_stop (around (half_on w)) w.particles)
    (option_or (half_stop Half2 (push_on (half_on w))) (full_stop (current_of (half_on w)) (before_electric w))))) h)

pub stops_push : (w : World) (s : Stop) → half_stop Half1 w ≡ None → push_stop (around (half_on w)) w.particles ≡ Some s → stepped w ≡ Err s
unfolding stop_of_step
stops_push w s none h = ends w (Some s) (λ i. option_or (none i) (option_or (h i)
    (option_or (half_stop Half2 (push_on (half_on w))) (full_stop (current_of (half_on w)) (before_electric w)))))

pub stops_second : (w : World) (s : Stop) → half_stop Half1 w ≡ None → push_stop (around (half_on w)) w.particles ≡ None
    → half_stop Half2 (push_on (half_on w)) ≡ Some s → stepped w ≡ Err s
unfolding stop_of_step
stops_second w s none free h = ends w (Some s)
    (λ i. option_or (none i) (option_or (free i) (option_or (h i) (full_stop (current_of (half_on w)) (before_electric w)))))

pub stops_last : (w : World) (s : Stop) → half_stop Half1 w ≡ None → push_stop (around (half_on w)) w.particles ≡ None
    → half_stop Half2 (push_on (half_on w)) ≡ None → full_stop (current_of (half_on w)) (before_electric w) ≡ Some s → stepped w ≡ Err s
unfolding stop_of_step
stops_last w s none free clear h = ends w (Some s) (λ i. option_or (none i) (option_or (free i) (option_or (clear i) (h i))))

pub no_stop_is : (w : World) → half_stop Half1 w ≡ None → push_stop (around (half_on w)) w.particles ≡ None
    → half_stop Half2 (push_on (half_on w)) ≡ None → full_stop (current_of (half_on w)) (before_electric w) ≡ None → stop_of_step w ≡ None
unfolding stop_of_step
no_stop_is w none free clear still = λ i. option_or (none i) (option_or (free i) (option_or (clear i) (still i)))

pub steps_on : (w : World) → stop_of_step w ≡ None → stepped w ≡ Ok (next_world w)
steps_on w none = ends w None none

-- what a phase of the fields stops for isn't memory
pub wants_none : (r : Result StateView StepStop) (s : Stop) → IsErrAnd r (λ e. e ≡ step_stop.Stop s) → r ≢ Err step_stop.NoMemory
wants_none r s is wanted = let exit = err_from_is_err_and r is in let both = sym wanted ∙ exit.1 ∙ ap Err exit.2 in absurd cc

-- nor is a stop or a state
pub stop_wants_none : (r : Result StateView StepStop) (s : Stop) → r ≡ Err (step_stop.Stop s) → r ≢ Err step_stop.NoMemory
stop_wants_none r s is wanted = let both = sym wanted ∙ is in absurd cc

pub state_wants_none : (r : Result StateView StepStop) (v : StateView) → r ≡ Ok v → r ≢ Err step_stop.NoMemory
state_wants_none r v is wanted = let both = sym wanted ∙ is in absurd cc
