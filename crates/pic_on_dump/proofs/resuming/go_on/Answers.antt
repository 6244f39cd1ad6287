use Rattle.std.proofs.Common.{ℕ, ◌-◌, [], Err, ap, subst, ◌∙◌, inl}
use Rattle.std.proofs.lemmas.Result.{err_from_is_err_and}
use Rattle.pic_io.specs.Sinks.{sinks}
use Rattle.pic_io.proofs.Puts.{wrote_none}
use Rattle.pic_step.specs.SerialStep.{World}
use Rattle.pic_states.specs.declared.output.Output.TheVariants.{Dump}
use Rattle.pic_states.specs.Frames.{frames_behind, end_of_run}
use Rattle.pic_states.specs.StatesOutcome.{states_outcome}
use Rattle.pic_states.specs.Runs.{WritesStates}
use Rattle.pic_on_dump.specs.Resume.{behind_outcome, carried_state}
use Rattle.pic_states.proofs.RunLaws.{left_kept}
use Rattle.pic_on_dump.proofs.resuming.go_on.Goals as goal

pub returns-in_err-stage : goal.returns-in_err-stage
returns-in_err-stage g c =
    let exit = err_from_is_err_and c.from_residual.result c.from_residual.ensures.1 in
    rw (exit.1 ∙ ap Err exit.2) (inl (wrote_none (sinks (g.O.Sink.told c.args.out.now) (g.R.Sink.told c.args.report.now))))

pub returns : goal.returns
returns g c =
    let a = sinks (g.O.Sink.told c.args.out.now) (g.R.Sink.told c.args.report.now) in
    let b = sinks (g.O.Sink.told c.write_further.new.out) (g.R.Sink.told c.write_further.new.report) in
    let h = c.args.carried.header in
    let workers = c.args.further.workers in
    let result = c.write_further.result in
    let w = c.in_ok-stage.stage.state.world in
    let steps = subst (λ (n : ℕ). WritesStates 0 workers (states_outcome Dump [] (frames_behind Dump n c.every.result w) (end_of_run (n - w.step) w))
    a b result) c.steps.ensures.value c.write_further.ensures in
    let every = subst (λ (n : ℕ). WritesStates 0 workers (states_outcome Dump [] (frames_behind Dump h.steps n w) (end_of_run (h.steps - w.step) w))
    a b result) c.every.ensures.value steps in
    let state = subst (λ (v : World). WritesStates 0 workers (behind_outcome [] [] h v) a b result) c.in_ok-stage.ensures.state every in
    left_kept workers (behind_outcome [] [] h (carried_state c.args.carried)) a b result state
