use Rattle.std.proofs.Common.{Err, ap, sym, subst, ◌∙◌, inl}
use Rattle.std.proofs.lemmas.Result.{err_from_is_err_and}
use Rattle.pic_io.specs.Sinks.{sinks}
use Rattle.pic_io.proofs.Puts.{wrote_none}
use Rattle.pic_step.specs.SerialStep.{World}
use Rattle.pic_step.specs.Start.{begun}
use Rattle.pic_states.specs.StatesOutcome.{shown_outcome}
use Rattle.pic_states.specs.Rooms.{CanPut}
use Rattle.pic_states.specs.Runs.{WritesStates}
use Rattle.pic_states.proofs.RunLaws.{without_head}
use Rattle.pic_states.proofs.states.show.Goals as goal

pub returns-in_err-stage : goal.returns-in_err-stage
returns-in_err-stage g c =
    let exit = err_from_is_err_and c.from_residual.result c.from_residual.ensures.1 in
    rw (exit.1 ∙ ap Err exit.2) (inl (wrote_none (sinks (g.O.Sink.told c.args.out.now) (g.R.Sink.told c.args.report.now))))

pub write_states-requires-clause-probes : goal.write_states-requires-clause-probes
write_states-requires-clause-probes g c κs within =
    subst (CanPut c.args.plan.now.output) (sym c.in_ok-stage.ensures.state) c.requires.probes

pub returns : goal.returns
returns g c =
    let a = sinks (g.O.Sink.told c.args.out.now) (g.R.Sink.told c.args.report.now) in
    let b = sinks (g.O.Sink.told c.write_states.new.out) (g.R.Sink.told c.write_states.new.report) in
    let plan = c.args.plan.now in
    let result = c.write_states.result in
    let start = subst (λ (v : World). WritesStates 1 plan.workers (shown_outcome plan.output plan.steps plan.every v) a b result) c.in_ok-stage.ensures.state
    c.write_states.ensures in
    without_head plan.workers (shown_outcome plan.output plan.steps plan.every (begun c.args.start)) a b result start
