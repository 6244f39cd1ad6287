use Rattle.std.proofs.Common.{[], ◌-◌, Ok, Err, ◌∙◌, ap, sym, subst}
use Rattle.std.proofs.lemmas.Result.{err_from_is_err_and}
use Rattle.pic_io.specs.Sinks.{sinks}
use Rattle.pic_report.specs.declared.ended.Ended.{Ended}
use Rattle.pic_states.specs.Frames.{frames_behind, end_of_run}
use Rattle.pic_states.specs.StatesOutcome.{states_outcome}
use Rattle.pic_states.specs.Runs.{WritesStates}
use Rattle.pic_states.proofs.RunLaws.{frames_cut, last_cut, last_done}
use Rattle.pic_states.proofs.states.write_further.Goals as goal

pub returns-in_err-end : goal.returns-in_err-end
returns-in_err-end g c =
    let exit = err_from_is_err_and c.from_residual.result c.from_residual.ensures.1 in
    let a = sinks (g.O.Sink.told c.args.out.now) (g.R.Sink.told c.args.report.now) in
    let b = sinks (g.O.Sink.told c.write_frames.new.out) (g.R.Sink.told c.write_frames.new.report) in
    let w = c.args.stage.state.world in
    let frames = frames_behind c.args.plan.now.output c.args.plan.now.steps c.args.plan.now.every w in
    rw (exit.1 ∙ ap Err exit.2)
    (frames_cut c.args.plan.now.workers c.args.plan.now.output frames (end_of_run (c.args.plan.now.steps - w.step) w) a b c.in_err-end.field-0.0
    c.in_err-end.ensures)

pub returns-in_err-put_last : goal.returns-in_err-put_last
returns-in_err-put_last g c =
    let exit = err_from_is_err_and c.from_residual-in_err-put_last.result c.from_residual-in_err-put_last.ensures.1 in
    let a = sinks (g.O.Sink.told c.args.out.now) (g.R.Sink.told c.args.report.now) in
    let b = sinks (g.O.Sink.told c.write_frames.new.out) (g.R.Sink.told c.write_frames.new.report) in
    let e = sinks (g.O.Sink.told c.put_last.new.out) (g.R.Sink.told c.put_last.new.report) in
    let w = c.args.stage.state.world in
    let frames = frames_behind c.args.plan.now.output c.args.plan.now.steps c.args.plan.now.every w in
    rw (exit.1 ∙ ap Err exit.2)
    (last_cut c.args.plan.now.workers c.args.plan.now.output frames
    (end_of_run (c.args.plan.now.steps - w.step) w) c.in_ok-end.end c.in_err-put_last.field-0.0 a b e c.in_ok-end.ensures c.in_err-put_last.ensures)

pub returns : goal.returns
returns g c =
    let a = sinks (g.O.Sink.told c.args.out.now) (g.R.Sink.told c.args.report.now) in
    let b = sinks (g.O.Sink.told c.write_frames.new.out) (g.R.Sink.told c.write_frames.new.report) in
    let e = sinks (g.O.Sink.told c.put_last.new.out) (g.R.Sink.told c.put_last.new.report) in
    let w = c.args.stage.state.world in
    let frames = frames_behind c.args.plan.now.output c.args.plan.now.steps c.args.plan.now.every w in
    let last = end_of_run (c.args.plan.now.steps - w.step) w in
    subst (λ (answer : Ended). WritesStates 0 c.args.plan.now.workers (states_outcome c.args.plan.now.output [] frames last) a e (Ok answer))
    (sym c.answer_of.ensures)
    (last_done c.args.plan.now.workers c.args.plan.now.output frames last c.in_ok-end.end a b e c.in_ok-end.ensures c.in_ok-put_last.ensures)
