use Rattle.std.proofs.Common.{ℕ, [], subst}
use Rattle.pic_io.specs.Sinks.{sinks}
use Rattle.pic_io.proofs.Puts.{wrote_out}
use Rattle.pic_header.specs.HeaderText.{header_bytes}
use Rattle.pic_states.specs.declared.output.Output.TheVariants.{Dump}
use Rattle.pic_states.specs.Frames.{frames_of, end_of_run, end_piece}
use Rattle.pic_states.specs.StatesOutcome.{states_outcome}
use Rattle.pic_states.specs.Runs.{WritesStates}
use Rattle.pic_dump.proofs.TextLaws.{header_some}
use Rattle.pic_states.proofs.RunLaws.{headed}
use Rattle.pic_report.proofs.PieceLaws.{head_cut}
use Rattle.pic_run.proofs.running.write_run.Goals as goal

pub returns-in-Ok : goal.returns-in-Ok
returns-in-Ok g c =
    let o = g.O.Sink.told c.args.out.now in
    let p = g.O.Sink.told c.put_header.new.out in
    let r = g.R.Sink.told c.args.report.now in
    let b = sinks p r in
    let e = sinks (g.O.Sink.told c.write_states.new.out) (g.R.Sink.told c.write_states.new.report) in
    let h = c.args.ready.header in
    let w = c.args.ready.stage.state.world in
    let states = subst (λ (every : ℕ). WritesStates 1 c.args.workers (states_outcome Dump [] (frames_of Dump h.steps every w)
    (end_of_run h.steps w)) b e c.write_states.result) c.every.ensures.value
    (subst (λ (steps : ℕ). WritesStates 1 c.args.workers (states_outcome Dump [] (frames_of Dump steps c.every.result w)
    (end_of_run steps w)) b e c.write_states.result) c.steps.ensures.value c.write_states.ensures) in
    headed c.args.workers Dump (header_bytes h) (frames_of Dump h.steps h.every w) (end_of_run h.steps w) (sinks o r) b e c.write_states.result
    (wrote_out o p r (header_bytes h) c.in-Ok.ensures.bytes c.in-Ok.ensures.cause.ok) states

pub returns : goal.returns
returns g c =
    let o = g.O.Sink.told c.args.out.now in
    let p = g.O.Sink.told c.put_header.new.out in
    let r = g.R.Sink.told c.args.report.now in
    let h = c.args.ready.header in
    let w = c.args.ready.stage.state.world in
    head_cut o p r (header_bytes h) (frames_of Dump h.steps h.every w) (end_piece Dump (end_of_run h.steps w)) (header_some h)
    c.in-Err.ensures.bytes c.in-Err.ensures.cause.err
