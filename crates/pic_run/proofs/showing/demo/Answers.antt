use Rattle.std.proofs.Common.{subst}
use Rattle.pic_io.specs.Sinks.{sinks}
use Rattle.pic_step.specs.SerialStep.{World}
use Rattle.pic_states.specs.declared.output.Output.TheVariants.{Lines}
use Rattle.pic_states.specs.StatesOutcome.{shown_outcome}
use Rattle.pic_report.specs.Leaves.{LeavesWhole}
use Rattle.pic_report.specs.Finishes.{Finishes}
use Rattle.pic_run.proofs.DemoLaws.{shown, shown_stopped}
use Rattle.pic_run.proofs.showing.demo.Goals as goal

pub returns-in-Ok : goal.returns-in-Ok
returns-in-Ok g c =
    let before = sinks (g.O.Sink.told c.args.out.now) (g.R.Sink.told c.args.report.now) in
    let now = sinks (g.O.Sink.told c.show_deck.new.out) (g.R.Sink.told c.show_deck.new.report) in
    let d = c.in-Ok.opened.deck in
    λ source. shown c.args.seed c.args.workers c.in-Ok.opened source before now c.show_deck.result c.in-Ok.ensures
    (subst (λ (w : World). Finishes (LeavesWhole c.args.workers) (shown_outcome Lines d.steps d.every w) before now c.show_deck.result)
    c.in-Ok.ensures.begins.start c.show_deck.ensures)

pub returns-in-Err : goal.returns-in-Err
returns-in-Err g c =
    let o = g.O.Sink.told c.args.out.now in
    λ source. shown_stopped c.args.seed c.args.workers c.in-Err.stop source
    (sinks o (g.R.Sink.told c.args.report.now)) (sinks o (g.R.Sink.told c.end_early.new.report)) c.end_early.result
    c.in-Err.ensures (c.end_early.ensures o)
