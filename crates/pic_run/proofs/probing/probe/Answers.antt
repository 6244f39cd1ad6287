use Rattle.std.proofs.Common.{subst, inl}
use Rattle.pic_io.specs.Sinks.{sinks}
use Rattle.pic_step.specs.SerialStep.{World}
use Rattle.pic_states.specs.declared.output.Output.TheVariants.{Probe}
use Rattle.pic_states.specs.StatesOutcome.{shown_outcome}
use Rattle.pic_run.specs.DeckOutcome.{probe_outcome}
use Rattle.pic_report.specs.Leaves.{LeavesWhole}
use Rattle.pic_report.specs.Finishes.{Finishes}
use Rattle.pic_run.specs.OnDeck.{HasDeck, RunMeans}
use Rattle.pic_run.proofs.DeckLaws.{on_stopped, on_opened}
use Rattle.pic_run.proofs.probing.probe.Goals as goal

pub returns-in-Ok : goal.returns-in-Ok
returns-in-Ok g c =
    let before = sinks (g.O.Sink.told c.args.out.now) (g.R.Sink.told c.args.report.now) in
    let now = sinks (g.O.Sink.told c.watch_deck.new.out) (g.R.Sink.told c.watch_deck.new.report) in
    let opens = c.in-Ok.ensures in
    let d = c.in-Ok.opened.deck in
    let leaves = LeavesWhole c.args.workers in
    on_opened probe_outcome leaves (λ call. RunMeans (HasDeck call)) c.in-Ok.opened (g.S.Source.told c.args.source.now) (g.S.Source.told c.open.new.source)
    before now c.watch_deck.result opens
    (subst (λ (w : World). Finishes leaves (shown_outcome (Probe d.probes) d.steps 1 w) before now c.watch_deck.result)
    opens.opens.begins.start c.watch_deck.ensures)

pub returns-in-Err : goal.returns-in-Err
returns-in-Err g c =
    let o = g.O.Sink.told c.args.out.now in
    on_stopped probe_outcome (LeavesWhole c.args.workers) (λ call. RunMeans (HasDeck call)) c.in-Err.stop
    (g.S.Source.told c.args.source.now) (g.S.Source.told c.open.new.source)
    (sinks o (g.R.Sink.told c.args.report.now)) (sinks o (g.R.Sink.told c.end_early.new.report)) c.end_early.result
    (λ _ wrote. inl wrote) c.in-Err.ensures (c.end_early.ensures o)
