use Rattle.std.proofs.Common.{subst, inl}
use Rattle.pic_io.specs.Sinks.{sinks}
use Rattle.pic_step.specs.SerialStep.{World}
use Rattle.pic_run.specs.DeckOutcome.{run_outcome}
use Rattle.pic_states.specs.StatesOutcome.{dump_outcome}
use Rattle.pic_run.specs.RunHeader.{header_of}
use Rattle.pic_report.specs.Leaves.{LeavesWhole}
use Rattle.pic_report.specs.Finishes.{Finishes}
use Rattle.pic_run.specs.OnDeck.{HasDeck, RunMeans}
use Rattle.pic_run.proofs.DeckLaws.{on_stopped, on_opened}
use Rattle.pic_run.proofs.running.run.Goals as goal

pub returns-in-Ok : goal.returns-in-Ok
returns-in-Ok g c =
    let before = sinks (g.O.Sink.told c.args.out.now) (g.R.Sink.told c.args.report.now) in
    let now = sinks (g.O.Sink.told c.run_deck.new.out) (g.R.Sink.told c.run_deck.new.report) in
    let opens = c.in-Ok.ensures in
    let d = c.in-Ok.opened.deck in
    let leaves = LeavesWhole c.args.workers in
    on_opened run_outcome leaves (λ call. RunMeans (HasDeck call)) c.in-Ok.opened (g.S.Source.told c.args.source.now) (g.S.Source.told c.open.new.source)
    before now c.run_deck.result opens
    (subst (λ (w : World). Finishes leaves (dump_outcome (header_of d) w) before now c.run_deck.result) opens.opens.begins.start c.run_deck.ensures)

pub returns-in-Err : goal.returns-in-Err
returns-in-Err g c =
    let o = g.O.Sink.told c.args.out.now in
    on_stopped run_outcome (LeavesWhole c.args.workers) (λ call. RunMeans (HasDeck call)) c.in-Err.stop
    (g.S.Source.told c.args.source.now) (g.S.Source.told c.open.new.source)
    (sinks o (g.R.Sink.told c.args.report.now)) (sinks o (g.R.Sink.told c.end_early.new.report)) c.end_early.result
    (λ _ wrote. inl wrote) c.in-Err.ensures (c.end_early.ensures o)
