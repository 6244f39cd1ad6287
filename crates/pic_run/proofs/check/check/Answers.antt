use Rattle.std.proofs.Common.{length, ap, arith}
use Rattle.pic_io.specs.Sinks.{sinks}
use Rattle.pic_step.specs.SerialStep.{World}
use Rattle.pic_run.specs.DeckOutcome.{check_outcome}
use Rattle.pic_report.specs.Leaves.{LeavesNothing}
use Rattle.pic_run.specs.Check.{CheckMeans}
use Rattle.pic_run.proofs.DeckLaws.{on_stopped, on_opened}
use Rattle.pic_run.proofs.check.check.Goals as goal

pub returns-in-Ok : goal.returns-in-Ok
returns-in-Ok g c =
    let r = g.R.Sink.told c.args.report.now in
    let opens = c.in-Ok.ensures in
    let count = ap (λ (w : World). length w.particles) opens.opens.begins.start in
    on_opened check_outcome LeavesNothing CheckMeans c.in-Ok.opened (g.S.Source.told c.args.source.now) (g.S.Source.told c.open.new.source)
    (sinks (g.O.Sink.told c.args.out.now) r) (sinks (g.O.Sink.told c.put_count.new.out) r) c.put_count.result
    opens (c.put_count.ensures c.in-Ok.opened.deck r (omega arith))

pub returns-in-Err : goal.returns-in-Err
returns-in-Err g c =
    let o = g.O.Sink.told c.args.out.now in
    on_stopped check_outcome LeavesNothing CheckMeans c.in-Err.stop (g.S.Source.told c.args.source.now) (g.S.Source.told c.open.new.source)
    (sinks o (g.R.Sink.told c.args.report.now)) (sinks o (g.R.Sink.told c.end_early.new.report)) c.end_early.result
    (λ _ wrote. wrote) c.in-Err.ensures (c.end_early.ensures o)
