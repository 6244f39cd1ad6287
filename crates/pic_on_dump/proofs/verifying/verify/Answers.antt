use Rattle.std.proofs.Common.{subst}
use Rattle.pic_io.specs.Sinks.{sinks}
use Rattle.pic_open.specs.declared.stage_stop.StageStop.{StageStop}
use Rattle.pic_open.specs.Stops.{EndsStopped}
use Rattle.pic_on_dump.proofs.VerifyLaws.{good_dump, dump_stopped}
use Rattle.pic_on_dump.proofs.verifying.verify.Goals as goal

pub returns-in-Ok : goal.returns-in-Ok
returns-in-Ok g c =
    let r = g.R.Sink.told c.args.report.now in
    good_dump (g.S.Source.told c.args.source.now) (g.S.Source.told c.verify.new.source) c.in-Ok.ensures.taken c.in-Ok.ensures.reached
    (sinks (g.O.Sink.told c.args.out.now) r) (sinks (g.O.Sink.told c.put_frames.new.out) r) c.put_frames.result c.in-Ok.frames
    c.in-Ok.ensures.verifies (c.put_frames.ensures r)

pub returns-in-Err : goal.returns-in-Err
returns-in-Err g c =
    let o = g.O.Sink.told c.args.out.now in
    let before = sinks o (g.R.Sink.told c.args.report.now) in
    let now = sinks o (g.R.Sink.told c.end_early.new.report) in
    dump_stopped (g.S.Source.told c.args.source.now) (g.S.Source.told c.verify.new.source) c.in-Err.ensures.taken c.in-Err.ensures.reached
    before now c.end_early.result c.in-Err.stop c.in-Err.ensures.verifies c.in-Err.ensures.no_memory
    (subst (λ (stop : StageStop). EndsStopped stop before now c.end_early.result) c.stage_stop_of.ensures (c.end_early.ensures o))
