use Rattle.std.proofs.Common.{sym, subst}
use Rattle.pic_io.specs.Sinks.{sinks}
use Rattle.pic_header.specs.Header.{IsHeader}
use Rattle.pic_step.specs.Sound.{IsSound}
use Rattle.pic_states.specs.Rooms.{HasShape}
use Rattle.pic_on_dump.proofs.CarriedLaws.{frame_sound, carried_is, carried_room}
use Rattle.pic_on_dump.proofs.ResumeLaws.{not_carried, cut_off, resumed}
use Rattle.pic_on_dump.proofs.resuming.resume.Goals as goal

pub go_on-requires-clause-sound : goal.go_on-requires-clause-sound
go_on-requires-clause-sound g c κs within =
    let gives = c.in-Ok.ensures.carries.answer in
    let goes = gives.goes in
    let header = subst IsHeader gives.is.header c.version-limits.ensures.limits in
    subst IsSound (sym (carried_is goes c.in-Ok.carried gives.is)) (frame_sound goes.header goes.last header gives.can)

pub go_on-requires-clause-room : goal.go_on-requires-clause-room
go_on-requires-clause-room g c κs within =
    let gives = c.in-Ok.ensures.carries.answer in
    subst (HasShape c.in-Ok.carried.last) (sym (carried_is gives.goes c.in-Ok.carried gives.is)) (carried_room gives.goes c.in-Ok.carried gives.is)

pub returns-in-Ok : goal.returns-in-Ok
returns-in-Ok g c =
    resumed c.args.further.steps c.args.further.tiles (g.S.Source.told c.args.source.now) (g.S.Source.told c.carry.new.source)
    c.carry.ensures.taken c.carry.ensures.reached
    (sinks (g.O.Sink.told c.args.out.now) (g.R.Sink.told c.args.report.now))
    (sinks (g.O.Sink.told c.carry.new.out) (g.R.Sink.told c.carry.new.report))
    (sinks (g.O.Sink.told c.go_on.new.out) (g.R.Sink.told c.go_on.new.report)) c.go_on.result
    c.in-Ok.carried c.version-limits.ensures.limits c.in-Ok.ensures.carries.answer c.go_on.ensures

pub returns-in-Ok-early_of : goal.returns-in-Ok-early_of
returns-in-Ok-early_of g c =
    let o = g.O.Sink.told c.carry.new.out in
    not_carried c.args.further.steps c.args.further.tiles c.in-Err.stop c.in-Ok-early_of.early
    (g.S.Source.told c.args.source.now) (g.S.Source.told c.carry.new.source)
    c.carry.ensures.taken c.carry.ensures.reached
    (sinks (g.O.Sink.told c.args.out.now) (g.R.Sink.told c.args.report.now)) (sinks o (g.R.Sink.told c.carry.new.report))
    (sinks o (g.R.Sink.told c.end_early.new.report)) c.end_early.result (sym c.in-Ok-early_of.ensures) c.in-Err.ensures.carries.answer c.in-Err.ensures.early
    (c.end_early.ensures o)

pub returns-in-Err-early_of : goal.returns-in-Err-early_of
returns-in-Err-early_of g c =
    cut_off c.args.further.steps c.args.further.tiles c.in-Err.stop c.in-Err-early_of.cut
    (g.S.Source.told c.args.source.now) (g.S.Source.told c.carry.new.source)
    c.carry.ensures.taken c.carry.ensures.reached
    (sinks (g.O.Sink.told c.args.out.now) (g.R.Sink.told c.args.report.now)) (sinks (g.O.Sink.told c.carry.new.out) (g.R.Sink.told c.carry.new.report))
    (sym c.in-Err-early_of.ensures) c.in-Err.ensures.carries.answer c.in-Err.ensures.early
