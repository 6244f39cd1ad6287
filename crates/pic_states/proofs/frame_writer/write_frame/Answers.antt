use Rattle.std.proofs.Common.{sym, subst}
use Rattle.pic_states.specs.declared.output.Output.{Output}
use Rattle.pic_states.specs.Rooms.{CanLook, CanPut, CanSee}
use Rattle.pic_states.proofs.FrameLaws.{put_as}
use Rattle.pic_states.proofs.RoomLaws.{holds_filled}
use Rattle.pic_states.proofs.frame_writer.write_frame.Goals as goal

pub put_record-requires : goal.put_record-requires
put_record-requires g c =
    holds_filled c.args.room.now c.fill.new.to c.args.state.now.world c.requires.room c.fill.ensures.e c.fill.ensures.b c.fill.ensures.particles

pub put_summary-requires : goal.put_summary-requires
put_summary-requires g c =
    let to = c.fill-in-Lines.ensures in
    holds_filled c.args.room.now c.fill-in-Lines.new.to c.args.state.now.world c.requires.room to.e to.b to.particles

pub look-requires-clause-probes : goal.look-requires-clause-probes
look-requires-clause-probes g c =
    subst (λ (output : Output). CanPut output c.args.state.now.world) c.in-Probe.is c.requires.probes

pub look-requires-clause-followed : goal.look-requires-clause-followed
look-requires-clause-followed g c =
    let can : CanSee c.in-Probe.probes c.args.room.now c.args.state.now.followed =
    subst (λ (output : Output). CanLook output c.args.room.now c.args.state.now.followed) c.in-Probe.is c.requires.look in
    can.followed

pub look-requires-clause-ordered : goal.look-requires-clause-ordered
look-requires-clause-ordered g c =
    let can : CanSee c.in-Probe.probes c.args.room.now c.args.state.now.followed =
    subst (λ (output : Output). CanLook output c.args.room.now c.args.state.now.followed) c.in-Probe.is c.requires.look in
    can.ordered

pub returns-in-Dump-clause-look : goal.returns-in-Dump-clause-look
returns-in-Dump-clause-look g c =
    subst (λ (output : Output). CanLook output c.fill.new.to c.args.state.now.followed) (sym c.in-Dump.is) tt

pub returns-in-Lines-clause-look : goal.returns-in-Lines-clause-look
returns-in-Lines-clause-look g c =
    subst (λ (output : Output). CanLook output c.fill-in-Lines.new.to c.args.state.now.followed) (sym c.in-Lines.is) tt

pub returns-in-Probe-clause-look : goal.returns-in-Probe-clause-look
returns-in-Probe-clause-look g c =
    let can : CanSee c.in-Probe.probes c.args.room.now c.args.state.now.followed =
    subst (λ (output : Output). CanLook output c.args.room.now c.args.state.now.followed) c.in-Probe.is c.requires.look in
    subst (λ (output : Output). CanLook output c.look.new.to c.args.state.now.followed) (sym c.in-Probe.is) (record {
      followed = can.followed;
      ordered = c.look.ensures.ordered;
    })

pub put_sight-requires-clause-probes : goal.put_sight-requires-clause-probes
put_sight-requires-clause-probes g c =
    subst (λ (output : Output). CanPut output c.args.state.now.world) c.in-Probe.is c.requires.probes

pub returns-in-Dump-clause-writes : goal.returns-in-Dump-clause-writes
returns-in-Dump-clause-writes g c = put_as _ _ c.args.state.now.world _ _ _ c.in-Dump.is c.put_record.ensures

pub returns-in-Lines-clause-writes : goal.returns-in-Lines-clause-writes
returns-in-Lines-clause-writes g c =
    put_as _ _ c.args.state.now.world _ _ _ c.in-Lines.is (c.put_summary.ensures (g.R.Sink.told c.args.report.now))

pub returns-in-Probe-clause-writes : goal.returns-in-Probe-clause-writes
returns-in-Probe-clause-writes g c =
    put_as _ _ c.args.state.now.world _ _ _ c.in-Probe.is (c.put_sight.ensures (g.R.Sink.told c.args.report.now))
