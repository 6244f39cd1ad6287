-- So many good frames were read, and those that are kept were put.
use Rattle.std.proofs.Common.{◌+◌, ◌-◌}
use Rattle.pic_io.specs.Sinks.{sinks}
use Rattle.pic_record.specs.Layout.{IsLayout}
use Rattle.pic_verify.proofs.ReachedLaws.{AreGood}
use Rattle.pic_verify.specs.Verified.{IsRoomFor}
use Rattle.pic_resume.proofs.BehindLaws.{HasRoom, Keeps}
use Rattle.pic_resume.proofs.carrying.put_kept.Given as goal

abbrev pub invariant-records : goal.invariant-records
invariant-records g l = record {
  keeps : Keeps l.initial.plan.steps l.initial.reader (g.S.Source.told l.initial.source)
      (sinks (g.O.Sink.told l.initial.out) (g.R.Sink.told l.initial.report)) l.frame l.reader (g.S.Source.told l.source)
      (sinks (g.O.Sink.told l.out) (g.R.Sink.told l.report)) l.last l.state;
  good : AreGood l.initial.reader (g.S.Source.told l.initial.source) l.frame (g.S.Source.told l.source);
  room : HasRoom l.reader.layout l.state;
  charge : IsRoomFor l.reader.layout l.charge;
  limits : IsLayout l.reader.layout;
}

abbrev pub decreases-records : goal.decreases-records
decreases-records g l = l.initial.reader.layout.steps + 1 - l.frame
