-- So many good frames were read.
use Rattle.std.proofs.Common.{◌≡◌, ◌+◌, ◌-◌, length}
use Rattle.std.specs.Prelude.{sum}
use Rattle.pic_record.specs.Layout.{IsLayout}
use Rattle.pic_verify.specs.Verified.{IsRoomFor}
use Rattle.pic_verify.proofs.WalkLaws.{Follows}
use Rattle.pic_verify.proofs.ReachedLaws.{AreGood}
use Rattle.pic_verify.proofs.verifying.walk.Given as goal

abbrev pub invariant-records : goal.invariant-records
invariant-records g l = record {
  follows : Follows l.initial.reader (g.S.Source.told l.initial.source) l.frame l.reader (g.S.Source.told l.source);
  e : l.state.e.cells ≡ l.reader.layout.cells;
  b : l.state.b.cells ≡ l.reader.layout.cells;
  particles : length l.state.particles.items ≡ sum l.reader.layout.counts;
  room : IsRoomFor l.reader.layout l.room;
  limits : IsLayout l.reader.layout;
  good : AreGood l.initial.reader (g.S.Source.told l.initial.source) l.frame (g.S.Source.told l.source);
}

abbrev pub decreases-records : goal.decreases-records
decreases-records g l = l.initial.reader.layout.steps + 1 - l.frame
