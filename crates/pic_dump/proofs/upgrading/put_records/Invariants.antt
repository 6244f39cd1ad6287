-- So many frames were read and put.
use Rattle.std.proofs.Common.{◌≡◌, ◌+◌, ◌-◌, length}
use Rattle.std.specs.Prelude.{sum}
use Rattle.pic_record.specs.Layout.{IsLayout}
use Rattle.pic_dump.proofs.UpgradeLaws.{Follows}
use Rattle.pic_dump.proofs.upgrading.put_records.Given as goal

abbrev pub invariant-records : goal.invariant-records
invariant-records g l = record {
  follows : Follows l.initial.reader (g.S.Source.told l.initial.source) (g.O.Sink.told l.initial.out) l.frames l.reader (g.S.Source.told l.source)
      (g.O.Sink.told l.out);
  e : l.state.e.cells ≡ l.reader.layout.cells;
  b : l.state.b.cells ≡ l.reader.layout.cells;
  particles : length l.state.particles.items ≡ sum l.reader.layout.counts;
  limits : IsLayout l.reader.layout;
}

abbrev pub decreases-records : goal.decreases-records
decreases-records g l = l.initial.reader.layout.steps + 1 - l.frames
