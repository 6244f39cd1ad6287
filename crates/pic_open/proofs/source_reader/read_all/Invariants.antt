use Rattle.std.proofs.Common.{◌≡◌, ◌-◌, ◌≤◌, vec_len}
use Rattle.pic_io.specs.Told.{Calm}
use Rattle.pic_io.specs.Source.{with_front}
use Rattle.pic_open.proofs.source_reader.read_all.Given as goal

-- the bytes so far were taken, and the count of faults stayed
abbrev pub invariant-pieces : goal.invariant-pieces
invariant-pieces g l =
    record {
      taken : (g.S.Source.told l.initial.source).bytes ≡ with_front l.bytes.items (g.S.Source.told l.source).bytes;
      calm : Calm (g.S.Source.told l.initial.source) (g.S.Source.told l.source);
      below : vec_len l.bytes ≤ l.limit;
    }

abbrev pub decreases-pieces : goal.decreases-pieces
decreases-pieces g l = l.limit - vec_len l.bytes
