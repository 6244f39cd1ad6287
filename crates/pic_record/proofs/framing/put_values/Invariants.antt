use Rattle.std.proofs.Common.{◌-◌, ◌≤◌, length, take}
use Rattle.std.specs.Prelude.{flat_map}
use Rattle.pic_io.specs.Told.{Calm}
use Rattle.pic_num.specs.Bytes.{i128_bytes}
use Rattle.pic_num.specs.Space.{triple}
use Rattle.pic_block.proofs.PlaceLaws.{IsPlace}
use Rattle.pic_record.specs.Queues.{Queued}
use Rattle.pic_record.proofs.framing.put_values.Given as goal

-- the walk stands at the place of the number `done`, the values so far were handed in, and the count
-- of faults stayed
abbrev pub invariant-loop-done : goal.invariant-loop-done
invariant-loop-done g l =
    record {
      place : IsPlace l.field.cells l.done l.place.axis (triple l.place.inner);
      inside : l.done ≤ length l.field.values;
      queued : Queued (g.O.Sink.told l.initial.out) (g.O.Sink.told l.out) l.initial.room l.room (flat_map i128_bytes (take l.done l.field.values));
      calm : Calm (g.O.Sink.told l.initial.out) (g.O.Sink.told l.out);
    }

abbrev pub decreases-loop-done : goal.decreases-loop-done
decreases-loop-done g l = l.all - l.done
