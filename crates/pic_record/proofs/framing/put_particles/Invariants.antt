use Rattle.std.proofs.Common.{take}
use Rattle.std.specs.Prelude.{flat_map}
use Rattle.pic_io.specs.Told.{Calm}
use Rattle.pic_record.specs.RecordText.{particle_bytes}
use Rattle.pic_record.specs.Queues.{Queued}
use Rattle.pic_record.proofs.framing.put_particles.Given as goal

-- the particles so far were handed in, and the count of faults stayed
abbrev pub invariant-loop-particle : goal.invariant-loop-particle
invariant-loop-particle g l =
    record {
      queued : Queued (g.O.Sink.told l.initial.out) (g.O.Sink.told l.out) l.initial.room l.room (flat_map particle_bytes (take l.particle-index l.particles));
      calm : Calm (g.O.Sink.told l.initial.out) (g.O.Sink.told l.out);
    }
