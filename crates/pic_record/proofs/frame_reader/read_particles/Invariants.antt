-- The pieces so far.
use Rattle.std.proofs.Common.{◌≡◌, ◌+◌, ◌-◌, ◌*◌, ◌≤◌, length, take}
use Rattle.std.specs.Prelude.{sum}
use Rattle.pic_energy.specs.Energies.{IsOfKinds}
use Rattle.pic_fields.specs.Parser.{each}
use Rattle.pic_fields.specs.Reads.{HasRead}
use Rattle.pic_record.specs.Firsts.{FirstAre}
use Rattle.pic_record.specs.FrameFields.{particle_at, IsBoxed}
use Rattle.pic_record.proofs.frame_reader.read_particles.Given as goal

abbrev pub invariant-loop-first : goal.invariant-loop-first
invariant-loop-first g l = record {
  read : HasRead (each l.first (particle_at l.layout)) l.place (g.S.Source.told l.initial.source) (take l.first l.particles) (l.place + 24 * l.first)
      (g.S.Source.told l.source);
  all : l.all ≡ sum l.layout.counts;
  most : l.first ≤ l.all;
  length : length l.particles ≡ length l.initial.particles;
  species : FirstAre (IsOfKinds l.layout.kinds) l.first l.particles;
  places : FirstAre (IsBoxed l.layout.side l.layout.cells) l.first l.particles;
}

abbrev pub decreases-loop-first : goal.decreases-loop-first
decreases-loop-first g l = l.all - l.first
