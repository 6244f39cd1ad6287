-- The particles so far.
use Rattle.std.proofs.Common.{◌≡◌, ◌+◌, ◌*◌, length, take, drop}
use Rattle.pic_energy.specs.Energies.{IsOfKinds}
use Rattle.pic_fields.specs.Pieces.{each_behind}
use Rattle.pic_fields.specs.Reads.{HasRead}
use Rattle.pic_record.specs.Firsts.{FirstAre}
use Rattle.pic_record.specs.FrameFields.{particle_at, IsBoxed}
use Rattle.pic_record.proofs.frame_reader.read_some_particles.Given as goal

abbrev pub invariant-loop-index : goal.invariant-loop-index
invariant-loop-index g l = record {
  read : HasRead (each_behind (take l.part.first l.initial.particles) l.index (particle_at l.layout)) l.place (g.S.Source.told l.initial.source)
      (drop l.part.first (take (l.part.first + l.index) l.particles)) (l.place + 24 * l.index) (g.S.Source.told l.source);
  length : length l.particles ≡ length l.initial.particles;
  front : take l.part.first l.particles ≡ take l.part.first l.initial.particles;
  species : FirstAre (IsOfKinds l.layout.kinds) (l.part.first + l.index) l.particles;
  places : FirstAre (IsBoxed l.layout.side l.layout.cells) (l.part.first + l.index) l.particles;
}
