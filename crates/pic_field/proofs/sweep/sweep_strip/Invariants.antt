use Rattle.std.proofs.Common.{◌≡◌, ◌<◌, true}
use Rattle.pic_field.specs.Beside.{swept_layer}
use Rattle.pic_field.specs.Lines.{OnLayers, Changed, AreSmall}
use Rattle.pic_field.specs.Planes.{plane_at}
use Rattle.pic_field.specs.Sweeps.{made, IsPlaneBeside}
use Rattle.pic_field.proofs.sweep.sweep_strip.Given as goal

-- k layers are done, and the plane at `far` is that beside the next one
abbrev pub invariant-loop-k : goal.invariant-loop-k
invariant-loop-k l = record {
  far : l.far < 2;
  plane : l.k < l.initial.b.size.z
      → IsPlaneBeside l.step l.initial.b.low l.strip (swept_layer l.step.up l.initial.b.size.z l.k) l.initial.b.size.x (plane_at l.rooms.planes l.far);
  changed : Changed (made l.step l.initial.b.low) (OnLayers l.step.up l.strip.from l.strip.to l.initial.b.size.z l.k) l.initial.b l.b;
  calm : l.calm ≡ true → AreSmall l.step.most (OnLayers l.step.up l.strip.from l.strip.to l.initial.b.size.z l.k) l.b;
}
