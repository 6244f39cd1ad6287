use Rattle.std.proofs.Common.{◌≡◌, true}
use Rattle.pic_field.specs.Lines.{OnLines, Changed, AreSmall}
use Rattle.pic_field.specs.Sweeps.{made}
use Rattle.pic_field.proofs.sweep.sweep_lines.Given as goal

-- the lines below y are done
abbrev pub invariant-loop-y : goal.invariant-loop-y
invariant-loop-y l = record {
  changed : Changed (made l.step l.initial.b.low) (OnLines l.strip.from l.y l.z) l.initial.b l.b;
  calm : l.calm ≡ true → AreSmall l.step.most (OnLines l.strip.from l.y l.z) l.b;
}
