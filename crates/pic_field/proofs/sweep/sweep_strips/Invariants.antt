use Rattle.std.proofs.Common.{◌≡◌, ◌-◌, ◌≤◌, true}
use Rattle.pic_field.specs.Lines.{OnStrip, Changed, AreSmall}
use Rattle.pic_field.specs.Sweeps.{made}
use Rattle.pic_field.proofs.sweep.sweep_strips.Given as goal

-- the strips below the line `from` are done
abbrev pub invariant-loop-from : goal.invariant-loop-from
invariant-loop-from l = record {
  most : l.from ≤ l.initial.b.size.y;
  changed : Changed (made l.step l.initial.b.low) (OnStrip 0 l.from) l.initial.b l.b;
  calm : l.calm ≡ true → AreSmall l.step.most (OnStrip 0 l.from) l.b;
}

abbrev pub decreases-loop-from : goal.decreases-loop-from
decreases-loop-from l = l.initial.b.size.y - l.from
