use Rattle.std.proofs.Common.{◌≡◌, ◌≤◌, ◌*◌, ◌-◌, ◌^◌}
use Rattle.pic_load.specs.Drawing.{sum_of_words}
use Rattle.pic_load.specs.Generator.{after}
use Rattle.pic_load.proofs.drawing.sum_of_twelve.Given as goal

abbrev pub invariant-loop : goal.invariant-loop
invariant-loop l = record {
  sum : l.total ≡ sum_of_words l.counter l.initial.rng;
  most : l.total ≤ l.counter * (2 ^ 32 - 1);
  left : l.rng ≡ after l.counter l.initial.rng;
}
