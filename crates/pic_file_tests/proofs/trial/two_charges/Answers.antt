use Rattle.std.proofs.Common.{rules, arith, sym, subst, ◌∙◌}
use Rattle.pic_num.specs.Versions.{IsGridOf}
use Rattle.pic_file_tests.proofs.SideLaws.{side_allowed}
use Rattle.pic_file_tests.proofs.LoopLaws.{no_loops}
use Rattle.pic_file_tests.proofs.trial.two_charges.Goals as goal

-- src/trial.rt:57:8
pub new-requires-4 : goal.new-requires-4
new-requires-4 g c = record {
  version = record { least = omega arith; most = omega arith };
  grid = subst (λ g. IsGridOf 1 g.n g.side) (sym c.new-2.ensures)
      (record { x = omega arith; y = omega arith; z = omega arith; sides = side_allowed _ c.of_bits.ensures });
  steps_most = omega arith;
  every_least = omega arith;
  every_most = omega arith;
  filter = omega arith;
  heads = search rules;
  loops = no_loops _ _ _ (c.from_vec-loops.ensures ∙ c.new-3.ensures.items);
}
