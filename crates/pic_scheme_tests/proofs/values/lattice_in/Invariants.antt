use Rattle.std.proofs.Common.{◌≡◌}
use Rattle.pic_num.specs.Space.{triple}
use Rattle.pic_grid.specs.Lattice.{EachAtMost}
use Rattle.pic_scheme_tests.proofs.values.lattice_in.Given as goal

abbrev pub invariant-loop-axis : goal.invariant-loop-axis
invariant-loop-axis l = record {
  cells : l.field.cells ≡ l.fn.cells.n;
  side : l.field.side ≡ l.fn.cells.side;
  parts : l.field.parts ≡ triple l.fn.parts;
  small : EachAtMost l.most l.field;
}
