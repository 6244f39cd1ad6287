use Rattle.std.proofs.Common.{sym, ap, subst}
use Rattle.pic_grid.specs.Lattice.{Field, EachAtMost}
use Rattle.pic_grid.proofs.SmallLaws.{each_zeros}
use Rattle.pic_scheme_tests.proofs.values.lattice_in.Goals as goal

pub loop-axis-init : goal.loop-axis-init
loop-axis-init c = record {
  cells = ap (λ (f : Field). f.cells) c.in_ok-field.ensures;
  side = ap (λ (f : Field). f.side) c.in_ok-field.ensures;
  parts = ap (λ (f : Field). f.parts) c.in_ok-field.ensures;
  small = subst (EachAtMost c.args.most) (sym c.in_ok-field.ensures) (each_zeros c.args.most _ _ _);
}
