use Rattle.std.proofs.Common.{◌^◌, ◌≤◌, to_z, of_z, sym, subst, arith}
use Rattle.std.specs.Prelude.{unsigned_abs}
use mir.Syntax.{w128}
use Rattle.pic_num.specs.Sizes.{IsAtMost}
use Rattle.pic_block.specs.Block.{AllAtMost}
use Rattle.pic_grid.proofs.SmallLaws.{all_with}
use Rattle.pic_scheme_tests.proofs.values.put_edge.Goals as goal

pub returns-clause-small : goal.returns-clause-small
returns-clause-small c =
    let tested : unsigned_abs (to_z w128 (of_z w128 c.args.value)) ≤ 2 ^ 90 = omega (arith, c.unsigned_abs.ensures.value, c.if-unsigned_abs.false) in
    let small : IsAtMost (to_z w128 (of_z w128 c.args.value)) (2 ^ 90) = record { size = tested } in
    subst (AllAtMost (2 ^ 90)) (sym c.set.ensures.after) (all_with (2 ^ 90) c.args.block.now c.args.axis _ _ c.requires small)
