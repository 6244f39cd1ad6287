use Rattle.std.proofs.Common.{◌^◌, ◌≤◌, to_z, of_z, sym, subst, arith}
use Rattle.std.specs.Prelude.{unsigned_abs}
use mir.Syntax.{w128}
use Rattle.pic_num.specs.Sizes.{IsAtMost}
use Rattle.pic_block.specs.Block.{AllAtMost}
use Rattle.pic_grid.proofs.SmallLaws.{all_with}
use Rattle.pic_merge.proofs.merging.tests.put.Goals as goal

pub returns-clause-small : goal.returns-clause-small
returns-clause-small c =
    let tested : unsigned_abs (to_z w128 (of_z w128 c.args.value)) ≤ 2 ^ 120 = omega (arith, c.unsigned_abs.ensures.value, c.if-unsigned_abs.false) in
    let small : IsAtMost (to_z w128 (of_z w128 c.args.value)) (2 ^ 120) = record { size = tested } in
    subst (AllAtMost (2 ^ 120)) (sym c.set.ensures.after) (all_with (2 ^ 120) c.args.block.now _ _ _ c.requires small)
