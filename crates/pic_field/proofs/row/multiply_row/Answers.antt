use Rattle.std.proofs.Common.{◌≡◌, ◌^◌, ◌<◌, ℤ, length, to_z, of_z, ◌∙◌, ap, subst, sym, arith}
use mir.Syntax.{w128}
use Rattle.pic_num.specs.Rounding.{scaled}
use Rattle.pic_num.specs.Sizes.{IsAtMost}
use Rattle.pic_num.proofs.SizeLaws.{codes, code_is, at_most_more}
use Rattle.pic_field.specs.Rows.{most_row, row_at}
use Rattle.pic_field.proofs.RowLaws.{held, row_more, small_more}
use Rattle.pic_field.proofs.row.multiply_row.Goals as goal

pub loop-i-preserved : goal.loop-i-preserved
loop-i-preserved c =
    let i = c.loop-i.i in
    let kept : to_z w128 (of_z w128 c.scale.result) ≡ c.scale.result = code_is (search codes depth 6) tt in
    let read : to_z w128 (of_z w128 (row_at c.args.from.now i)) ≡ row_at c.args.from.now i = held c.args.from.now i c.loop-i-test.true c.requires.small in
    let value : to_z w128 (of_z w128 c.scale.result) ≡ scaled (row_at c.args.from.now i) c.args.by =
    kept ∙ c.scale.ensures.value ∙ ap (λ (z : ℤ). scaled z c.args.by) read in
    let inside : i < length c.loop-i.to = omega arith in
    record {
      values = row_more (λ k z. z ≡ scaled (row_at c.args.from.now k) c.args.by) c.loop-i.to i _ inside c.loop-i.invariant.values value;
      small = small_more most_row c.loop-i.to i _ inside c.loop-i.invariant.small
          (subst (λ (z : ℤ). IsAtMost z most_row) (sym kept) (at_most_more _ (2 ^ 121) most_row (omega arith) c.scale.ensures.size));
    }
