use Rattle.std.proofs.Common.{pos, ◌∙◌, arith}
use Rattle.std.proofs.lemmas.Int.{to_z-of_z}
use mir.Syntax.{w64, w128}
use Rattle.pic_num.specs.Rounding.{rounded}
use Rattle.pic_gather.proofs.MixLaws.{held_row, held_sum, row_most, four_mixed, four_size, cube_of}
use Rattle.pic_gather.proofs.component.component.Goals as goal

pub wide_mix-sum-requires : goal.wide_mix-sum-requires
wide_mix-sum-requires c =
    let most = c.requires.most in
    let y = c.requires.on.y.pair.whole in
    let z = c.requires.on.z.whole in
    record {
      low_low_small = row_most _ _ most (held_row _ _ c.row-low_low.type_inv c.row-low_low.ensures.size);
      high_low_small = row_most _ _ most (held_row _ _ c.row-high_low.type_inv c.row-high_low.ensures.size);
      low_high_small = row_most _ _ most (held_row _ _ c.row-low_high.type_inv c.row-low_high.ensures.size);
      high_high_small = row_most _ _ most (held_row _ _ c.row-high_high.type_inv c.row-high_high.ensures.size);
      y_most = omega (arith, y, most);
      z_most = omega (arith, z, most);
    }

pub mean-requires-clause-small : goal.mean-requires-clause-small
mean-requires-clause-small c =
    let y = c.requires.on.y.pair in
    let z = c.requires.on.z in
    let small = four_size c.args.force.now c.args.axis c.args.at.x.pair c.args.at.y.pair c.args.at.z _ _ _ _ c.wide_mix-sum.result y z c.wide_mix-sum.ensures
    (held_row _ _ c.row-low_low.type_inv c.row-low_low.ensures.size) (held_row _ _ c.row-high_low.type_inv c.row-high_low.ensures.size)
    (held_row _ _ c.row-low_high.type_inv c.row-low_high.ensures.size) (held_row _ _ c.row-high_high.type_inv c.row-high_high.ensures.size)
    in
    held_sum c.wide_mix-sum.result _ c.wide_mix-sum.type_inv (cube_of c.wide_mix-sum.result _ c.args.cube c.requires.cube small)

pub returns-clause-value : goal.returns-clause-value
returns-clause-value c =
    let f = c.args.force.now in
    let a = c.args.axis in
    let x = c.args.at.x.pair in
    let y = c.requires.on.y.pair in
    let z = c.requires.on.z in
    let low_low = to_z-of_z w64 c.row-low_low.result (record { sfits = c.row-low_low.type_inv }) ∙ c.row-low_low.ensures.value in
    let high_low = to_z-of_z w64 c.row-high_low.result (record { sfits = c.row-high_low.type_inv }) ∙ c.row-high_low.ensures.value in
    let low_high = to_z-of_z w64 c.row-low_high.result (record { sfits = c.row-low_high.type_inv }) ∙ c.row-low_high.ensures.value in
    let high_high = to_z-of_z w64 c.row-high_high.result (record { sfits = c.row-high_high.type_inv }) ∙ c.row-high_high.ensures.value in
    let sum = to_z-of_z w128 c.wide_mix-sum.result (record { sfits = c.wide_mix-sum.type_inv })
    ∙ four_mixed f a x c.args.at.y.pair c.args.at.z _ _ _ _ c.wide_mix-sum.result y z c.wide_mix-sum.ensures low_low high_low low_high high_high
    in
    to_z-of_z w64 c.mean.result (record { sfits = c.mean.type_inv }) ∙ c.mean.ensures.value ∙ (λ i. rounded (sum i) (pos (c.requires.cube.cube i)))
