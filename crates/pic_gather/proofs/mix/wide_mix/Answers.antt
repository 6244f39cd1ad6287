use Rattle.std.proofs.Common.{pos, ◌*◌, ◌*ℤ◌, ◌∙◌, arith}
use Rattle.std.proofs.lemmas.Int.{to_z-of_z}
use mir.Syntax.{w64, w128}
use Rattle.pic_num.proofs.SizeLaws.{codes, code_fits}
use Rattle.pic_gather.proofs.MixLaws.{held_row, code_four, four_of}
use Rattle.pic_gather.proofs.mix.wide_mix.Goals as goal

pub weighed-requires : goal.weighed-requires
weighed-requires c = record {
  small = held_row c.args.low_low _ c.ranges.low_low.sfits c.requires.low_low_small;
  y_most = omega (arith, c.requires.y_most);
  z_most = omega (arith, c.requires.z_most);
}

pub weighed-requires-2 : goal.weighed-requires-2
weighed-requires-2 c = record {
  small = held_row c.args.high_low _ c.ranges.high_low.sfits c.requires.high_low_small;
  y_most = omega (arith, c.requires.y_most);
  z_most = omega (arith, c.requires.z_most);
}

pub weighed-requires-3 : goal.weighed-requires-3
weighed-requires-3 c = record {
  small = held_row c.args.low_high _ c.ranges.low_high.sfits c.requires.low_high_small;
  y_most = omega (arith, c.requires.y_most);
  z_most = omega (arith, c.requires.z_most);
}

pub weighed-requires-4 : goal.weighed-requires-4
weighed-requires-4 c = record {
  small = held_row c.args.high_high _ c.ranges.high_high.sfits c.requires.high_high_small;
  y_most = omega (arith, c.requires.y_most);
  z_most = omega (arith, c.requires.z_most);
}

pub overflow_add-result : goal.overflow_add-result
overflow_add-result c =
    let one = c.weighed.ensures.size in
    let two = c.weighed-2.ensures.size in
    code_fits w128 (search codes depth 8) tt

pub overflow_add-result-2 : goal.overflow_add-result-2
overflow_add-result-2 c =
    let one = c.weighed.ensures.size in
    let two = c.weighed-2.ensures.size in
    let three = c.weighed-3.ensures.size in
    code_fits w128 (search codes depth 20) tt

pub overflow_add-result-3 : goal.overflow_add-result-3
overflow_add-result-3 c =
    let one = c.weighed.ensures.size in
    let two = c.weighed-2.ensures.size in
    let three = c.weighed-3.ensures.size in
    let four = c.weighed-4.ensures.size in
    code_fits w128 (search codes depth 20) tt

pub returns : goal.returns
returns c =
    let y = c.args.y in
    let z = c.args.z in
    let low_low = to_z-of_z w64 c.args.low_low c.ranges.low_low in
    let high_low = to_z-of_z w64 c.args.high_low c.ranges.high_low in
    let low_high = to_z-of_z w64 c.args.low_high c.ranges.low_high in
    let high_high = to_z-of_z w64 c.args.high_high c.ranges.high_high in
    let sum = code_four _ _ _ _ c.weighed.ensures.size c.weighed-2.ensures.size c.weighed-3.ensures.size c.weighed-4.ensures.size in
    four_of c.args.low_low c.args.high_low c.args.low_high c.args.high_high _ _ _ _ _ y.low_weight y.high_weight z.low_weight z.high_weight
    (c.weighed.ensures.value ∙ (λ i. low_low i *ℤ pos (y.low_weight * z.low_weight)))
    (c.weighed-2.ensures.value ∙ (λ i. high_low i *ℤ pos (y.high_weight * z.low_weight)))
    (c.weighed-3.ensures.value ∙ (λ i. low_high i *ℤ pos (y.low_weight * z.high_weight)))
    (c.weighed-4.ensures.value ∙ (λ i. high_high i *ℤ pos (y.high_weight * z.high_weight)))
    sum
