use Rattle.std.proofs.Common.{ℤ, ◌+◌, ◌*◌, sym, subst}
use Rattle.pic_num.specs.Sizes.{IsAtMost}
use Rattle.pic_gather.proofs.MixLaws.{mix_size, weighed_fits, low_room, high_room, sum_fits, mix_is}
use Rattle.pic_gather.proofs.mix.mix.Goals as goal

pub overflow_mul-result : goal.overflow_mul-result
overflow_mul-result c =
    weighed_fits c.args.low c.from.result c.args.pair.low_weight c.ranges.low (record { sfits = c.from.type_inv }) c.from.ensures c.requires.most c.requires.low
    (low_room c.args.low c.args.high c.args.pair c.requires)

pub overflow_mul-result-2 : goal.overflow_mul-result-2
overflow_mul-result-2 c =
    weighed_fits c.args.high c.from-2.result c.args.pair.high_weight c.ranges.high (record { sfits = c.from-2.type_inv }) c.from-2.ensures c.requires.most
    c.requires.high (high_room c.args.low c.args.high c.args.pair c.requires)

pub overflow_add-result : goal.overflow_add-result
overflow_add-result c =
    sum_fits c.args.low c.args.high c.from.result c.from-2.result c.args.pair c.requires c.ranges.low c.ranges.high (record { sfits = c.from.type_inv })
    (record { sfits = c.from-2.type_inv }) c.from.ensures c.from-2.ensures

pub returns-clause-value : goal.returns-clause-value
returns-clause-value c =
    mix_is c.args.low c.args.high c.from.result c.from-2.result c.args.pair c.requires c.ranges.low c.ranges.high (record { sfits = c.from.type_inv })
    (record { sfits = c.from-2.type_inv }) c.from.ensures c.from-2.ensures

pub returns-clause-size : goal.returns-clause-size
returns-clause-size c = λ most low high.
    let w = c.args.pair in
    subst (λ (z : ℤ). IsAtMost z (most * (w.low_weight + w.high_weight))) (sym (returns-clause-value c))
    (mix_size c.args.low c.args.high w.low_weight w.high_weight most low high)
