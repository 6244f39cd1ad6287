use Rattle.std.proofs.Common.{◌^◌, arith}
use Rattle.pic_num.proofs.SizeLaws.{times_at_most}
use Rattle.pic_charge.proofs.SumLaws.{most_at_most}
use Rattle.pic_charge.proofs.sums.stay_small.Goals as goal

pub overflow_mul-most-4 : goal.overflow_mul-most-4
overflow_mul-most-4 c =
    let all = most_at_most c.from-side.result c.from.result (omega (arith, c.from-side.ensures, c.side.ensures.value, c.side.ensures.most))
    (omega (arith, c.from.ensures, c.if-greatest-gt-MOST_LOW_CHARGE.false)) in
    record { fits = omega (arith, all) }

pub overflow_mul-result : goal.overflow_mul-result
overflow_mul-result c =
    let each = most_at_most c.from-side.result c.from.result (omega (arith, c.from-side.ensures, c.side.ensures.value, c.side.ensures.most))
    (omega (arith, c.from.ensures, c.if-greatest-gt-MOST_LOW_CHARGE.false)) in
    let all = times_at_most c.args.count c.from-2.result (2 ^ 64) (2 ^ 59) (omega (arith, c.ranges.count.fits)) (omega (arith, each, c.from-2.ensures)) in
    record { fits = omega (arith, all) }
