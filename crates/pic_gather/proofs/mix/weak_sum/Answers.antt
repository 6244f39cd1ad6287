use Rattle.std.proofs.Common.{ℤ, ℕ, ◌+◌, ◌*◌, ◌^◌, ◌<◌, ◌≤◌, arith}
use mir.Syntax.{w64}
use mir.Val.{SFits}
use lib.Signed.{mag}
use Rattle.pic_num.specs.Sizes.{IsAtMost}
use Rattle.pic_num.proofs.SizeLaws.{at_most_more}
use Rattle.pic_grid.specs.declared.pair.Pair.{Pair}
use Rattle.pic_gather.specs.Mix.{HaveRoom}
use Rattle.pic_gather.specs.Weak.{most_weak_side}
use Rattle.pic_gather.proofs.HalfLaws.{held}
use Rattle.pic_gather.proofs.MixLaws.{held_row}
use Rattle.pic_gather.proofs.mix.weak_sum.Goals as goal
use Rattle.pic_gather.proofs.mix.weak_sum.Goals.{After-mix-high}

-- two rows' sums of weak values have room,
rows_room : (a b : ℤ) (w : Pair) → SFits w64 a → SFits w64 b → IsAtMost a (2 ^ 38) → IsAtMost b (2 ^ 38) → w.low_weight + w.high_weight ≤ most_weak_side
    → HaveRoom (held a) (held b) w
rows_room a b w a_fits b_fits low high weights =
    record { most = 2 ^ 38; low = held_row a _ a_fits.sfits low; high = held_row b _ b_fits.sfits high; room = omega (arith, weights) }

-- and so has what two of them make
layer_size : (r : ℤ) (weights : ℕ) → mag r < 2 ^ 63 → weights ≤ most_weak_side → IsAtMost r (2 ^ 38 * weights) → IsAtMost (held r) (2 ^ 50)
layer_size r weights fits few small = held_row r (2 ^ 50) fits (at_most_more r (2 ^ 38 * weights) (2 ^ 50) (omega (arith, few)) small)

pub mix-low-requires : goal.mix-low-requires
mix-low-requires c =
    rows_room c.args.low_low c.args.high_low c.args.y c.ranges.low_low c.ranges.high_low c.requires.low_low_small c.requires.high_low_small c.requires.y_most

pub mix-high-requires : goal.mix-high-requires
mix-high-requires c =
    rows_room c.args.low_high c.args.high_high c.args.y c.ranges.low_high c.ranges.high_high c.requires.low_high_small c.requires.high_high_small c.requires.y_most

low_size : (c : After-mix-high) → IsAtMost (held c.mix-low.result) (2 ^ 50)
low_size c = layer_size c.mix-low.result _ c.mix-low.type_inv c.requires.y_most (c.mix-low.ensures.size (2 ^ 38)
    (held_row _ _ c.ranges.low_low.sfits c.requires.low_low_small) (held_row _ _ c.ranges.high_low.sfits c.requires.high_low_small))

high_size : (c : After-mix-high) → IsAtMost (held c.mix-high.result) (2 ^ 50)
high_size c = layer_size c.mix-high.result _ c.mix-high.type_inv c.requires.y_most (c.mix-high.ensures.size (2 ^ 38)
    (held_row _ _ c.ranges.low_high.sfits c.requires.low_high_small) (held_row _ _ c.ranges.high_high.sfits c.requires.high_high_small))

pub mix-requires : goal.mix-requires
mix-requires c = record { most = 2 ^ 50; low = low_size c; high = high_size c; room = omega (arith, c.requires.z_most) }

pub returns-clause-size : goal.returns-clause-size
returns-clause-size c =
    let at = (goal.at.returns-clause-size c).After-mix-high in
    let most : 2 ^ 50 * (c.args.z.low_weight + c.args.z.high_weight) ≤ 2 ^ 62 = omega (arith, c.requires.z_most) in
    held_row c.mix.result _ c.mix.type_inv (at_most_more _ _ (2 ^ 62) most (c.mix.ensures.size (2 ^ 50) (low_size at) (high_size at)))
