use Rattle.std.proofs.Common.{◌≡◌, ℕ, ℤ, sym, subst, arith}
use Rattle.std.proofs.Math.Nat.{mul-le-mul_left}
use Rattle.pic_num.specs.Limits.{most_force}
use Rattle.pic_num.specs.Sizes.{IsAtMost}
use Rattle.pic_num.proofs.SizeLaws.{codes, code_is}
use Rattle.pic_block.specs.Weak.{most_weak}
use Rattle.pic_gather.proofs.HalfLaws.{held, word}
use Rattle.pic_gather.proofs.MixLaws.{held_row}
use Rattle.pic_gather.proofs.layered.row.Goals as goal

-- a force as the code has it
value_is : (v : ℤ) → IsAtMost v most_force → held (word v) ≡ v
value_is v small = code_is (search codes depth 6) tt

-- is within each of its bounds
value_at_most : (v : ℤ) (most : ℕ) → IsAtMost v most_force → IsAtMost v most → IsAtMost (held (word v)) most
value_at_most v most small is = subst (λ z. IsAtMost z most) (sym (value_is v small)) is

pub mix-requires : goal.mix-requires
mix-requires c =
    let all = mul-le-mul_left most_force c.requires.most in
    record {
      most = most_force;
      low = value_at_most _ most_force c.requires.low.small c.requires.low.small;
      high = value_at_most _ most_force c.requires.high.small c.requires.high.small;
      room = omega (arith, all);
    }

pub returns-clause-size : goal.returns-clause-size
returns-clause-size c =
    held_row c.mix.result _ c.mix.type_inv (c.mix.ensures.size most_force (value_at_most _ most_force c.requires.low.small c.requires.low.small)
    (value_at_most _ most_force c.requires.high.small c.requires.high.small))

pub returns-clause-weak : goal.returns-clause-weak
returns-clause-weak c = λ low high.
    held_row c.mix.result _ c.mix.type_inv (c.mix.ensures.size most_weak (value_at_most _ most_weak c.requires.low.small low)
    (value_at_most _ most_weak c.requires.high.small high))
