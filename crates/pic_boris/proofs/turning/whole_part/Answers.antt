use Rattle.std.proofs.Common.{◌≡◌, pos, ◌^◌, ◌+ℤ◌, ◌*ℤ◌, to_z, of_z, ◌∙◌, arith}
use mir.Syntax.{w128}
use Rattle.pic_num.specs.Rounding.{rounded}
use Rattle.pic_num.specs.Sizes.{IsAtMost}
use Rattle.pic_num.proofs.SizeLaws.{codes, code_fits, code_is, code_at_most}
use Rattle.pic_boris.proofs.turning.whole_part.Goals as goal

quotient_size : (c : goal.After-rdiv) → IsAtMost c.rdiv.result (2 ^ 92)
quotient_size c =
    let top : IsAtMost (to_z w128 (of_z w128 (pos 2097152 *ℤ to_z w128 (of_z w128 c.args.w)))) (2 ^ 92) = code_at_most (search codes depth 8) tt in
    let size = top.size in
    let no_larger = c.rdiv.ensures.no_larger in
    record { size = omega (arith, size, no_larger) }

pub overflow_add-result : goal.overflow_add-result
overflow_add-result c = let size = quotient_size c in code_fits w128 (search codes depth 8) tt

pub returns : goal.returns
returns c =
    let size = quotient_size c in
    let top : to_z w128 (of_z w128 (pos 2097152 *ℤ to_z w128 (of_z w128 c.args.w))) ≡ pos 2097152 *ℤ c.args.w = code_is (search codes depth 8) tt in
    let bottom : to_z w128 (of_z w128 c.args.divisor) ≡ c.args.divisor = code_is (search codes depth 4) tt in
    record {
      value =
          code_is (search codes depth 10) tt
          ∙ (λ i. c.args.v +ℤ c.rdiv.ensures.value i)
          ∙ (λ i. c.args.v +ℤ rounded (top i) (bottom i));
      size = code_at_most (search codes depth 10) tt;
    }
