use Rattle.std.proofs.Common.{◌≡◌, ℤ, pos, ◌^◌, ◌*ℤ◌, to_z, of_z, ◌∙◌, sym, subst}
use mir.Syntax.{w64, w128}
use Rattle.std.proofs.lemmas.Int.{to_z-of_z}
use Rattle.pic_num.specs.Rounding.{rounded}
use Rattle.pic_num.specs.Sizes.{IsAtMost}
use Rattle.pic_num.proofs.SizeLaws.{codes, code_fits, code_is}
use Rattle.pic_boris.proofs.QuotientLaws.{turn_size}
use Rattle.pic_boris.proofs.narrow_turning.exact_quotient.Goals as goal
use Rattle.pic_boris.proofs.narrow_turning.exact_quotient.Goals.{After-rdiv}

-- the quotient of the code is that of the definition, and small
value_is : (c : After-rdiv) → c.rdiv.result ≡ rounded (pos (2 ^ 21) *ℤ c.args.w) c.args.divisor
value_is c =
    let w_is : c.from.result ≡ c.args.w = c.from.ensures ∙ to_z-of_z w64 c.args.w c.ranges.w in
    let d_is : c.from-2.result ≡ c.args.divisor = c.from-2.ensures ∙ to_z-of_z w64 c.args.divisor c.ranges.divisor in
    let w_size : IsAtMost c.from.result (2 ^ 49) = subst (λ (z : ℤ). IsAtMost z (2 ^ 49)) (sym w_is) c.requires.w in
    let d_size : IsAtMost c.from-2.result (2 ^ 41) = subst (λ (z : ℤ). IsAtMost z (2 ^ 41)) (sym d_is) c.requires.size in
    let n : to_z w128 (of_z w128 (pos 2097152 *ℤ to_z w128 (of_z w128 c.from.result))) ≡ pos 2097152 *ℤ c.from.result = code_is (search codes depth 8) tt in
    let d : to_z w128 (of_z w128 c.from-2.result) ≡ c.from-2.result = code_is (search codes depth 4) tt in
    c.rdiv.ensures.value ∙ (λ i. rounded (n i) (d i)) ∙ (λ i. rounded (pos (2 ^ 21) *ℤ w_is i) (d_is i))

size_is : (c : After-rdiv) → IsAtMost c.rdiv.result (2 ^ 30)
size_is c = subst (λ (z : ℤ). IsAtMost z (2 ^ 30)) (sym (value_is c)) (turn_size c.args.w c.args.divisor c.requires.w c.requires.least)

pub overflow_cast-result : goal.overflow_cast-result
overflow_cast-result c = let size = size_is c in code_fits w64 (search codes depth 6) tt

pub returns : goal.returns
returns c = let size = size_is c in code_is (search codes depth 8) tt ∙ value_is c
