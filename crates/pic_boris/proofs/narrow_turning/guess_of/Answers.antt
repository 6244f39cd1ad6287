use Rattle.std.proofs.Common.{◌*◌, ◌^◌, ◌*ℤ◌, ℤ, pos, negsuc, to_z, of_z, subst, sym, ◌∙◌, arith}
use lib.Signed.{shr_z}
use mir.Syntax.{w64, w128}
use Rattle.std.proofs.lemmas.Int.{ints, to_z-of_z}
use Rattle.pic_num.specs.Sizes.{IsAtMost}
use Rattle.pic_num.proofs.SizeLaws.{codes, code_fits, code_at_most}
use Rattle.pic_boris.proofs.narrow_turning.guess_of.Goals as goal
use Rattle.pic_boris.proofs.narrow_turning.guess_of.Goals.{After-from-2}

-- a shift makes the product small
shifted : (z : ℤ) → IsAtMost z (3 * 2 ^ 60 * 2 ^ 62) → IsAtMost (shr_z z (2 ^ 74)) (2 ^ 52)
shifted (pos a) h = let size = h.size in record { size = omega (arith, ints, size) }
shifted (negsuc a) h = let size = h.size in record { size = omega (arith, ints, size) }

dividend : (c : After-from-2) → IsAtMost c.from.result (3 * 2 ^ 60)
dividend c =
    let small = c.requires.dividend in
    subst (λ (z : ℤ). IsAtMost z (3 * 2 ^ 60)) (sym c.from.ensures) (code_at_most (search codes depth 8) tt)

reciprocal : (c : After-from-2) → IsAtMost c.from-2.result (2 ^ 62)
reciprocal c = subst (λ (z : ℤ). IsAtMost z (2 ^ 62)) (sym (c.from-2.ensures ∙ to_z-of_z w64 c.args.reciprocal c.ranges.reciprocal)) c.requires.reciprocal

-- which the code holds
small : (a b : ℤ) → IsAtMost a (3 * 2 ^ 60) → IsAtMost b (2 ^ 62)
    → IsAtMost (to_z w128 (of_z w128 (shr_z (to_z w128 (of_z w128 (to_z w128 (of_z w128 a) *ℤ to_z w128 (of_z w128 b)))) (2 ^ 74)))) (2 ^ 52)
small a b h k =
    let low = shifted (to_z w128 (of_z w128 (to_z w128 (of_z w128 a) *ℤ to_z w128 (of_z w128 b)))) (code_at_most (search codes depth 8) tt) in
    code_at_most (search codes depth 4) tt

pub overflow_mul-result : goal.overflow_mul-result
overflow_mul-result c =
    let left = dividend c in
    let right = reciprocal c in code_fits w128 (search codes depth 8) tt

pub overflow_cast-result-2 : goal.overflow_cast-result-2
overflow_cast-result-2 c = let low = small c.from.result c.from-2.result (dividend c) (reciprocal c) in code_fits w64 (search codes depth 2) tt

pub returns : goal.returns
returns c = let low = small c.from.result c.from-2.result (dividend c) (reciprocal c) in code_at_most (search codes depth 4) tt
