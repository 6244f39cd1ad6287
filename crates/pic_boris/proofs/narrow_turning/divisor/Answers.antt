use Rattle.std.proofs.Common.{◌≡◌, ℤ, pos, ◌^◌, ◌+ℤ◌, ◌*ℤ◌, to_z, of_z, subst, sym, ◌∙◌, arith}
use Rattle.std.specs.Prelude.{◌≤ℤ◌}
use Rattle.std.proofs.lemmas.Int.{ints}
use mir.Syntax.{w64}
use Rattle.pic_num.specs.Push.{dot}
use Rattle.pic_num.specs.Sizes.{IsAtMost}
use Rattle.pic_num.proofs.SizeLaws.{codes, code_fits, code_is, code_at_most}
use Rattle.pic_boris.proofs.narrow_turning.divisor.Goals as goal

-- the sum, with its casts left out
sum_is : (a b d : ℤ) → IsAtMost a (2 ^ 38) → IsAtMost b (2 ^ 38) → IsAtMost d (2 ^ 38)
    → to_z w64 (of_z w64 (pos 1099511627776 +ℤ to_z w64
    (of_z w64 (to_z w64 (of_z w64 (to_z w64 (of_z w64 a) +ℤ to_z w64 (of_z w64 b))) +ℤ to_z w64 (of_z w64 d)))))
    ≡ pos (2 ^ 40) +ℤ (a +ℤ b +ℤ d)
sum_is a b d h k l = code_is (search codes depth 18) tt

pub square-requires : goal.square-requires
square-requires c = code_at_most (search codes depth 4) tt

pub square-requires-2 : goal.square-requires-2
square-requires-2 c = code_at_most (search codes depth 4) tt

pub square-requires-3 : goal.square-requires-3
square-requires-3 c = code_at_most (search codes depth 4) tt

pub overflow_add-result : goal.overflow_add-result
overflow_add-result c = code_fits w64 (search codes depth 8) tt

pub overflow_add-result-2 : goal.overflow_add-result-2
overflow_add-result-2 c = code_fits w64 (search codes depth 12) tt

pub overflow_add-result-3 : goal.overflow_add-result-3
overflow_add-result-3 c = code_fits w64 (search codes depth 18) tt

pub returns : goal.returns
unfolding dot
returns c =
    let t = c.args.t in
    let plain = sum_is c.square.result c.square-2.result c.square-3.result c.square.ensures.size c.square-2.ensures.size c.square-3.ensures.size in
    let x_is : to_z w64 (of_z w64 t.x) ≡ t.x = code_is (search codes depth 4) tt in
    let y_is : to_z w64 (of_z w64 t.y) ≡ t.y = code_is (search codes depth 4) tt in
    let z_is : to_z w64 (of_z w64 t.z) ≡ t.z = code_is (search codes depth 4) tt in
    let squares : pos (2 ^ 40) +ℤ (c.square.result +ℤ c.square-2.result +ℤ c.square-3.result) ≡ pos (2 ^ 40) +ℤ (t.x *ℤ t.x +ℤ t.y *ℤ t.y +ℤ t.z *ℤ t.z) =
    (λ i. pos (2 ^ 40) +ℤ (c.square.ensures.value i +ℤ c.square-2.ensures.value i +ℤ c.square-3.ensures.value i))
    ∙ (λ i. pos (2 ^ 40) +ℤ (x_is i *ℤ x_is i +ℤ y_is i *ℤ y_is i +ℤ z_is i *ℤ z_is i))
    in
    record {
      value = plain ∙ squares;
      least = subst (λ (z : ℤ). pos (2 ^ 40) ≤ℤ z) (sym plain) (omega (arith, ints, c.square.ensures.low, c.square-2.ensures.low, c.square-3.ensures.low));
      size = code_at_most (search codes depth 18) tt;
    }
