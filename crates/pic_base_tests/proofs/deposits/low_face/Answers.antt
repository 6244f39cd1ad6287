use Rattle.std.proofs.Common.{◌≡◌, ℤ, ◌^◌, ◌*ℤ◌, subst, sym, ◌∙◌, arith}
use mir.Syntax.{w32}
use mir.Val.{SFits}
use Rattle.std.proofs.lemmas.Int.{ints, to_z-of_z}
use Rattle.pic_num.specs.Sizes.{IsAtMost}
use Rattle.pic_num.proofs.SizeLaws.{codes, code_is, code_at_most}
use Rattle.pic_base_tests.proofs.deposits.low_face.Goals as goal

sized : (x r : ℤ) → SFits w32 x → r ≡ x → IsAtMost r (2 ^ 31)
sized x r fits e = subst (λ (z : ℤ). IsAtMost z (2 ^ 31)) (sym e) (record { size = omega (arith, ints, fits.sfits) })

pub returns : goal.returns
returns c =
    let c_is : c.from.result ≡ c.args.c = c.from.ensures ∙ to_z-of_z w32 c.args.c c.ranges.c in
    let cell = sized c.args.c c.from.result c.ranges.c c_is in
    let side : IsAtMost c.from-2.result (2 ^ 14) = subst (λ (z : ℤ). IsAtMost z (2 ^ 14)) (sym c.from-2.ensures) (record { size = c.requires }) in
    record {
      value = code_is (search codes depth 12) tt ∙ (λ i. c_is i *ℤ c.from-2.ensures i);
      size = code_at_most (search codes depth 12) tt;
    }
