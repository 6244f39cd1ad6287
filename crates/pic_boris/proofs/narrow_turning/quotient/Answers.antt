use Rattle.std.proofs.Common.{◌≡◌, ℤ, pos, ◌^◌, ◌*ℤ◌, refl, ◌∙◌, subst, sym}
use Rattle.std.proofs.lemmas.Int.{to_z-of_z}
use mir.Syntax.{w64}
use mir.Val.{SFits, to_z, of_z}
use Rattle.std.specs.Prelude.{◌≤ℤ◌}
use Rattle.pic_num.specs.Rounding.{rounded}
use Rattle.pic_num.specs.Sizes.{IsAtMost}
use Rattle.pic_boris.proofs.QuotientLaws.{turn_size}
use Rattle.pic_boris.proofs.narrow_turning.quotient.Goals as goal

sized : (r w d : ℤ) → SFits w64 w → SFits w64 d → IsAtMost w (2 ^ 49) → pos (2 ^ 40) ≤ℤ d
    → r ≡ rounded (pos (2 ^ 21) *ℤ to_z w64 (of_z w64 w)) (to_z w64 (of_z w64 d)) → IsAtMost r (2 ^ 30)
sized r w d w_fits d_fits small least is =
    subst (λ (z : ℤ). IsAtMost z (2 ^ 30)) (sym (is ∙ (λ i. rounded (pos (2 ^ 21) *ℤ to_z-of_z w64 w w_fits i) (to_z-of_z w64 d d_fits i))))
    (turn_size w d small least)

pub returns-then-is_quotient-clause-size : goal.returns-then-is_quotient-clause-size
returns-then-is_quotient-clause-size c =
    sized _ c.args.w c.args.divisor c.ranges.w c.ranges.divisor c.requires.w c.requires.least (c.if-is_quotient.ensures refl)

pub returns-clause-size : goal.returns-clause-size
returns-clause-size c =
    let held = to_z-of_z w64 c.exact_quotient.result (record { sfits = c.exact_quotient.type_inv }) in
    sized _ c.args.w c.args.divisor c.ranges.w c.ranges.divisor c.requires.w c.requires.least (held ∙ c.exact_quotient.ensures)
