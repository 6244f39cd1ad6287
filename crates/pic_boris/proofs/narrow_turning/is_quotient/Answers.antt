use Rattle.std.proofs.Common.{◌≡◌, ℤ, pos, ◌^◌, ◌+ℤ◌, ◌-ℤ◌, ◌*ℤ◌, to_z, of_z, ◌∙◌, subst, arith}
use Rattle.std.specs.Prelude.{◌<ℤ◌, ◌≤ℤ◌}
use Rattle.std.proofs.lemmas.Int.{ints, to_z-of_z}
use mir.Syntax.{w64}
use Rattle.pic_boris.proofs.QuotientLaws.{by_rest, dividend_is}
use Rattle.pic_boris.proofs.narrow_turning.is_quotient.Goals as goal

pub returns : goal.returns
returns c =
    let w = c.args.w in
    let d = c.args.divisor in
    let g = c.args.guess in
    let rest = c.rest_of.result in
    let w_is = to_z-of_z w64 w c.ranges.w in
    let d_is = to_z-of_z w64 d c.ranges.divisor in
    let g_is = to_z-of_z w64 g c.ranges.guess in
    let n_is = to_z-of_z w64 c.dividend_of.result (record { sfits = c.dividend_of.type_inv }) in
    let n : to_z w64 (of_z w64 c.dividend_of.result) ≡ pos 2 *ℤ (pos (2 ^ 21) *ℤ w) +ℤ d =
    n_is ∙ c.dividend_of.ensures.value ∙ (λ i. pos (2 ^ 22) *ℤ w_is i +ℤ d_is i) ∙ dividend_is w d in
    let is : rest ≡ (pos 2 *ℤ (pos (2 ^ 21) *ℤ w) +ℤ d) -ℤ g *ℤ (pos 2 *ℤ d) = c.rest_of.ensures ∙ (λ i. n i -ℤ g_is i *ℤ (pos 2 *ℤ d_is i)) in
    let r_is = to_z-of_z w64 rest (record { sfits = c.rest_of.type_inv }) in
    let t_is = to_z-of_z w64 c.twice.result (record { sfits = c.twice.type_inv }) ∙ c.twice.ensures.value ∙ (λ i. pos 2 *ℤ d_is i) in
    λ yes. by_rest (pos (2 ^ 21) *ℤ w) d g rest (omega (arith, ints, c.requires.least)) is
    (subst (λ (z : ℤ). pos 0 ≤ℤ z) r_is (c.is_below.ensures.low yes))
    (subst (λ (z : ℤ). rest <ℤ z) t_is (subst (λ (z : ℤ). z <ℤ to_z w64 (of_z w64 c.twice.result)) r_is (c.is_below.ensures.high yes)))
