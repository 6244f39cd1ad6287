use Rattle.std.proofs.Common.{◌≡◌, ℤ, ◌*◌, ◌^◌, ◌*ℤ◌, to_z, of_z, sym, ◌∙◌, subst}
use Rattle.std.proofs.lemmas.Int.{to_z-of_z}
use mir.Syntax.{w64, w128}
use Rattle.pic_num.specs.Limits.{most_force, most_side}
use Rattle.pic_num.specs.Sizes.{IsAtMost}
use Rattle.pic_num.proofs.SizeLaws.{codes, code_is, code_at_most, times_at_most}
use Rattle.pic_gather.proofs.mix.weighed.Goals as goal

-- the code's product of a row and a weight, and its size
product_is : (a b : ℤ) → IsAtMost a (most_force * most_side) → IsAtMost b (2 ^ 28)
    → to_z w128 (of_z w128 (to_z w128 (of_z w128 a) *ℤ to_z w128 (of_z w128 b))) ≡ a *ℤ b
product_is a b h k = code_is (search codes depth 12) tt

product_size : (a b : ℤ) → IsAtMost a (most_force * most_side) → IsAtMost b (2 ^ 28)
    → IsAtMost (to_z w128 (of_z w128 (to_z w128 (of_z w128 a) *ℤ to_z w128 (of_z w128 b)))) (2 ^ 86)
product_size a b h k = code_at_most (search codes depth 12) tt

pub returns : goal.returns
returns c =
    let light = times_at_most c.args.y c.args.z most_side most_side c.requires.y_most c.requires.z_most in
    let weight : IsAtMost c.from-2.result (2 ^ 28) = subst (λ (v : ℤ). IsAtMost v (2 ^ 28)) (sym c.from-2.ensures) (record { size = light }) in
    let held = c.from.ensures ∙ to_z-of_z w64 c.args.row c.ranges.row in
    let row : IsAtMost c.from.result (most_force * most_side) = subst (λ (v : ℤ). IsAtMost v (most_force * most_side)) (sym held) c.requires.small in
    record { value = product_is _ _ row weight ∙ (λ i. held i *ℤ c.from-2.ensures i); size = product_size _ _ row weight }
