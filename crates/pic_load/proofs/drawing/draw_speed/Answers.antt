use Rattle.std.proofs.Common.{ℤ, pos, ◌+ℤ◌, ◌-ℤ◌, ◌*ℤ◌, ◌^◌, ap, ◌∙◌, rules}
use Rattle.std.proofs.lemmas.Int.{to_z-of_z}
use mir.Syntax.{w32, w64}
use mir.Val.{SFits}
use Rattle.pic_num.specs.Rounding.{rounded}
use Rattle.pic_load.specs.Drawing.{mean_of_twelve, deviate, drawn_speed}
use Rattle.pic_load.proofs.drawing.draw_speed.Goals as goal

pub returns-clause-value : goal.returns-clause-value
unfolding drawn_speed deviate
returns-clause-value c =
    let drift : SFits w32 c.args.drift = c.ranges.drift in
    let sum : SFits w32 c.sum_of.result = search rules in
    let rest : SFits w64 c.rounded_word.result = search rules in
    let product : SFits w64 c.product.result = search rules in
    let centred : SFits w64 c.deviate_of-deviate.result = search rules in
    let deviate_is = c.deviate_of-deviate.ensures.value ∙ ap (λ k. pos k -ℤ pos mean_of_twelve) c.sum_of_twelve.ensures.value in
    let product_is = rw (to_z-of_z w64 _ centred) at c.product.ensures.value in
    let rounded_is = rw (to_z-of_z w64 _ product) at c.rounded_word.ensures.value in
    let sum_is = rw (to_z-of_z w32 _ drift, to_z-of_z w64 _ rest) at c.sum_of.ensures in
    rw (to_z-of_z w32 _ sum)
    (sum_is ∙ ap (λ (z : ℤ). c.args.drift +ℤ z) (rounded_is
    ∙ ap (λ (z : ℤ). rounded z (pos (2 ^ 32))) (product_is ∙ ap (λ (z : ℤ). pos c.args.spread *ℤ z) deviate_is)))
