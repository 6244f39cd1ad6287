use Rattle.std.proofs.Common.{ℤ, pos, List, ◌∷◌, [], slice_index, slice_index_or, ap, sym, ◌∙◌, refl, subst, rules}
use Rattle.std.proofs.lemmas.Int.{to_z-of_z}
use mir.Syntax.{w32}
use mir.Val.{SFits}
use Rattle.rand_pcg.specs.Lcg.{Lcg}
use Rattle.pic_num.specs.declared.axis.Axis.TheVariants.{X, Y, Z}
use Rattle.pic_num.specs.Sizes.{IsAtMost}
use Rattle.pic_num.specs.Space.{spot, along}
use Rattle.pic_deck.specs.Species.{fastest}
use Rattle.pic_load.specs.Drawing.{drawn_speed, drawn_velocity}
use Rattle.pic_load.proofs.DrawnSizes.{drawn_slow}
use Rattle.pic_load.proofs.GeneratorLaws.{left_more}
use Rattle.pic_load.proofs.drawing.draw_velocity.Goals as goal

pub draw_speed-x-requires-clause-drift : goal.draw_speed-x-requires-clause-drift
draw_speed-x-requires-clause-drift c =
    let fits : SFits w32 (slice_index_or c.args.drift 0 (pos 0)) = search rules in
    rw (to_z-of_z w32 _ fits) (c.requires.mean X)

pub draw_speed-y-requires-clause-drift : goal.draw_speed-y-requires-clause-drift
draw_speed-y-requires-clause-drift c =
    let fits : SFits w32 (slice_index_or c.args.drift 1 (pos 0)) = search rules in
    rw (to_z-of_z w32 _ fits) (c.requires.mean Y)

pub draw_speed-z-requires-clause-drift : goal.draw_speed-z-requires-clause-drift
draw_speed-z-requires-clause-drift c =
    let fits : SFits w32 (slice_index_or c.args.drift 2 (pos 0)) = search rules in
    rw (to_z-of_z w32 _ fits) (c.requires.mean Z)

pub returns-clause-value : goal.returns-clause-value
unfolding drawn_velocity
returns-clause-value c =
    let g = c.args.rng.now in
    let drift = c.args.drift in
    let spread = c.args.spread in
    let one = c.draw_speed-x.ensures.left in
    let two = left_more 12 12 24 g _ _ one c.draw_speed-y.ensures.left refl in
    let x_drift : SFits w32 (slice_index_or drift 0 (pos 0)) = search rules in
    let y_drift : SFits w32 (slice_index_or drift 1 (pos 0)) = search rules in
    let z_drift : SFits w32 (slice_index_or drift 2 (pos 0)) = search rules in
    let x_fits : SFits w32 c.draw_speed-x.result = search rules in
    let y_fits : SFits w32 c.draw_speed-y.result = search rules in
    let z_fits : SFits w32 c.draw_speed-z.result = search rules in
    let x = rw (to_z-of_z w32 _ x_drift) at c.draw_speed-x.ensures.value in
    let y = (rw (to_z-of_z w32 _ y_drift) at c.draw_speed-y.ensures.value)
    ∙ ap (λ (h : Lcg). drawn_speed h (slice_index_or drift 1 (pos 0)) (slice_index spread 1)) one in
    let z = (rw (to_z-of_z w32 _ z_drift) at c.draw_speed-z.ensures.value)
    ∙ ap (λ (h : Lcg). drawn_speed h (slice_index_or drift 2 (pos 0)) (slice_index spread 2)) two in
    rw (to_z-of_z w32 _ x_fits, to_z-of_z w32 _ y_fits, to_z-of_z w32 _ z_fits) (λ i. x i ∷ y i ∷ z i ∷ [])

pub returns-clause-left : goal.returns-clause-left
returns-clause-left c =
    let g = c.args.rng.now in
    let two = left_more 12 12 24 g _ _ c.draw_speed-x.ensures.left c.draw_speed-y.ensures.left refl in
    left_more 24 12 36 g _ _ two c.draw_speed-z.ensures.left refl

pub returns-clause-size : goal.returns-clause-size
returns-clause-size c = λ side is a.
    subst (λ (v : List ℤ). IsAtMost (along a (spot v)) (fastest side)) (sym (returns-clause-value c))
    (drawn_slow side c.args.rng.now c.args.drift c.args.spread is a)
