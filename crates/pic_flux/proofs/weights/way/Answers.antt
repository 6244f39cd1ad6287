use Rattle.std.proofs.Common.{◌≡◌, ℤ, ◌-ℤ◌, ◌^◌, ap, subst, sym, ◌∙◌, arith}
use mir.Syntax.{w32, w64}
use mir.Val.{SFits, to_z, of_z}
use Rattle.pic_num.specs.Sizes.{IsAtMost}
use Rattle.pic_num.specs.Space.{along}
use Rattle.pic_num.proofs.SizeLaws.{codes, code_fits, code_is}
use Rattle.pic_grid.specs.Segment.{Piece}
use Rattle.pic_grid.proofs.FluxLaws.{way_most}
use Rattle.pic_flux.proofs.FluxSizeLaws.{widened_is, widened_small}
use Rattle.pic_flux.proofs.weights.way.Goals as goal

pub overflow_sub-result : goal.overflow_sub-result
overflow_sub-result c =
    let to = widened_small c.along.result c.from.result (record { sfits = c.along.type_inv }) c.from.ensures in
    let from = widened_small c.along-2.result c.from-2.result (record { sfits = c.along-2.type_inv }) c.from-2.ensures in
    code_fits w64 (search codes depth 8) tt

pub returns : goal.returns
returns c =
    let s = c.args.seg.now in
    let a = c.args.axis in
    let to_fits : SFits w32 c.along.result = record { sfits = c.along.type_inv } in
    let from_fits : SFits w32 c.along-2.result = record { sfits = c.along-2.type_inv } in
    let to = widened_small c.along.result c.from.result to_fits c.from.ensures in
    let from = widened_small c.along-2.result c.from-2.result from_fits c.from-2.ensures in
    let to_is = widened_is c.along.result c.from.result to_fits c.from.ensures ∙ c.along.ensures ∙ ap (λ (p : Piece). along a p.to) c.seg.view_is in
    let from_is =
    widened_is c.along-2.result c.from-2.result from_fits c.from-2.ensures ∙ c.along-2.ensures ∙ ap (λ (p : Piece). along a p.from) c.seg.view_is in
    let is : to_z w64 (of_z w64 (to_z w64 (of_z w64 c.from.result) -ℤ to_z w64 (of_z w64 c.from-2.result))) ≡ along a s.to -ℤ along a s.from =
    code_is (search codes depth 8) tt ∙ (λ i. to_is i -ℤ from_is i) in
    let most = way_most c.args.sub s c.requires a in
    let few = c.side-side.ensures.most in
    record { value = is; size = subst (λ (z : ℤ). IsAtMost z (2 ^ 14)) (sym is) (record { size = omega (arith, most, few) }) }
