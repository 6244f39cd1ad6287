use Rattle.std.proofs.Common.{◌≡◌, ◌+◌, pos, slice_index_or, to_z, of_z, refl, sym, ap, ◌∙◌, arith}
use Rattle.std.proofs.lemmas.Int.{to_z-of_z}
use Rattle.std.proofs.lemmas.List.Elements.{All-get_or}
use Rattle.std.proofs.lemmas.List.Sums.{sum_by_more}
use mir.Syntax.{w128}
use mir.Val.{SFits}
use Rattle.pic_num.specs.Limits.{most_value}
use Rattle.pic_num.specs.Rounding.{scaled}
use Rattle.pic_num.specs.Sizes.{IsAtMost}
use Rattle.pic_num.proofs.SizeLaws.{codes, code_is}
use Rattle.pic_energy.specs.Energies.{square_of, square_sum}
use Rattle.pic_energy.proofs.summing.squares_of.Goals as goal

pub loop-value-init : goal.loop-value-init
unfolding square_sum
loop-value-init c = record { value = refl; most = omega arith }

pub loop-value-preserved : goal.loop-value-preserved
unfolding square_sum
loop-value-preserved c =
    let by = c.args.by in
    let run = c.args.run.now in
    let i = c.loop-value.value-index in
    let below = c.loop-value-test.true in
    let small : IsAtMost (slice_index_or run i (pos 0)) most_value = All-get_or (λ v. IsAtMost v most_value) run i (pos 0) below c.requires.values in
    let held : to_z w128 (of_z w128 (slice_index_or run i (pos 0))) ≡ slice_index_or run i (pos 0) = code_is (search codes depth 6) tt in
    let scale_fits : SFits w128 c.scale.result = record { sfits = c.scale.type_inv } in
    let force_is = to_z-of_z w128 c.scale.result scale_fits ∙ c.scale.ensures.value ∙ ap (λ v. scaled v by) held in
    let part_is = c.square-part.ensures.value ∙ ap square_of force_is in
    let before = c.loop-value.invariant in
    let more = sum_by_more (λ v. square_of (scaled v by)) run i (pos 0) below in
    let most = c.square-part.ensures.most in
    record { value = (λ j. before.value j + part_is j) ∙ sym more; most = omega (arith, before.most, most) }
