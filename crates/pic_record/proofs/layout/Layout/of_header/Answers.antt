use Rattle.std.proofs.Common.{◌≡◌, map, take, refl, ap, ◌∙◌, arith}
use Rattle.std.proofs.Math.Seq.{take-length}
use Rattle.pic_grid.specs.Species.{HeadView}
use Rattle.pic_record.proofs.LayoutLaws.{layout_fits}
use Rattle.pic_record.proofs.layout.Layout.of_header.Goals as goal

pub invariant_of-result : goal.invariant_of-result
invariant_of-result c =
    let h = c.args.header.now in
    let heads = c.as_slice-heads.result.now in
    let are : heads ≡ h.species = c.as_slice-heads.ensures ∙ c.species.ensures.value in
    let whole : take c.loop-head.head-index heads ≡ heads = ap (λ n. take n heads) (omega (arith, c.loop-head-test.false)) ∙ take-length heads in
    let kinds = c.loop-head.invariant.kinds ∙ ap (map (λ (s : HeadView). s.kind)) (whole ∙ are) in
    let counts = c.loop-head.invariant.counts ∙ ap (map (λ (s : HeadView). s.count)) (whole ∙ are) in
    rw (c.cells.ensures.value, c.cells.ensures.side, c.steps.ensures.value, c.every.ensures.value, c.filter.ensures.value, c.scales.ensures, kinds, counts)
    (layout_fits h c.species.ensures.limits)

pub returns : goal.returns
returns c =
    let h = c.args.header.now in
    let heads = c.as_slice-heads.result.now in
    let are : heads ≡ h.species = c.as_slice-heads.ensures ∙ c.species.ensures.value in
    let whole : take c.loop-head.head-index heads ≡ heads = ap (λ n. take n heads) (omega (arith, c.loop-head-test.false)) ∙ take-length heads in
    let kinds = c.loop-head.invariant.kinds ∙ ap (map (λ (s : HeadView). s.kind)) (whole ∙ are) in
    let counts = c.loop-head.invariant.counts ∙ ap (map (λ (s : HeadView). s.count)) (whole ∙ are) in
    rw (c.cells.ensures.value, c.cells.ensures.side, c.steps.ensures.value, c.every.ensures.value, c.filter.ensures.value, c.scales.ensures, kinds, counts)
    refl
