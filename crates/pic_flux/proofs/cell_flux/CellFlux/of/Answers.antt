use Rattle.std.proofs.Common.{ℤ, ◌+ℤ◌, ap, ◌∙◌}
use Rattle.pic_num.specs.declared.axis.Axis.TheVariants.{X, Y, Z}
use Rattle.pic_grid.specs.Flux.{flux}
use Rattle.pic_grid.specs.Segment.{Piece}
use Rattle.pic_flux.specs.CellFlux.{at_four}
use Rattle.pic_flux.specs.Corners.{both}
use Rattle.pic_flux.specs.Spans.{four_by}
use Rattle.pic_flux.proofs.CornerLaws.{three_axes}
use Rattle.pic_flux.proofs.FluxSizeLaws.{charge_passed}
use Rattle.pic_flux.proofs.SpanLaws.{four_is}
use Rattle.pic_flux.proofs.cell_flux.CellFlux.of.Goals as goal

pub returns-clause-flux : goal.returns-clause-flux
unfolding both
returns-clause-flux c =
    let s = c.args.seg.now in
    let side = c.args.sub in
    let p = c.of-spans.result in
    let cell = ap (λ (t : Piece). t.cell) c.seg.view_is in
    let charge = charge_passed c.args.q c.from-charge.result c.ranges.q c.from-charge.ensures in
    let x = c.four_of-x.ensures.value ∙ ap (λ (q : ℤ). four_by p q X) charge in
    let y = c.four_of-y.ensures.value ∙ ap (λ (q : ℤ). four_by p q Y) charge in
    let z = c.four_of-z.ensures.value ∙ ap (λ (q : ℤ). four_by p q Z) charge in
    λ a e.
    (λ i. at_four X (cell i) (x i) a e +ℤ at_four Y (cell i) (y i) a e +ℤ at_four Z (cell i) (z i) a e)
    ∙ (λ i. four_is side c.args.q s p X c.of-spans.ensures.spans c.requires a e i
    +ℤ four_is side c.args.q s p Y c.of-spans.ensures.spans c.requires a e i
    +ℤ four_is side c.args.q s p Z c.of-spans.ensures.spans c.requires a e i)
    ∙ three_axes (flux side c.args.q s) a e

pub returns-clause-cell : goal.returns-clause-cell
returns-clause-cell c = ap (λ (t : Piece). t.cell) c.seg.view_is
