use Rattle.std.proofs.Common.{◌≡◌, ℤ, pos, to_z, of_z, sym, subst, ap, ◌∙◌, arith}
use mir.Syntax.{w64}
use mir.Val.{SFits}
use Rattle.std.proofs.lemmas.Int.{to_z-of_z, fits_signed_from_abs}
use Rattle.pic_block.specs.Fours.{AreFound, base_cell}
use Rattle.pic_block.specs.declared.fours.Four.{Four}
use Rattle.pic_flux.specs.Adds.{Adds}
use Rattle.pic_flux.specs.CellFlux.{at_four}
use Rattle.pic_flux.specs.Spans.{four_by}
use Rattle.pic_flux.specs.declared.spans.Ends.{Ends}
use Rattle.pic_flux.proofs.EdgeLaws.{all_found}
use Rattle.pic_flux.proofs.SpanLaws.{still_adds}
use Rattle.pic_flux.proofs.edges.deposit_axis.Goals as goal

none_of : (z : ℤ) → SFits w64 z → of_z w64 z ≡ 0 → z ≡ pos 0
none_of z fits e = sym (to_z-of_z w64 z fits) ∙ ap (to_z w64) e

pub returns-then-on-eq0-clause-values : goal.returns-then-on-eq0-clause-values
returns-then-on-eq0-clause-values c =
    let small = (c.on.ensures.short c.requires.short).way.size in
    let fits = fits_signed_from_abs w64 c.on.result.way (omega (arith, small)) in
    let way = ap (λ (e : Ends). e.way) (sym c.on.ensures.value) ∙ none_of c.on.result.way fits c.if-on-eq0.true in
    still_adds c.args.to.now c.args.spans.now c.args.q c.args.axis (base_cell c.args.at.now) way

-- all four edges are the zone's
pub add_corners-requires-clause-found : goal.add_corners-requires-clause-found
add_corners-requires-clause-found c =
    let b = c.args.to.now in
    let axis = c.args.axis in
    let cell = base_cell c.args.at.now in
    subst (AreFound b.low b.size axis cell) (sym c.all_four.ensures) (all_found b.low b.size axis cell c.requires.edges)

pub returns-clause-values : goal.returns-clause-values
returns-clause-values c =
    let axis = c.args.axis in
    let cell = base_cell c.args.at.now in
    let charge = to_z-of_z w64 c.args.q c.ranges.q in
    subst (λ (f : Four). Adds c.args.to.now c.add_corners.new.to (at_four axis cell f))
    (c.four_of-flux.ensures.value ∙ ap (λ (q : ℤ). four_by c.args.spans.now q axis) charge) c.add_corners.ensures.values
