use Rattle.std.proofs.Common.{sym, subst, ◌∙◌}
use Rattle.std.proofs.Math.IntN.{ℤ}
use Rattle.std.proofs.lemmas.Int.{to_z-of_z}
use mir.Syntax.{w128}
use Rattle.pic_num.specs.Sizes.{IsAtMost}
use Rattle.pic_num.specs.Space.{spot}
use Rattle.pic_filter.specs.Smoothing.{most_smoothed}
use Rattle.pic_ways.proofs.MarginLaws.{edge_inside, edge_outside, one_answer}
use Rattle.pic_ways.proofs.margin.at_or_zero.Goals as goal

pub returns-then-not-has-clause-value : goal.returns-then-not-has-clause-value
returns-then-not-has-clause-value c =
    sym (edge_outside c.args.from.now c.args.axis (spot c.args.cell) (λ h. one_answer (c.has.ensures.1 h) c.if-not-has.true))

pub returns-clause-value : goal.returns-clause-value
returns-clause-value c =
    let inside = c.has.ensures.0 c.if-not-has.false in
    to_z-of_z w128 c.at.result (record { sfits = c.at.type_inv })
    ∙ c.at.ensures ∙ sym (edge_inside c.args.from.now c.args.axis (spot c.args.cell) inside)

pub returns-clause-size : goal.returns-clause-size
returns-clause-size c =
    let inside = c.has.ensures.0 c.if-not-has.false in
    let value = to_z-of_z w128 c.at.result (record { sfits = c.at.type_inv }) ∙ c.at.ensures in
    subst (λ (v : ℤ). IsAtMost v most_smoothed) (sym value) (c.requires.at_most c.args.axis (spot c.args.cell) inside)
