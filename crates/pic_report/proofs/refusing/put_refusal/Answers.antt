use Rattle.std.proofs.Common.{◌≡◌, List, ℕ, sym, ◌∙◌, rules}
use Rattle.std.proofs.lemmas.Int.{to_z-of_z}
use mir.Syntax.{w128}
use mir.Val.{SFits, to_z, of_z}
use Rattle.pic_deck.specs.declared.refusal.Refusal.TheVariants.{Limit}
use Rattle.pic_report.specs.Lines.{refused_line}
use Rattle.pic_report.proofs.PrintedLaws.{line_as}
use Rattle.pic_report.proofs.refusing.put_refusal.Goals as goal

pub returns-in-Text : goal.returns-in-Text
unfolding refused_line
returns-in-Text g c = line_as _ _ _ _ _ c.in-Text.is c.put_line.ensures

pub returns-in-Unknown : goal.returns-in-Unknown
unfolding refused_line
returns-in-Unknown g c = line_as _ _ _ _ _ c.in-Unknown.is c.put_path_line.ensures

pub returns-in-Missing : goal.returns-in-Missing
unfolding refused_line
returns-in-Missing g c = line_as _ _ _ _ _ c.in-Missing.is c.put_path_line-in-Missing.ensures

pub returns-in-Kind : goal.returns-in-Kind
unfolding refused_line
returns-in-Kind g c = line_as _ _ _ _ _ c.in-Kind.is c.put_path_line-in-Kind.ensures

pub returns-in-Limit : goal.returns-in-Limit
returns-in-Limit g c =
    let value_fits : SFits w128 c.in-Limit.value = search rules in
    let low_fits : SFits w128 c.in-Limit.low = search rules in
    let high_fits : SFits w128 c.in-Limit.high = search rules in
    let value = to_z-of_z w128 c.in-Limit.value value_fits in
    let low = to_z-of_z w128 c.in-Limit.low low_fits in
    let high = to_z-of_z w128 c.in-Limit.high high_fits in
    let path : List ℕ = c.in-Limit.path in
    let same : c.args.refusal.now
    ≡ Limit path (to_z w128 (of_z w128 c.in-Limit.value)) (to_z w128 (of_z w128 c.in-Limit.low)) (to_z w128 (of_z w128 c.in-Limit.high)) =
    c.in-Limit.is ∙ sym (λ i. Limit path (value i) (low i) (high i)) in
    line_as _ _ _ _ _ same c.put_limit.ensures

pub returns-in-Name : goal.returns-in-Name
unfolding refused_line
returns-in-Name g c = line_as _ _ _ _ _ c.in-Name.is c.put_path_line-in-Name.ensures
