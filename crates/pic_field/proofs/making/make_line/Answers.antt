use Rattle.std.proofs.Common.{◌∙◌, subst}
use Rattle.pic_num.specs.declared.axis.Axis.TheVariants.{X, Y, Z}
use Rattle.pic_num.specs.Space.{Spot}
use Rattle.pic_field.specs.Lines.{OnLine, OnRow, Changed}
use Rattle.pic_field.specs.Makings.{made_by}
use Rattle.pic_field.proofs.LineLaws.{line_changed, on_line}
use Rattle.pic_field.proofs.MakingLaws.{can_part}
use Rattle.pic_field.proofs.making.make_line.Goals as goal

pub make_row-requires-clause-can : goal.make_row-requires-clause-can
make_row-requires-clause-can c =
    let y = c.args.y in
    let z = c.args.z in
    can_part (OnLine y z) (OnRow X y z) c.args.to.now c.args.how.now c.requires.can (λ a p w on. on_line X y z a p on)

pub returns : goal.returns
returns c =
    let y = c.args.y in
    let z = c.args.z in
    let one = c.make_row.new.to in
    let two = c.make_row-2.new.to in
    let three = c.make_row-3.new.to in
    let made = made_by c.args.how.now c.args.from.now in
    let first = c.make_row.ensures in
    let second = subst (λ (l : Spot). Changed (made l) (OnRow Y y z) one two) first.shaped.low c.make_row-2.ensures in
    let third = subst (λ (l : Spot). Changed (made l) (OnRow Z y z) two three) (second.shaped.low ∙ first.shaped.low) c.make_row-3.ensures in
    line_changed (made c.args.to.now.low) y z c.args.to.now one two three first second third
