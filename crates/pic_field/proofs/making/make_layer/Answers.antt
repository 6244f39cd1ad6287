use Rattle.std.proofs.Common.{◌+◌, subst}
use Rattle.pic_num.specs.Space.{Spot}
use Rattle.pic_field.specs.Lines.{OnLine, OnLayer, Changed}
use Rattle.pic_field.specs.Makings.{made_by}
use Rattle.pic_field.proofs.LineLaws.{BelowLine, changed_next, lines_more}
use Rattle.pic_field.proofs.MakingLaws.{can_kept}
use Rattle.pic_field.proofs.making.make_layer.Goals as goal

pub make_line-requires-clause-can : goal.make_line-requires-clause-can
make_line-requires-clause-can c =
    let y = c.loop-y.y in
    let z = c.args.z in
    let old = c.args.to.now in
    let joined = lines_more old.size y z in
    can_kept (made_by c.args.how.now c.args.from.now old.low) (OnLayer z) (BelowLine y z) (OnLine y z) old c.loop-y.to c.args.how.now c.loop-y.invariant
    c.requires.can (λ a p on. record { z_is = on.z_is }) (λ a p on off. joined.apart a p off on)

pub loop-y-preserved : goal.loop-y-preserved
loop-y-preserved c =
    let y = c.loop-y.y in
    let z = c.args.z in
    let old = c.args.to.now in
    let mid = c.loop-y.to in
    let before = c.loop-y.invariant in
    let then = subst (λ (l : Spot). Changed (made_by c.args.how.now c.args.from.now l) (OnLine y z) mid c.make_line.new.to) before.shaped.low
    c.make_line.ensures in
    changed_next _ (BelowLine y z) (OnLine y z) (BelowLine (y + 1) z) old mid c.make_line.new.to before then (lines_more old.size y z)
