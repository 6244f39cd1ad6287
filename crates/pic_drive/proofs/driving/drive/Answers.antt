use Rattle.std.proofs.Common.{sym, ◌∙◌, arith}
use Rattle.pic_drive.proofs.DriveLaws.{driven_none, wave_small}
use Rattle.pic_drive.proofs.NumberLaws.{number}
use Rattle.pic_drive.proofs.PlusLaws.{field_of_same}
use Rattle.pic_drive.proofs.RaiseLaws.{loop_driven, driven_small, item_good}
use Rattle.pic_drive.proofs.driving.drive.Goals as goal

pub loop-one-init : goal.loop-one-init
loop-one-init c = c.clear.ensures ∙ field_of_same _ _ _ _ _ (λ a p w. sym (driven_none c.args.step a p))

pub add-requires-clause-small : goal.add-requires-clause-small
add-requires-clause-small c =
    driven_small c.args.m.now.side c.args.m.now.cells c.args.m.now.parts c.loop-one.m c.args.loops.now c.args.step c.loop-one.one-index _ c.requires
    (omega arith) c.loop-one.invariant (omega arith)

pub loop-one-preserved : goal.loop-one-preserved
loop-one-preserved c =
    let one = c.one-item.result in
    let good = item_good c.args.m.now.cells c.args.loops.now c.loop-one.one-index one c.requires c.loop-one-test.true c.one-item.is in
    let n = number _ c.number_in.result (wave_small c.args.m.now.cells one c.args.step good) c.number_in.ensures in
    loop_driven c.args.m.now.side c.args.m.now.cells c.args.m.now.parts c.loop-one.m c.add.new.to c.args.loops.now c.args.step c.loop-one.one-index one _
    c.loop-one-test.true c.one-item.is n.same c.loop-one.invariant c.add.ensures

pub returns-clause-small : goal.returns-clause-small
returns-clause-small c =
    driven_small c.args.m.now.side c.args.m.now.cells c.args.m.now.parts c.loop-one.m c.args.loops.now c.args.step c.loop-one.one-index _ c.requires
    (omega arith) c.loop-one.invariant (omega arith)
