use Rattle.std.proofs.Common.{[], arith}
use Rattle.pic_grid.specs.Differences.{curl_b}
use Rattle.pic_drive.specs.Drive.{driven}
use Rattle.pic_drive.proofs.CurlLaws.{curl_none}
use Rattle.pic_drive.proofs.DriveLaws.{driven_none}
use Rattle.pic_drive.proofs.PlusLaws.{plus_none}
use Rattle.pic_drive.proofs.RaiseLaws.{loop_raised, raised_small}
use Rattle.pic_drive.proofs.driving.raise_e.Goals as goal

pub loop-one-init : goal.loop-one-init
loop-one-init c =
    let n = c.args.e.now.cells in
    plus_none c.args.e.now (curl_b n (driven [] c.args.step)) c.cells-shape.ensures.shape (curl_none n (driven [] c.args.step) (driven_none c.args.step))

pub raise_by-requires-clause-small : goal.raise_by-requires-clause-small
raise_by-requires-clause-small c =
    raised_small c.args.e.now c.loop-one.e c.args.loops.now c.args.step c.loop-one.one-index _ c.requires.loops (omega arith) c.requires.small
    c.loop-one.invariant (omega arith)

pub loop-one-preserved : goal.loop-one-preserved
loop-one-preserved c =
    loop_raised c.args.e.now c.loop-one.e c.raise_by.new.e c.args.loops.now c.args.step c.loop-one.one-index c.one-item.result c.loop-one-test.true
    c.one-item.is c.loop-one.invariant c.raise_by.ensures

pub returns-clause-small : goal.returns-clause-small
returns-clause-small c =
    raised_small c.args.e.now c.loop-one.e c.args.loops.now c.args.step c.loop-one.one-index _ c.requires.loops (omega arith) c.requires.small
    c.loop-one.invariant (omega arith)
