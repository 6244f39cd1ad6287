use Rattle.std.proofs.Common.{refl}
use Rattle.pic_crew.proofs.SendLaws.{sending_none, sending_more, sending_all}
use Rattle.pic_board_tests.proofs.one_tile.send_all.Goals as goal

pub loop-number-init : goal.loop-number-init
loop-number-init c = sending_none c.args.yard.now c.args.claim.number c.args.seat.now c.args.claim c.requires.serves refl c.requires.owes c.requires.worked

pub loop-number-preserved : goal.loop-number-preserved
loop-number-preserved c =
    let e = c.send.ensures in
    sending_more c.args.yard.now c.args.claim.number c.args.seat.now c.loop-number.number c.of.result c.loop-number.seat c.send.new.seat c.loop-number.claim
    c.send.new.claim c.of.ensures c.loop-number.invariant e.serves e.sent e.number e.taken

pub returns-clause-all : goal.returns-clause-all
returns-clause-all c =
    sending_all c.args.yard.now c.args.claim.number c.args.seat.now c.loop-number.number c.loop-number.seat c.loop-number.claim c.loop-number-test.false
    c.loop-number.invariant
