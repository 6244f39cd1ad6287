use Rattle.pic_crew.proofs.Turns.{IsSending}
use Rattle.pic_board_tests.proofs.one_tile.send_all.Given as goal

abbrev pub invariant-loop-number : goal.invariant-loop-number
invariant-loop-number l = IsSending l.yard l.fn.claim.number l.number l.fn.seat l.seat l.claim
