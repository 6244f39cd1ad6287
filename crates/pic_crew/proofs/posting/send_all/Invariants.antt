use Rattle.pic_crew.proofs.Turns.{IsSending}
use Rattle.pic_crew.proofs.posting.send_all.Given as goal

abbrev pub invariant-loop-number : goal.invariant-loop-number
invariant-loop-number g l = IsSending l.yard l.fn.claim.number l.number l.fn.seat l.seat l.claim
