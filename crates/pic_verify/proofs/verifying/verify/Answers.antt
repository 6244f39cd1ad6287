use Rattle.pic_dump.proofs.TakenLaws.{stops_taken, head_taken}
use Rattle.pic_verify.proofs.VerdictLaws.{verifies_behind, verifies_head, exact, walks_taken}
use Rattle.pic_verify.proofs.ReachedLaws.{stops_reached, reached_head, reached_behind}
use Rattle.pic_verify.proofs.verifying.verify.Goals as goal

pub returns-in_err-reader-clause-verifies : goal.returns-in_err-reader-clause-verifies
returns-in_err-reader-clause-verifies g c = verifies_head _ _ _ _ _ _ c.from_residual.ensures.1 c.in_err-reader.ensures.reads

pub returns-in_err-reader-clause-exactly : goal.returns-in_err-reader-clause-exactly
returns-in_err-reader-clause-exactly g c = exact _ _ _ (verifies_head _ _ _ _ _ _ c.from_residual.ensures.1 c.in_err-reader.ensures.reads)

pub returns-clause-verifies : goal.returns-clause-verifies
returns-clause-verifies g c = verifies_behind _ _ _ _ _ _ _ c.in_ok-reader.ensures.reads.answer c.in_ok-reader.ensures.stands c.walk.ensures.walks

pub returns-clause-exactly : goal.returns-clause-exactly
returns-clause-exactly g c = exact _ _ _ (verifies_behind _ _ _ _ _ _ _ c.in_ok-reader.ensures.reads.answer c.in_ok-reader.ensures.stands c.walk.ensures.walks)

pub returns-in_err-reader-clause-taken : goal.returns-in_err-reader-clause-taken
returns-in_err-reader-clause-taken g c = stops_taken _ _ _ _ _ c.in_err-reader.ensures.reads c.in_err-reader.ensures.within

pub returns-clause-taken : goal.returns-clause-taken
returns-clause-taken g c = walks_taken _ _ _ _ _ _ c.in_ok-reader.ensures.reads.answer c.in_ok-reader.ensures.stands c.walk.ensures.walks

pub returns-in_err-reader-clause-reached : goal.returns-in_err-reader-clause-reached
returns-in_err-reader-clause-reached g c = stops_reached _ _ _ _ _ c.in_err-reader.ensures.reads c.in_err-reader.ensures.within

pub returns-clause-reached : goal.returns-clause-reached
returns-clause-reached g c = reached_behind _ _ _ _ _ _ c.in_ok-reader.ensures.reads.answer c.in_ok-reader.ensures.stands c.walk.ensures.reaches

pub returns-in_err-state-clause-taken : goal.returns-in_err-state-clause-taken
returns-in_err-state-clause-taken g c = head_taken _ _ _ c.in_ok-reader.ensures.reads.answer

pub returns-in_err-state-clause-reached : goal.returns-in_err-state-clause-reached
returns-in_err-state-clause-reached g c = reached_head _ _ _ _ c.in_ok-reader.ensures.reads.answer
