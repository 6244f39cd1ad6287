use Rattle.std.proofs.Common.{Err, ap}
use Rattle.pic_dump.proofs.TakenLaws.{stops_taken, head_taken, records_taken}
use Rattle.pic_verify.proofs.ReachedLaws.{stops_reached, reached_head, reached_behind}
use Rattle.pic_resume.proofs.HeadLaws.{carries_err, head_answer, asked_answer, header_cut}
use Rattle.pic_resume.proofs.CarryLaws.{gives_all, stops_all, isnt_early, starves, exact}
use Rattle.pic_resume.proofs.carrying.carry.Goals as goal

-- a header that isn't there
pub returns-in_err-reader-clause-carries : goal.returns-in_err-reader-clause-carries
returns-in_err-reader-clause-carries g c =
    carries_err _ _ _ _ _ _ _ _ c.from_residual.ensures.1 (head_answer _ _ _ _ _ _ _ c.in_err-reader.ensures.reads
    (λ same. c.in_err-reader.ensures.less (ap Err same)))

pub returns-in_err-reader-clause-taken : goal.returns-in_err-reader-clause-taken
returns-in_err-reader-clause-taken g c = stops_taken _ _ _ _ _ c.in_err-reader.ensures.reads c.in_err-reader.ensures.within

pub returns-in_err-reader-clause-reached : goal.returns-in_err-reader-clause-reached
returns-in_err-reader-clause-reached g c = stops_reached _ _ _ _ _ c.in_err-reader.ensures.reads c.in_err-reader.ensures.within

pub returns-in_err-reader-clause-exactly : goal.returns-in_err-reader-clause-exactly
returns-in_err-reader-clause-exactly g c = exact _ _ _ _ _ _ _ (returns-in_err-reader-clause-carries g c)

-- steps or tiles that are refused
pub returns-in_err-check_asked-clause-carries : goal.returns-in_err-check_asked-clause-carries
returns-in_err-check_asked-clause-carries g c =
    carries_err _ _ _ _ _ _ _ _ c.from_residual-in_err-check_asked.ensures.1 (asked_answer _ _ _ _ _ _ _ c.in_ok-reader.ensures.reads.answer
    c.in_err-check_asked.ensures.walks)

pub returns-in_err-check_asked-clause-taken : goal.returns-in_err-check_asked-clause-taken
returns-in_err-check_asked-clause-taken g c = head_taken _ _ _ c.in_ok-reader.ensures.reads.answer

pub returns-in_err-check_asked-clause-reached : goal.returns-in_err-check_asked-clause-reached
returns-in_err-check_asked-clause-reached g c = reached_head _ _ _ _ c.in_ok-reader.ensures.reads.answer

pub returns-in_err-check_asked-clause-exactly : goal.returns-in_err-check_asked-clause-exactly
returns-in_err-check_asked-clause-exactly g c = exact _ _ _ _ _ _ _ (returns-in_err-check_asked-clause-carries g c)

-- want of memory
pub returns-in_err-last-clause-carries : goal.returns-in_err-last-clause-carries
returns-in_err-last-clause-carries g c = starves _ _ _ _ _ _ _ c.from_residual-in_err-last.ensures.1 c.in_ok-reader.ensures.reads.answer

pub returns-in_err-last-clause-taken : goal.returns-in_err-last-clause-taken
returns-in_err-last-clause-taken g c = head_taken _ _ _ c.in_ok-reader.ensures.reads.answer

pub returns-in_err-last-clause-reached : goal.returns-in_err-last-clause-reached
returns-in_err-last-clause-reached g c = reached_head _ _ _ _ c.in_ok-reader.ensures.reads.answer

-- the put of the header failed
pub returns-in-Err-clause-carries : goal.returns-in-Err-clause-carries
returns-in-Err-clause-carries g c =
    record {
      answer = header_cut _ _ _ _ _ _ _ _ _ c.in_ok-reader.ensures.reads.answer c.in_ok-check_asked.ensures.walks.answer c.with_steps-header.ensures
          c.in-Err.ensures.bytes c.in-Err.ensures.cause.err;
    }

pub returns-in-Err-clause-taken : goal.returns-in-Err-clause-taken
returns-in-Err-clause-taken g c = head_taken _ _ _ c.in_ok-reader.ensures.reads.answer

pub returns-in-Err-clause-reached : goal.returns-in-Err-clause-reached
returns-in-Err-clause-reached g c = reached_head _ _ _ _ c.in_ok-reader.ensures.reads.answer

-- behind the header
pub returns-in_err-step-clause-carries : goal.returns-in_err-step-clause-carries
returns-in_err-step-clause-carries g c =
    stops_all _ _ _ _ _ _ _ _ _ _ _ _ _ _ _ c.from_residual-in_err-step.ensures.1 (record {
      read = c.in_ok-reader.ensures.reads.answer;
      allowed = c.in_ok-check_asked.ensures.walks.answer;
      is = c.with_steps-header.ensures;
      put = c.in_default.ensures.bytes;
      calm = c.in_default.ensures.cause.ok;
    }) c.in_ok-reader.ensures.stands c.in_err-step.ensures

pub returns-in_err-step-clause-taken : goal.returns-in_err-step-clause-taken
returns-in_err-step-clause-taken g c =
    records_taken _ _ _ _ _ c.in_ok-reader.ensures.reads.answer c.in_ok-reader.ensures.stands c.in_err-step.ensures.moves

pub returns-in_err-step-clause-reached : goal.returns-in_err-step-clause-reached
returns-in_err-step-clause-reached g c =
    reached_behind _ _ _ _ _ _ c.in_ok-reader.ensures.reads.answer c.in_ok-reader.ensures.stands c.in_err-step.ensures.reaches

pub returns-in_err-step-clause-exactly : goal.returns-in_err-step-clause-exactly
returns-in_err-step-clause-exactly g c = exact _ _ _ _ _ _ _ (returns-in_err-step-clause-carries g c)

pub returns-in_err-step-clause-early : goal.returns-in_err-step-clause-early
returns-in_err-step-clause-early g c = λ early.
    absurd (isnt_early _ _ _ _ _ _ _ _ _ c.from_residual-in_err-step.ensures.1 c.in_err-step.ensures early)

pub returns-clause-carries : goal.returns-clause-carries
returns-clause-carries g c =
    gives_all _ _ _ _ _ _ _ _ _ _ _ _ _ _ (record {
      read = c.in_ok-reader.ensures.reads.answer;
      allowed = c.in_ok-check_asked.ensures.walks.answer;
      is = c.with_steps-header.ensures;
      put = c.in_default.ensures.bytes;
      calm = c.in_default.ensures.cause.ok;
    }) c.in_ok-check_asked.ensures.least c.in_ok-check_asked.ensures.tiled c.in_ok-reader.ensures.stands c.in_ok-step.ensures

pub returns-clause-taken : goal.returns-clause-taken
returns-clause-taken g c = records_taken _ _ _ _ _ c.in_ok-reader.ensures.reads.answer c.in_ok-reader.ensures.stands c.in_ok-step.ensures.moves

pub returns-clause-reached : goal.returns-clause-reached
returns-clause-reached g c = reached_behind _ _ _ _ _ _ c.in_ok-reader.ensures.reads.answer c.in_ok-reader.ensures.stands c.in_ok-step.ensures.reaches

pub returns-clause-exactly : goal.returns-clause-exactly
returns-clause-exactly g c = exact _ _ _ _ _ _ _ (returns-clause-carries g c)
