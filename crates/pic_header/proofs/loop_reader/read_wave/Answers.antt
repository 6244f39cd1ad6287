use Rattle.std.proofs.Common.{Err, ap, arith}
use Rattle.pic_header.specs.HeaderFields.{wave_at}
use Rattle.pic_header.proofs.HeadReadLaws.{head_goes_on, head_exits, head_stops_as}
use Rattle.pic_fields.proofs.ReadLaws.{read_then}
use Rattle.pic_header.proofs.RunLaws.{goes_numbers, runs_within}
use Rattle.pic_header.proofs.WithinLaws.{within_short, within_first, within_then}
use Rattle.pic_header.proofs.LessLaws.{same_read_stop, same_head_stop, less_short, less_first, less_then}
use Rattle.pic_header.proofs.loop_reader.read_wave.Goals as goal

pub returns-in_err-count-clause-reads : goal.returns-in_err-count-clause-reads
unfolding wave_at
returns-in_err-count-clause-reads g c = head_exits _ (omega arith) c.from_residual.ensures.1 c.in_err-count.ensures.reads

pub returns-in_err-numbers-clause-reads : goal.returns-in_err-numbers-clause-reads
unfolding wave_at
returns-in_err-numbers-clause-reads g c =
    head_goes_on _ c.in_ok-count.ensures.reads.answer (head_stops_as (omega (arith, c.in_ok-count.ensures.high))
    c.from_residual-in_err-numbers.ensures.1 c.in_err-numbers.ensures.reads)

pub returns-clause-reads : goal.returns-clause-reads
unfolding wave_at
returns-clause-reads g c =
    rw c.from_vec.ensures (record { answer = read_then _ c.in_ok-count.ensures.reads.answer c.in_ok-numbers.ensures.reads.answer })

pub returns-in_err-count-clause-within : goal.returns-in_err-count-clause-within
unfolding wave_at
returns-in_err-count-clause-within g c =
    within_first _ goes_numbers (within_short 4 (runs_within _ _ _) (omega arith) c.in_err-count.ensures.reads.answer.moves)

pub returns-in_err-numbers-clause-within : goal.returns-in_err-numbers-clause-within
unfolding wave_at
returns-in_err-numbers-clause-within g c = within_then _ c.in_ok-count.ensures.reads.answer c.in_err-numbers.ensures.within

pub returns-clause-within : goal.returns-clause-within
unfolding wave_at
returns-clause-within g c = within_then _ c.in_ok-count.ensures.reads.answer c.in_ok-numbers.ensures.within

pub returns-in_err-count-clause-less : goal.returns-in_err-count-clause-less
unfolding wave_at
returns-in_err-count-clause-less g c = λ same.
    less_first _ goes_numbers
    (less_short 4 (runs_within _ _ _) (omega arith) (same_read_stop c.from_residual.ensures.1 same) c.in_err-count.ensures.reads.answer)

pub returns-in_err-numbers-clause-less : goal.returns-in_err-numbers-clause-less
unfolding wave_at
returns-in_err-numbers-clause-less g c = λ same.
    less_then _ c.in_ok-count.ensures.reads.answer
    (c.in_err-numbers.ensures.less (ap Err (same_head_stop c.from_residual-in_err-numbers.ensures.1 same)))
