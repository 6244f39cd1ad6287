use Rattle.std.proofs.Common.{Err, ap, arith}
use Rattle.pic_fields.proofs.ReadLaws.{read_then, read_done, read_up_to}
use Rattle.pic_header.specs.HeaderFields.{loop_at}
use Rattle.pic_header.proofs.HeadReadLaws.{head_goes_on, head_exits, head_passes_on}
use Rattle.pic_header.proofs.RunLaws.{goes_on_by, goes_then, goes_done, goes_wave, runs_loop_axis, runs_loop_cell}
use Rattle.pic_header.proofs.WithinLaws.{within_short, within_first, within_then}
use Rattle.pic_header.proofs.LessLaws.{same_read_stop, same_head_stop, less_short, less_first, less_then}
use Rattle.pic_header.proofs.loop_reader.read_loop.Goals as goal

pub returns-in_err-axis-clause-reads : goal.returns-in_err-axis-clause-reads
unfolding loop_at
returns-in_err-axis-clause-reads g c = head_exits _ (omega arith) c.from_residual.ensures.1 c.in_err-axis.ensures

pub returns-in_err-cell-clause-reads : goal.returns-in_err-cell-clause-reads
unfolding loop_at
returns-in_err-cell-clause-reads g c =
    head_goes_on _ c.in_ok-axis.ensures.answer (head_exits _ (omega arith) c.from_residual-in_err-cell.ensures.1 c.in_err-cell.ensures.reads)

pub returns-in_err-wave-clause-reads : goal.returns-in_err-wave-clause-reads
unfolding loop_at
returns-in_err-wave-clause-reads g c =
    head_goes_on _ c.in_ok-axis.ensures.answer (head_goes_on _ c.in_ok-cell.ensures.reads.answer
    (head_passes_on _ (omega arith) c.from_residual-in_err-wave.ensures.1 c.in_err-wave.ensures.reads))

pub returns-clause-reads : goal.returns-clause-reads
unfolding loop_at
returns-clause-reads g c =
    record {
      answer = read_up_to (omega arith) (read_then _ c.in_ok-axis.ensures.answer (read_then _ c.in_ok-cell.ensures.reads.answer
          (read_then _ c.in_ok-wave.ensures.reads.answer (read_done _ _ _))));
    }

pub returns-clause-limits : goal.returns-clause-limits
returns-clause-limits g c = record {
  within = c.in_ok-cell.ensures.within;
  some = c.in_ok-wave.ensures.some;
  most = c.in_ok-wave.ensures.most;
  sizes = c.in_ok-wave.ensures.sizes;
}

pub returns-in_err-axis-clause-within : goal.returns-in_err-axis-clause-within
unfolding loop_at
returns-in_err-axis-clause-within g c =
    within_first _ (λ axis. goes_then (goes_on_by 12 (runs_loop_cell _)) (λ cell. goes_then goes_wave (λ wave. goes_done _)))
    (within_short 4 runs_loop_axis (omega arith) c.in_err-axis.ensures.answer.moves)

pub returns-in_err-cell-clause-within : goal.returns-in_err-cell-clause-within
unfolding loop_at
returns-in_err-cell-clause-within g c =
    within_then _ c.in_ok-axis.ensures.answer (within_first _ (λ cell. goes_then goes_wave (λ wave. goes_done _))
    (within_short 12 (runs_loop_cell _) (omega arith) c.in_err-cell.ensures.reads.answer.moves))

pub returns-in_err-wave-clause-within : goal.returns-in_err-wave-clause-within
unfolding loop_at
returns-in_err-wave-clause-within g c =
    within_then _ c.in_ok-axis.ensures.answer (within_then _ c.in_ok-cell.ensures.reads.answer
    (within_first _ (λ wave. goes_done _) c.in_err-wave.ensures.within))

pub returns-clause-within : goal.returns-clause-within
unfolding loop_at
returns-clause-within g c =
    within_then _ c.in_ok-axis.ensures.answer (within_then _ c.in_ok-cell.ensures.reads.answer
    (within_first _ (λ wave. goes_done _) c.in_ok-wave.ensures.within))

pub returns-in_err-axis-clause-less : goal.returns-in_err-axis-clause-less
unfolding loop_at
returns-in_err-axis-clause-less g c = λ same.
    less_first _ (λ axis. goes_then (goes_on_by 12 (runs_loop_cell _)) (λ cell. goes_then goes_wave (λ wave. goes_done _)))
    (less_short 4 runs_loop_axis (omega arith) (same_read_stop c.from_residual.ensures.1 same) c.in_err-axis.ensures.answer)

pub returns-in_err-cell-clause-less : goal.returns-in_err-cell-clause-less
unfolding loop_at
returns-in_err-cell-clause-less g c = λ same.
    less_then _ c.in_ok-axis.ensures.answer (less_first _ (λ cell. goes_then goes_wave (λ wave. goes_done _))
    (less_short 12 (runs_loop_cell _) (omega arith) (same_read_stop c.from_residual-in_err-cell.ensures.1 same) c.in_err-cell.ensures.reads.answer))

pub returns-in_err-wave-clause-less : goal.returns-in_err-wave-clause-less
unfolding loop_at
returns-in_err-wave-clause-less g c = λ same.
    less_then _ c.in_ok-axis.ensures.answer (less_then _ c.in_ok-cell.ensures.reads.answer (less_first _ (λ wave. goes_done _)
    (c.in_err-wave.ensures.less (ap Err (same_head_stop c.from_residual-in_err-wave.ensures.1 same)))))
