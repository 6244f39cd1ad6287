use Rattle.std.proofs.Common.{arith}
use Rattle.pic_fields.proofs.ReadLaws.{read_then, read_done, read_up_to, goes_on, exits}
use Rattle.pic_header.specs.HeaderFields.{front_at}
use Rattle.pic_header.proofs.RunLaws.{goes_on_by, goes_then, goes_done, runs_within, runs_cells, runs_scales}
use Rattle.pic_header.proofs.WithinLaws.{within_short, within_first, within_then, within_done}
use Rattle.pic_header.proofs.LessLaws.{same_stop, less_short, less_first, less_then}
use Rattle.pic_header.proofs.head_reader.read_front.Goals as goal

pub returns-in_err-cells-clause-reads : goal.returns-in_err-cells-clause-reads
unfolding front_at
returns-in_err-cells-clause-reads g c = exits _ (omega arith) c.from_residual.ensures.1 c.in_err-cells.ensures.reads

pub returns-in_err-steps-clause-reads : goal.returns-in_err-steps-clause-reads
unfolding front_at
returns-in_err-steps-clause-reads g c =
    goes_on _ c.in_ok-cells.ensures.reads.answer (exits _ (omega arith) c.from_residual-in_err-steps.ensures.1 c.in_err-steps.ensures.reads)

pub returns-in_err-every-clause-reads : goal.returns-in_err-every-clause-reads
unfolding front_at
returns-in_err-every-clause-reads g c =
    goes_on _ c.in_ok-cells.ensures.reads.answer (goes_on _ c.in_ok-steps.ensures.reads.answer
    (exits _ (omega arith) c.from_residual-in_err-every.ensures.1 c.in_err-every.ensures.reads))

pub returns-in_err-scales-clause-reads : goal.returns-in_err-scales-clause-reads
unfolding front_at
returns-in_err-scales-clause-reads g c =
    goes_on _ c.in_ok-cells.ensures.reads.answer (goes_on _ c.in_ok-steps.ensures.reads.answer (goes_on _ c.in_ok-every.ensures.reads.answer
    (exits _ (omega arith) c.from_residual-in_err-scales.ensures.1 c.in_err-scales.ensures)))

pub returns-clause-reads : goal.returns-clause-reads
unfolding front_at
returns-clause-reads g c =
    record {
      answer = read_up_to (omega arith) (read_then _ c.in_ok-cells.ensures.reads.answer (read_then _ c.in_ok-steps.ensures.reads.answer
          (read_then _ c.in_ok-every.ensures.reads.answer (read_then _ c.in_ok-scales.ensures.answer (read_done _ _ _)))));
    }

pub returns-in_err-cells-clause-within : goal.returns-in_err-cells-clause-within
unfolding front_at
returns-in_err-cells-clause-within g c =
    within_first _ (λ cells. goes_then (goes_on_by 4 (runs_within _ _ _)) (λ steps. goes_then (goes_on_by 4 (runs_within _ _ _))
    (λ every. goes_then (goes_on_by 32 runs_scales) (λ scales. goes_done _))))
    (within_short 12 (runs_cells _) (omega arith) c.in_err-cells.ensures.reads.answer.moves)

pub returns-in_err-steps-clause-within : goal.returns-in_err-steps-clause-within
unfolding front_at
returns-in_err-steps-clause-within g c =
    within_then _ c.in_ok-cells.ensures.reads.answer (within_first _ (λ steps. goes_then (goes_on_by 4 (runs_within _ _ _))
    (λ every. goes_then (goes_on_by 32 runs_scales) (λ scales. goes_done _)))
    (within_short 4 (runs_within _ _ _) (omega arith) c.in_err-steps.ensures.reads.answer.moves))

pub returns-in_err-every-clause-within : goal.returns-in_err-every-clause-within
unfolding front_at
returns-in_err-every-clause-within g c =
    within_then _ c.in_ok-cells.ensures.reads.answer (within_then _ c.in_ok-steps.ensures.reads.answer (within_first _
    (λ every. goes_then (goes_on_by 32 runs_scales) (λ scales. goes_done _))
    (within_short 4 (runs_within _ _ _) (omega arith) c.in_err-every.ensures.reads.answer.moves)))

pub returns-in_err-scales-clause-within : goal.returns-in_err-scales-clause-within
unfolding front_at
returns-in_err-scales-clause-within g c =
    within_then _ c.in_ok-cells.ensures.reads.answer (within_then _ c.in_ok-steps.ensures.reads.answer (within_then _ c.in_ok-every.ensures.reads.answer
    (within_first _ (λ scales. goes_done _) (within_short 32 runs_scales (omega arith) c.in_err-scales.ensures.answer.moves))))

pub returns-clause-within : goal.returns-clause-within
unfolding front_at
returns-clause-within g c =
    within_then _ c.in_ok-cells.ensures.reads.answer (within_then _ c.in_ok-steps.ensures.reads.answer (within_then _ c.in_ok-every.ensures.reads.answer
    (within_then _ c.in_ok-scales.ensures.answer (within_done _ _ _))))

pub returns-in_err-cells-clause-less : goal.returns-in_err-cells-clause-less
unfolding front_at
returns-in_err-cells-clause-less g c = λ same.
    less_first _ (λ cells. goes_then (goes_on_by 4 (runs_within _ _ _)) (λ steps. goes_then (goes_on_by 4 (runs_within _ _ _))
    (λ every. goes_then (goes_on_by 32 runs_scales) (λ scales. goes_done _))))
    (less_short 12 (runs_cells _) (omega arith) (same_stop c.from_residual.ensures.1 same) c.in_err-cells.ensures.reads.answer)

pub returns-in_err-steps-clause-less : goal.returns-in_err-steps-clause-less
unfolding front_at
returns-in_err-steps-clause-less g c = λ same.
    less_then _ c.in_ok-cells.ensures.reads.answer (less_first _ (λ steps. goes_then (goes_on_by 4 (runs_within _ _ _))
    (λ every. goes_then (goes_on_by 32 runs_scales) (λ scales. goes_done _)))
    (less_short 4 (runs_within _ _ _) (omega arith) (same_stop c.from_residual-in_err-steps.ensures.1 same) c.in_err-steps.ensures.reads.answer))

pub returns-in_err-every-clause-less : goal.returns-in_err-every-clause-less
unfolding front_at
returns-in_err-every-clause-less g c = λ same.
    less_then _ c.in_ok-cells.ensures.reads.answer (less_then _ c.in_ok-steps.ensures.reads.answer (less_first _
    (λ every. goes_then (goes_on_by 32 runs_scales) (λ scales. goes_done _))
    (less_short 4 (runs_within _ _ _) (omega arith) (same_stop c.from_residual-in_err-every.ensures.1 same) c.in_err-every.ensures.reads.answer)))

pub returns-in_err-scales-clause-less : goal.returns-in_err-scales-clause-less
unfolding front_at
returns-in_err-scales-clause-less g c = λ same.
    less_then _ c.in_ok-cells.ensures.reads.answer (less_then _ c.in_ok-steps.ensures.reads.answer (less_then _ c.in_ok-every.ensures.reads.answer
    (less_first _ (λ scales. goes_done _)
    (less_short 32 runs_scales (omega arith) (same_stop c.from_residual-in_err-scales.ensures.1 same) c.in_err-scales.ensures.answer))))
