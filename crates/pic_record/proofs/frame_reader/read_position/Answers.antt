use Rattle.std.proofs.Common.{sym, ◌∙◌, arith}
use Rattle.std.proofs.lemmas.Result.{IfOk-from_err}
use Rattle.pic_fields.proofs.ReadLaws.{read_then, read_done, read_up_to, goes_on, exits}
use Rattle.pic_record.specs.FrameFields.{position_at}
use Rattle.pic_record.proofs.frame_reader.read_position.Goals as goal

pub returns-in_err-x-clause-reads : goal.returns-in_err-x-clause-reads
unfolding position_at
returns-in_err-x-clause-reads g c =
    rw (sym c.numbers.ensures.value, sym (c.side-side.ensures.value ∙ c.sub.ensures)) (exits _ (omega arith) c.from_residual.ensures.1 c.in_err-x.ensures.reads)

pub returns-in_err-y-clause-reads : goal.returns-in_err-y-clause-reads
unfolding position_at
returns-in_err-y-clause-reads g c =
    rw (sym c.numbers.ensures.value, sym (c.side-side.ensures.value ∙ c.sub.ensures)) (goes_on _ c.in_ok-x.ensures.reads.answer
    (exits _ (omega arith) c.from_residual-in_err-y.ensures.1 c.in_err-y.ensures.reads))

pub returns-in_err-z-clause-reads : goal.returns-in_err-z-clause-reads
unfolding position_at
returns-in_err-z-clause-reads g c =
    rw (sym c.numbers.ensures.value, sym (c.side-side.ensures.value ∙ c.sub.ensures)) (goes_on _ c.in_ok-x.ensures.reads.answer
    (goes_on _ c.in_ok-y.ensures.reads.answer (exits _ (omega arith) c.from_residual-in_err-z.ensures.1 c.in_err-z.ensures.reads)))

pub returns-clause-reads : goal.returns-clause-reads
unfolding position_at
returns-clause-reads g c =
    rw (sym c.numbers.ensures.value, sym (c.side-side.ensures.value ∙ c.sub.ensures)) (record {
      answer =
          read_up_to (omega arith) (read_then _ c.in_ok-x.ensures.reads.answer (read_then _ c.in_ok-y.ensures.reads.answer
          (read_then _ c.in_ok-z.ensures.reads.answer (read_done _ _ _))));
    })

pub returns-clause-inside : goal.returns-clause-inside
returns-clause-inside g c =
    rw (sym c.numbers.ensures.value, sym (c.side-side.ensures.value ∙ c.sub.ensures)) (record {
      x = c.in_ok-x.ensures.below;
      y = c.in_ok-y.ensures.below;
      z =
          c.in_ok-z.ensures.below;
    })

pub returns-in_err-x-clause-inside : goal.returns-in_err-x-clause-inside
returns-in_err-x-clause-inside g c = IfOk-from_err _ _ c.from_residual.ensures.0

pub returns-in_err-y-clause-inside : goal.returns-in_err-y-clause-inside
returns-in_err-y-clause-inside g c = IfOk-from_err _ _ c.from_residual-in_err-y.ensures.0

pub returns-in_err-z-clause-inside : goal.returns-in_err-z-clause-inside
returns-in_err-z-clause-inside g c = IfOk-from_err _ _ c.from_residual-in_err-z.ensures.0
