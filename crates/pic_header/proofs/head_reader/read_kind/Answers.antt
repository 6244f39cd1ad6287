use Rattle.std.proofs.Common.{arith, rules}
use Rattle.std.proofs.lemmas.Int.{to_z-of_z}
use mir.Syntax.{w32}
use mir.Val.{SFits}
use Rattle.pic_fields.proofs.ReadLaws.{read_then, read_done, read_up_to, goes_on, exits}
use Rattle.pic_header.specs.HeaderFields.{kind_at}
use Rattle.pic_header.proofs.head_reader.read_kind.Goals as goal

pub returns-in_err-charge-clause-reads : goal.returns-in_err-charge-clause-reads
unfolding kind_at
returns-in_err-charge-clause-reads g c = exits _ (omega arith) c.from_residual.ensures.1 c.in_err-charge.ensures.reads

pub returns-in_err-mass-clause-reads : goal.returns-in_err-mass-clause-reads
unfolding kind_at
returns-in_err-mass-clause-reads g c =
    goes_on _ c.in_ok-charge.ensures.reads.answer (exits _ (omega arith) c.from_residual-in_err-mass.ensures.1 c.in_err-mass.ensures.reads)

pub returns-in_err-kick-clause-reads : goal.returns-in_err-kick-clause-reads
unfolding kind_at
returns-in_err-kick-clause-reads g c =
    goes_on _ c.in_ok-charge.ensures.reads.answer (goes_on _ c.in_ok-mass.ensures.reads.answer (exits _ (omega arith) c.from_residual-in_err-kick.ensures.1
    c.in_err-kick.ensures))

pub returns-in_err-turn-clause-reads : goal.returns-in_err-turn-clause-reads
unfolding kind_at
returns-in_err-turn-clause-reads g c =
    goes_on _ c.in_ok-charge.ensures.reads.answer (goes_on _ c.in_ok-mass.ensures.reads.answer (goes_on _ c.in_ok-kick.ensures.answer
    (exits _ (omega arith) c.from_residual-in_err-turn.ensures.1 c.in_err-turn.ensures)))

pub returns-clause-reads : goal.returns-clause-reads
unfolding kind_at
returns-clause-reads g c =
    let fits : SFits w32 c.in_ok-charge.charge = search rules in
    rw (to_z-of_z w32 c.in_ok-charge.charge fits) (record {
      answer = read_up_to (omega arith) (read_then _ c.in_ok-charge.ensures.reads.answer
          (read_then _ c.in_ok-mass.ensures.reads.answer (read_then _ c.in_ok-kick.ensures.answer (read_then _ c.in_ok-turn.ensures.answer
          (read_done _ _ _)))));
    })
