use Rattle.std.proofs.Common.{arith, rules}
use Rattle.std.proofs.lemmas.Int.{to_z-of_z}
use mir.Syntax.{w32}
use mir.Val.{SFits}
use Rattle.pic_fields.proofs.ReadLaws.{read_then, read_done, read_up_to, goes_on, exits}
use Rattle.pic_header.specs.HeaderFields.{mult_at}
use Rattle.pic_header.proofs.head_reader.read_mult.Goals as goal

pub returns-in_err-n : goal.returns-in_err-n
unfolding mult_at
returns-in_err-n g c = exits _ (omega arith) c.from_residual.ensures.1 c.in_err-n.ensures.reads

pub returns-in_err-k : goal.returns-in_err-k
unfolding mult_at
returns-in_err-k g c = goes_on _ c.in_ok-n.ensures.reads.answer (exits _ (omega arith) c.from_residual-in_err-k.ensures.1 c.in_err-k.ensures.reads)

pub returns : goal.returns
unfolding mult_at
returns g c =
    let fits : SFits w32 c.in_ok-n.n = search rules in
    rw c.new.ensures (rw (to_z-of_z w32 c.in_ok-n.n fits) (record {
      answer = read_up_to (omega arith) (read_then _ c.in_ok-n.ensures.reads.answer
          (read_then _ c.in_ok-k.ensures.reads.answer (read_done _ _ _)));
    }))
