use Rattle.std.proofs.Common.{arith, rules}
use Rattle.std.proofs.lemmas.Int.{to_z-of_z}
use mir.Syntax.{w128}
use mir.Val.{SFits}
use Rattle.pic_fields.proofs.ReadLaws.{read_then, read_done, read_up_to, goes_on, exits}
use Rattle.pic_record.specs.EndFields.{below_at, push_stop_at}
use Rattle.pic_record.proofs.end_reader.read_push_stop.Goals as goal

pub returns-in_err-id : goal.returns-in_err-id
unfolding push_stop_at below_at
returns-in_err-id g c =
    let id = rw c.particles.ensures.value at c.in_err-id.ensures.reads in
    exits _ (omega arith) c.from_residual.ensures.1 id

pub returns-in_err-what : goal.returns-in_err-what
unfolding push_stop_at below_at
returns-in_err-what g c =
    let id = rw c.particles.ensures.value at c.in_ok-id.ensures.reads in
    goes_on _ id.answer (exits _ (omega arith) c.from_residual-in_err-what.ensures.1 c.in_err-what.ensures)

pub returns-in_err-axis : goal.returns-in_err-axis
unfolding push_stop_at below_at
returns-in_err-axis g c =
    let id = rw c.particles.ensures.value at c.in_ok-id.ensures.reads in
    goes_on _ id.answer (goes_on _ c.in_ok-what.ensures.answer (exits _ (omega arith) c.from_residual-in_err-axis.ensures.1 c.in_err-axis.ensures))

pub returns-in_err-value : goal.returns-in_err-value
unfolding push_stop_at below_at
returns-in_err-value g c =
    let id = rw c.particles.ensures.value at c.in_ok-id.ensures.reads in
    let value = rw (c.what_limit.ensures, c.side.ensures.value) at c.in_err-value.ensures in
    goes_on _ id.answer (goes_on _ c.in_ok-what.ensures.answer (goes_on _ c.in_ok-axis.ensures.answer
    (exits _ (omega arith) c.from_residual-in_err-value.ensures.1 value)))

pub returns : goal.returns
unfolding push_stop_at below_at
returns g c =
    let id = rw c.particles.ensures.value at c.in_ok-id.ensures.reads in
    let value = rw (c.what_limit.ensures, c.side.ensures.value) at c.in_ok-value.ensures in
    let fits : SFits w128 c.in_ok-value.value = search rules in
    rw (to_z-of_z w128 c.in_ok-value.value fits)
    (record {
      answer = read_up_to (omega arith) (read_then _ id.answer (read_then _ c.in_ok-what.ensures.answer (read_then _ c.in_ok-axis.ensures.answer
          (read_then _ value.answer (read_done _ _ _)))));
    })
