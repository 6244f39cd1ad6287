use Rattle.std.proofs.Common.{arith}
use Rattle.pic_fields.proofs.ReadLaws.{read_then, read_done, read_up_to, goes_on, exits}
use Rattle.pic_header.specs.HeaderFields.{scales_at}
use Rattle.pic_header.proofs.head_reader.read_scales.Goals as goal

pub returns-in_err-e_to_b : goal.returns-in_err-e_to_b
unfolding scales_at
returns-in_err-e_to_b g c = exits _ (omega arith) c.from_residual.ensures.1 c.in_err-e_to_b.ensures

pub returns-in_err-b_to_e : goal.returns-in_err-b_to_e
unfolding scales_at
returns-in_err-b_to_e g c = goes_on _ c.in_ok-e_to_b.ensures.answer (exits _ (omega arith) c.from_residual-in_err-b_to_e.ensures.1 c.in_err-b_to_e.ensures)

pub returns-in_err-e_force : goal.returns-in_err-e_force
unfolding scales_at
returns-in_err-e_force g c =
    goes_on _ c.in_ok-e_to_b.ensures.answer (goes_on _ c.in_ok-b_to_e.ensures.answer (exits _ (omega arith) c.from_residual-in_err-e_force.ensures.1
    c.in_err-e_force.ensures))

pub returns-in_err-b_force : goal.returns-in_err-b_force
unfolding scales_at
returns-in_err-b_force g c =
    goes_on _ c.in_ok-e_to_b.ensures.answer (goes_on _ c.in_ok-b_to_e.ensures.answer (goes_on _ c.in_ok-e_force.ensures.answer
    (exits _ (omega arith) c.from_residual-in_err-b_force.ensures.1 c.in_err-b_force.ensures)))

pub returns : goal.returns
unfolding scales_at
returns g c =
    record {
      answer = read_up_to (omega arith) (read_then _ c.in_ok-e_to_b.ensures.answer (read_then _ c.in_ok-b_to_e.ensures.answer
          (read_then _ c.in_ok-e_force.ensures.answer (read_then _ c.in_ok-b_force.ensures.answer (read_done _ _ _)))));
    }
