use Rattle.std.proofs.Common.{arith}
use Rattle.pic_fields.proofs.ReadLaws.{read_then, read_done, read_up_to, goes_on, exits}
use Rattle.pic_record.specs.FrameFields.{energies_at}
use Rattle.pic_record.proofs.frame_reader.read_energies.Goals as goal

pub returns-in_err-kinetic : goal.returns-in_err-kinetic
unfolding energies_at
returns-in_err-kinetic g c = exits _ (omega arith) c.from_residual.ensures.1 c.in_err-kinetic.ensures

pub returns-in_err-electric : goal.returns-in_err-electric
unfolding energies_at
returns-in_err-electric g c =
    goes_on _ c.in_ok-kinetic.ensures.answer (exits _ (omega arith) c.from_residual-in_err-electric.ensures.1 c.in_err-electric.ensures)

pub returns-in_err-magnetic : goal.returns-in_err-magnetic
unfolding energies_at
returns-in_err-magnetic g c =
    goes_on _ c.in_ok-kinetic.ensures.answer (goes_on _ c.in_ok-electric.ensures.answer (exits _ (omega arith) c.from_residual-in_err-magnetic.ensures.1
    c.in_err-magnetic.ensures))

pub returns : goal.returns
unfolding energies_at
returns g c =
    record {
      answer = read_up_to (omega arith) (read_then _ c.in_ok-kinetic.ensures.answer (read_then _ c.in_ok-electric.ensures.answer
          (read_then _ c.in_ok-magnetic.ensures.answer (read_done _ _ _))));
    }
