use Rattle.std.proofs.Common.{rules, arith}
use Rattle.std.proofs.lemmas.Int.{to_z-of_z}
use mir.Syntax.{w32}
use mir.Val.{SFits}
use Rattle.pic_fields.proofs.ReadLaws.{read_then, read_done, read_up_to, goes_on, exits}
use Rattle.pic_record.specs.FrameFields.{velocity_at}
use Rattle.pic_record.proofs.frame_reader.read_velocity.Goals as goal

pub returns-in_err-x : goal.returns-in_err-x
unfolding velocity_at
returns-in_err-x g c = exits _ (omega arith) c.from_residual.ensures.1 c.in_err-x.ensures

pub returns-in_err-y : goal.returns-in_err-y
unfolding velocity_at
returns-in_err-y g c = goes_on _ c.in_ok-x.ensures.answer (exits _ (omega arith) c.from_residual-in_err-y.ensures.1 c.in_err-y.ensures)

pub returns-in_err-z : goal.returns-in_err-z
unfolding velocity_at
returns-in_err-z g c =
    goes_on _ c.in_ok-x.ensures.answer (goes_on _ c.in_ok-y.ensures.answer (exits _ (omega arith) c.from_residual-in_err-z.ensures.1 c.in_err-z.ensures))

pub returns : goal.returns
unfolding velocity_at
returns g c =
    let x : SFits w32 c.in_ok-x.x = search rules in
    let y : SFits w32 c.in_ok-y.y = search rules in
    let z : SFits w32 c.in_ok-z.z = search rules in
    rw (to_z-of_z w32 c.in_ok-x.x x, to_z-of_z w32 c.in_ok-y.y y, to_z-of_z w32 c.in_ok-z.z z)
    (record {
      answer = read_up_to (omega arith) (read_then _ c.in_ok-x.ensures.answer (read_then _ c.in_ok-y.ensures.answer
          (read_then _ c.in_ok-z.ensures.answer (read_done _ _ _))));
    })
