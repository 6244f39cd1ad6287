use Rattle.std.proofs.Common.{refl}
use Rattle.pic_settings.specs.Keys.{scale}
use Rattle.pic_walk.proofs.WalkLaws.{goes_on, exits}
use Rattle.pic_settings.proofs.scale.read_scale.Goals as goal

pub returns-in_err-table : goal.returns-in_err-table
unfolding scale
returns-in_err-table c =
    exits _ _ c.from_residual.ensures.1 c.in_err-table.ensures

pub returns-in_err-e_to_b : goal.returns-in_err-e_to_b
unfolding scale
returns-in_err-e_to_b c =
    goes_on _ _ _ c.in_ok-table.ensures.answer (exits _ _ c.from_residual-in_err-e_to_b.ensures.1 c.in_err-e_to_b.ensures)

pub returns-in_err-b_to_e : goal.returns-in_err-b_to_e
unfolding scale
returns-in_err-b_to_e c =
    goes_on _ _ _ c.in_ok-table.ensures.answer (goes_on _ _ _ c.in_ok-e_to_b.ensures.answer
    (exits _ _ c.from_residual-in_err-b_to_e.ensures.1 c.in_err-b_to_e.ensures))

pub returns-in_err-e_force : goal.returns-in_err-e_force
unfolding scale
returns-in_err-e_force c =
    goes_on _ _ _ c.in_ok-table.ensures.answer (goes_on _ _ _ c.in_ok-e_to_b.ensures.answer
    (goes_on _ _ _ c.in_ok-b_to_e.ensures.answer (exits _ _ c.from_residual-in_err-e_force.ensures.1 c.in_err-e_force.ensures)))

pub returns-in_err-b_force : goal.returns-in_err-b_force
unfolding scale
returns-in_err-b_force c =
    goes_on _ _ _ c.in_ok-table.ensures.answer (goes_on _ _ _ c.in_ok-e_to_b.ensures.answer
    (goes_on _ _ _ c.in_ok-b_to_e.ensures.answer (goes_on _ _ _ c.in_ok-e_force.ensures.answer
    (exits _ _ c.from_residual-in_err-b_force.ensures.1 c.in_err-b_force.ensures))))

pub returns : goal.returns
unfolding scale
returns c =
    goes_on _ _ _ c.in_ok-table.ensures.answer (goes_on _ _ _ c.in_ok-e_to_b.ensures.answer
    (goes_on _ _ _ c.in_ok-b_to_e.ensures.answer (goes_on _ _ _ c.in_ok-e_force.ensures.answer
    (goes_on _ _ _ c.in_ok-b_force.ensures.answer (record { answer = refl })))))
