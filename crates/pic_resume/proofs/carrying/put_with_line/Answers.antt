use Rattle.std.proofs.Common.{◌∙◌}
use Rattle.pic_resume.proofs.KeptLaws.{frame_cut, line_put, line_cut}
use Rattle.pic_resume.proofs.carrying.put_with_line.Goals as goal

pub returns-in-Err : goal.returns-in-Err
returns-in-Err g c = λ l.
    frame_cut l c.args.step c.args.state.now.e c.args.state.now.b c.args.state.now.particles.items c.args.energies _ _ _ c.in-Err.ensures.bytes
    c.in-Err.ensures.cause.err

pub returns-in-Ok : goal.returns-in-Ok
returns-in-Ok g c = λ l.
    line_put l c.args.step c.args.state.now.e c.args.state.now.b c.args.state.now.particles.items c.args.energies _ _ _ _ _ c.in_default.ensures.bytes
    c.in_default.ensures.cause.ok (c.bytes.ensures ∙ c.frame_line-line.ensures) c.in-Ok.ensures.bytes c.in-Ok.ensures.cause.ok

pub returns-in-Err-put : goal.returns-in-Err-put
returns-in-Err-put g c = λ l.
    line_cut l c.args.step c.args.state.now.e c.args.state.now.b c.args.state.now.particles.items c.args.energies _ _ _ _ _ c.in_default.ensures.bytes
    c.in_default.ensures.cause.ok (c.bytes.ensures ∙ c.frame_line-line.ensures) c.in-Err-put.ensures.bytes c.in-Err-put.ensures.cause.err
