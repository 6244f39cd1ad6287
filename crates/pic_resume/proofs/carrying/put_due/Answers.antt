use Rattle.std.proofs.Common.{◌≡◌, List, true, sym, ap, subst, ◌∙◌}
use Rattle.pic_io.specs.Sinks.{sinks, Piece, Writes}
use Rattle.pic_record.specs.Due.{is_due}
use Rattle.pic_record.specs.FrameFields.{frame_of}
use Rattle.pic_resume.proofs.KeptLaws.{is_kept}
use Rattle.pic_resume.proofs.carrying.put_due.Goals as goal

pub returns-then-is_due : goal.returns-then-is_due
returns-then-is_due g c = λ l same.
    (let o = g.O.Sink.told c.args.out.now in
    let r = g.R.Sink.told c.args.report.now in
    let p = g.O.Sink.told c.put_with_line.new.out in
    let s = g.R.Sink.told c.put_with_line.new.report in
    let plan = c.args.plan in
    let due : is_due plan.steps l.every c.args.step ≡ true = ap (λ every. is_due plan.steps every c.args.step) same ∙ sym c.is_due.ensures ∙ c.if-is_due.true in
    let f = frame_of c.args.step c.args.state.now.e.values c.args.state.now.b.values c.args.state.now.particles.items c.args.energies in
    subst (λ (ps : List Piece). Writes (sinks o r) (sinks p s) ps c.put_with_line.result) (sym (is_kept plan.steps l f due)) (c.put_with_line.ensures l))
