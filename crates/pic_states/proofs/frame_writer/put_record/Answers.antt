use Rattle.std.proofs.Common.{◌≡◌, List, ℕ, [], ◌∙◌, subst}
use Rattle.pic_io.specs.Sink.{Appended, AppendedFront}
use Rattle.pic_io.specs.Sinks.{WritesLine}
use Rattle.pic_io.proofs.Puts.{cut_out, line_after}
use Rattle.pic_energy.specs.Line.{frame_line}
use Rattle.pic_step.specs.SerialStep.{e_of, b_of}
use Rattle.pic_states.specs.declared.output.Output.TheVariants.{Dump}
use Rattle.pic_states.specs.Frames.{energies_in, frame_piece}
use Rattle.pic_dump.proofs.TextLaws.{frame_some}
use Rattle.pic_states.proofs.RoomLaws.{frame_is}
use Rattle.pic_states.proofs.frame_writer.put_record.Goals as goal

pub returns-in-Ok : goal.returns-in-Ok
unfolding frame_piece
returns-in-Ok g c =
    let o = g.O.Sink.told c.args.out.now in
    let p = g.O.Sink.told c.put_frame.new.out in
    let r = g.R.Sink.told c.args.report.now in
    let s = g.R.Sink.told c.put_line.new.report in
    let w = c.args.state.now.world in
    let measured = c.energies_in-energies.ensures.value in
    let number : c.step_number-step.result ≡ w.step = c.step_number-step.ensures.value in
    let text = frame_is c.step_number-step.result c.args.room.now w c.energies_in-energies.result number c.requires measured in
    let put = subst (λ (x : List ℕ). Appended o p x) text c.in-Ok.ensures.bytes in
    let said = c.bytes.ensures ∙ c.frame_line.ensures ∙ (λ i. frame_line (number i) (measured i)) in
    let line = subst (λ (text : List ℕ). WritesLine r s text c.put_line.result) said c.put_line.ensures in
    line_after o p r s (frame_piece Dump w) c.put_line.result put c.in-Ok.ensures.cause.ok line

pub returns-in-Err : goal.returns-in-Err
unfolding frame_piece
returns-in-Err g c =
    let o = g.O.Sink.told c.args.out.now in
    let p = g.O.Sink.told c.put_frame.new.out in
    let w = c.args.state.now.world in
    let number : c.step_number-step.result ≡ w.step = c.step_number-step.ensures.value in
    let text = frame_is c.step_number-step.result c.args.room.now w c.energies_in-energies.result number c.requires c.energies_in-energies.ensures.value in
    let put = subst (λ (x : List ℕ). AppendedFront o p x) text c.in-Err.ensures.bytes in
    cut_out o p (g.R.Sink.told c.args.report.now) (frame_piece Dump w) [] (frame_some w.step (e_of w) (b_of w) w.particles (energies_in w)) put
    c.in-Err.ensures.cause.err
