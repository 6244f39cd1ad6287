use Rattle.std.proofs.Common.{◌≡◌, List, ℕ, [], ◌∷◌, ◌∙◌, subst}
use Rattle.pic_io.specs.Sinks.{sinks, Writes}
use Rattle.pic_energy.specs.Line.{frame_line}
use Rattle.pic_states.specs.Frames.{frame_piece}
use Rattle.pic_states.proofs.frame_writer.put_summary.Goals as goal

pub returns : goal.returns
unfolding frame_piece
returns g c r =
    let a = sinks (g.O.Sink.told c.args.out.now) r in
    let b = sinks (g.O.Sink.told c.put_out.new.out) r in
    let number : c.step_number.result ≡ c.args.state.now.world.step = c.step_number.ensures.value in
    let said = c.bytes.ensures ∙ c.frame_line-line.ensures ∙ (λ i. frame_line (number i) (c.energies_in.ensures.value i)) in
    subst (λ (t : List ℕ). Writes a b (record { out = t; line = [] } ∷ []) c.put_out.result) said (c.put_out.ensures r)
