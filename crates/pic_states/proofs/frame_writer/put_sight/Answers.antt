use Rattle.std.proofs.Common.{List, ℕ, [], length, ◌∙◌, sym, subst}
use Rattle.pic_num.specs.Space.{Triple}
use Rattle.pic_io.specs.Sink.{Appended, AppendedFront}
use Rattle.pic_io.proofs.Puts.{cut_out}
use Rattle.pic_devices.specs.Probes.{AreProbes}
use Rattle.pic_states.specs.declared.output.Output.TheVariants.{Probe}
use Rattle.pic_states.specs.Frames.{frame_piece}
use Rattle.pic_states.proofs.FrameLaws.{line_wrote, sight_some}
use Rattle.pic_states.proofs.RoomLaws.{sight_is}
use Rattle.pic_states.proofs.frame_writer.put_sight.Goals as goal

pub put_line-requires-clause-probes : goal.put_line-requires-clause-probes
put_line-requires-clause-probes g c =
    let room = c.requires.room in
    subst (λ (n : Triple). AreProbes n (length c.args.room.now.particles.items) c.args.probes.now) (sym room.e_cells)
    (subst (λ (count : ℕ). AreProbes c.args.state.now.world.cells count c.args.probes.now) (sym room.count) c.requires.probes)

pub put_line-requires-clause-cells : goal.put_line-requires-clause-cells
put_line-requires-clause-cells g c = c.requires.room.b_cells ∙ sym c.requires.room.e_cells

pub put_line-requires-clause-identities : goal.put_line-requires-clause-identities
put_line-requires-clause-identities g c = c.requires.ordered.identities

pub returns-in-Ok : goal.returns-in-Ok
unfolding frame_piece
returns-in-Ok g c r =
    let o = g.O.Sink.told c.args.out.now in
    let p = g.O.Sink.told c.put_line.new.out in
    let w = c.args.state.now.world in
    let text = sight_is c.args.probes.now c.step_number.result c.args.room.now w c.step_number.ensures.value c.requires.room.count c.requires.ordered
    c.cells-cells.ensures.sound.ordered c.requires.probes.ids c.requires.shows in
    line_wrote o p r (frame_piece (Probe c.args.probes.now) w).out (subst (λ (x : List ℕ). Appended o p x) text c.in-Ok.ensures.bytes) c.in-Ok.ensures.cause.ok

pub returns-in-Err : goal.returns-in-Err
unfolding frame_piece
returns-in-Err g c r =
    let o = g.O.Sink.told c.args.out.now in
    let p = g.O.Sink.told c.put_line.new.out in
    let w = c.args.state.now.world in
    let text = sight_is c.args.probes.now c.step_number.result c.args.room.now w c.step_number.ensures.value c.requires.room.count c.requires.ordered
    c.cells-cells.ensures.sound.ordered c.requires.probes.ids c.requires.shows in
    cut_out o p r (frame_piece (Probe c.args.probes.now) w) [] (sight_some c.args.probes.now w)
    (subst (λ (x : List ℕ). AppendedFront o p x) text c.in-Err.ensures.bytes) c.in-Err.ensures.cause.err
