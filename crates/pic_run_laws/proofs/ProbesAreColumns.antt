-- The lines of probes, from the frames of a run.
use Rattle.std.proofs.Common.{◌≡◌, suc, ◌+◌, List, [], ◌∷◌, ◌++◌, All, map, Result, Ok, refl, sym, ap, ◌∙◌, arith}
use Rattle.std.specs.Prelude.{flat_map}
use Rattle.pic_fields.specs.Parser.{Fault}
use Rattle.pic_grid.specs.declared.stop.EndMark.{EndMark}
use Rattle.pic_grid.specs.Lattice.{value_at}
use Rattle.pic_devices.specs.declared.probes.Probes.{Probes}
use Rattle.pic_displace.specs.Displace.{displaced_e}
use Rattle.pic_load.specs.Loading.{loaded}
use Rattle.pic_dump.specs.DumpRead.{DumpRead}
use Rattle.pic_energy.specs.Line.{end_line}
use Rattle.pic_io.specs.Sinks.{outs}
use Rattle.pic_probe.specs.ProbeLine.{probe_line}
use Rattle.pic_record.specs.Layout.{LayoutView, layout_of}
use Rattle.pic_states.specs.declared.output.Output.TheVariants.{Probe}
use Rattle.pic_states.specs.Frames.{frame_piece, due_states, end_of_run}
use Rattle.pic_states.specs.FrameStates.{frame_in}
use Rattle.pic_run.specs.RunHeader.{header_of}
use Rattle.pic_open.specs.Starting.{first_state}
use Rattle.pic_step.specs.SerialStep.{World}
use Rattle.pic_run_laws.specs.ProbesAreColumns.{deck_framing_each, columns_in, ProbesAreColumns}
use Rattle.pic_run_laws.proofs.GoodFrames.{e_is, b_is}
use Rattle.pic_run_laws.proofs.OtherDecks.{tested_running, kept_running}
use Rattle.pic_run_laws.proofs.RunLaws.{run_read, states_good}
use Rattle.pic_run_laws.proofs.RunsAreVerified.{fit_of}
use Rattle.pic_run_laws.proofs.StartLaws.{header_kept, start_good}
use Rattle.pic_run_laws.proofs.StateFits.{IsOfLayout, IsGoodState}

-- what probes see of a state are columns of its frame
sight_text : (p : Probes) (l : LayoutView) (w : World) → IsOfLayout l w → (frame_piece (Probe p) w).out ≡ columns_in p l (frame_in w)
unfolding frame_piece
sight_text p l w of = λ i. probe_line p w.step (value_at (sym (e_is l w of) i)) (value_at (sym (b_is l w of) i)) w.particles

sights_text : (p : Probes) (l : LayoutView) (ws : List World) → All (IsGoodState l) ws
    → outs (map (frame_piece (Probe p)) ws) ≡ flat_map (columns_in p l) (map frame_in ws)
sights_text p l [] good = refl
sights_text p l (w ∷ ws) good =
    λ i. sight_text p l w (good 0 w (omega arith)).of i ++ sights_text p l ws (λ j d below. good (suc j) d (omega (arith, below))) i

-- what is read of one dump is the same
one_dump : (a b : DumpRead) → ◌≡◌ {A = Result DumpRead Fault} (Ok a) (Ok b) → a ≡ b
one_dump a b is = cc

one_end : (a b : EndMark) → ◌≡◌ {A = Result EndMark Fault} (Ok a) (Ok b) → a ≡ b
one_end a b is = cc

pub probes_are_columns : ProbesAreColumns
unfolding loaded displaced_e
probes_are_columns d h frames end kept is read =
    let settings = kept.limits.settings in
    let d1 = deck_framing_each d in
    let kept1 = kept_running d.steps 1 d settings.steps (omega arith) (omega arith) kept in
    let is1 = tested_running d.steps 1 d is in
    let w = first_state d1 in
    let good = start_good d1 kept1 is1 in
    let states = due_states d.steps 1 w 0 (d.steps + 1) in
    let whole : DumpRead = record { header = header_of d1; frames = map frame_in states; end = Ok (end_of_run d.steps w) } in
    let given : DumpRead = record { header = h; frames = frames; end = Ok end } in
    let same = one_dump whole given (sym (run_read (header_of d1) (header_kept d1 kept1) w refl (fit_of d1 kept1) good) ∙ read) in
    let last = one_end (end_of_run d.steps w) end (ap (λ (r : DumpRead). r.end) same) in
    let all = sights_text d.probes (layout_of (header_of d1)) states (states_good (header_of d1) (header_kept d1 kept1) w refl (fit_of d1 kept1) good) in
    (λ i. all i ++ end_line (end_of_run d.steps w))
    ∙ (λ i. flat_map (columns_in d.probes (layout_of (same i).header)) (same i).frames ++ end_line (last i))
