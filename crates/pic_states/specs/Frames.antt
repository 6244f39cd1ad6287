-- What a run puts of its states, as frames with a line each, as lines, or as what its probes see; and how the run ends: this project's profile.
use Rattle.std.specs.Prelude.{◌≡◌, ℕ, ◌+◌, ◌-◌, List, [], ◌∷◌, ◌++◌, map, if◌then◌else◌, Result, Ok, Err}
use Rattle.std.specs.List.{flat_map, range_with_len}
use Rattle.pic_io.specs.Sinks.{Piece}
use Rattle.pic_grid.specs.declared.stop.EndMark.{EndMark}
use Rattle.pic_grid.specs.declared.stop.EndMark.TheVariants.{Done}
use Rattle.pic_grid.specs.Lattice.{value_at}
use Rattle.pic_energy.specs.declared.amounts.Energies.{Energies}
use Rattle.pic_energy.specs.Energies.{energies_of}
use Rattle.pic_energy.specs.Line.{frame_line, end_line}
use Rattle.pic_record.specs.RecordText.{frame_bytes, end_bytes}
use Rattle.pic_record.specs.Due.{is_due}
use Rattle.pic_probe.specs.ProbeLine.{probe_line}
use Rattle.pic_step.specs.SerialStep.{World, e_of, b_of}
use Rattle.pic_step.specs.SerialRun.{after}
use Rattle.pic_states.specs.declared.output.Output.{Output}
use Rattle.pic_states.specs.declared.output.Output.TheVariants.{Dump, Lines, Probe}

-- the energies of a state
abbrev pub energies_in : World → Energies
energies_in w = energies_of w.scales w.kinds (e_of w) (b_of w) w.particles

-- what a run puts of a state
unfoldable pub frame_piece : Output → World → Piece
frame_piece Dump w = record {
  out = frame_bytes w.step (e_of w) (b_of w) w.particles (energies_in w);
  line = frame_line w.step (energies_in w);
}
frame_piece Lines w = record { out = frame_line w.step (energies_in w); line = [] }
frame_piece (Probe probes) w = record {
  out = probe_line probes w.step (value_at (e_of w)) (value_at (b_of w)) w.particles;
  line = [];
}

-- the state that a run came to, where its frame is due
abbrev pub due_state : ℕ → ℕ → Result World EndMark → List World
due_state steps every (Ok w) = if is_due steps every w.step then w ∷ [] else []
due_state steps every (Err end) = []

-- of the states after `first`, `first + 1`, .. steps from w, so many, those whose frames are due
unfoldable pub due_states : ℕ → ℕ → World → ℕ → ℕ → List World
due_states steps every w first count =
    flat_map (λ n. due_state steps every (after w n)) (range_with_len first count)

-- the due frames of a run
abbrev pub frames_of : Output → ℕ → ℕ → World → List Piece
frames_of output steps every w = map (frame_piece output) (due_states steps every w 0 (steps + 1))

-- those of the states behind w
abbrev pub frames_behind : Output → ℕ → ℕ → World → List Piece
frames_behind output steps every w =
    map (frame_piece output) (due_states steps every w 1 (steps - w.step))

-- how a run ends that came so far
abbrev pub end_where : Result World EndMark → EndMark
end_where (Ok w) = Done w.step
end_where (Err end) = end

-- how a run of so many steps more ends
unfoldable pub end_of_run : ℕ → World → EndMark
end_of_run steps w = end_where (after w steps)

-- a run goes on from a state that it came to as one that begins there: its due states are those up
-- to that state, and those that lead on from it
abbrev pub DueStatesJoin : Type 0
DueStatesJoin =
    (steps every m k : ℕ) (w v : World) → m + k ≡ steps → after w m ≡ Ok v
    → due_states steps every w 0 (m + 1) ++ due_states steps every v 1 k
    ≡ due_states steps every w 0 (steps + 1)

-- and it ends as one that begins there
abbrev pub EndsJoin : Type 0
EndsJoin =
    (steps m k : ℕ) (w v : World) → m + k ≡ steps → after w m ≡ Ok v
    → end_of_run steps w ≡ end_of_run k v

-- what a run puts of its end
abbrev pub end_piece : Output → EndMark → Piece
end_piece Dump end = record { out = end_bytes end; line = end_line end }
end_piece Lines end = record { out = end_line end; line = [] }
end_piece (Probe probes) end = record { out = end_line end; line = [] }
