-- The outcome of a run, from its first state.
use Rattle.std.specs.Prelude.{ℕ, List, []}
use Rattle.pic_io.specs.Sinks.{Piece}
use Rattle.pic_grid.specs.declared.stop.EndMark.{EndMark}
use Rattle.pic_header.specs.HeaderText.{header_bytes}
use Rattle.pic_header.specs.Header.{HeaderView}
use Rattle.pic_step.specs.SerialStep.{World}
use Rattle.pic_states.specs.declared.output.Output.{Output}
use Rattle.pic_states.specs.declared.output.Output.TheVariants.{Dump}
use Rattle.pic_states.specs.Frames.{frames_of, end_of_run, end_piece}
use Rattle.pic_report.specs.Outcome.{Outcome, answer_of}

-- some frames behind a head, and the end of a run behind them
abbrev pub states_outcome : Output → List ℕ → List Piece → EndMark → Outcome
states_outcome output head frames end = record {
  answer = answer_of end;
  head = head;
  frames = frames;
  last = end_piece output end;
}

-- the run that a header is of, from its first state w
abbrev pub dump_outcome : HeaderView → World → Outcome
dump_outcome h w =
    states_outcome Dump (header_bytes h) (frames_of Dump h.steps h.every w) (end_of_run h.steps w)

-- a run of so many steps from its first state w, shown with no head
abbrev pub shown_outcome : Output → ℕ → ℕ → World → Outcome
shown_outcome output steps every w =
    states_outcome output [] (frames_of output steps every w) (end_of_run steps w)
