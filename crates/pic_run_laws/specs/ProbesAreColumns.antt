-- What the command `probe` shows of a deck is in the frames of its run.
use Rattle.std.specs.Prelude.{◌≡◌, ℕ, List, ◌++◌, flat_map, Ok}
use Rattle.pic_grid.specs.declared.stop.EndMark.{EndMark}
use Rattle.pic_grid.specs.Lattice.{value_at}
use Rattle.pic_deck.specs.Deck.{DeckView}
use Rattle.pic_devices.specs.declared.probes.Probes.{Probes}
use Rattle.pic_dump.specs.DumpRead.{read_dump}
use Rattle.pic_energy.specs.Line.{end_line}
use Rattle.pic_header.specs.Header.{HeaderView}
use Rattle.pic_probe.specs.ProbeLine.{probe_line}
use Rattle.pic_record.specs.FrameFields.{FrameView, field_with}
use Rattle.pic_record.specs.Layout.{LayoutView, layout_of}
use Rattle.pic_report.specs.Outcome.{Outcome, out_text}
use Rattle.pic_open.specs.Stages.{tested}
use Rattle.pic_run.specs.DeckOutcome.{on_deck, check_outcome, run_outcome, probe_outcome}
use Rattle.pic_run_laws.specs.KeptDecks.{IsKeptDeck}

-- the deck with a frame of each state, and all else as it is
abbrev pub deck_framing_each : DeckView → DeckView
deck_framing_each d = record d { every = 1 }

-- the deck with other probes, and all else as it is
abbrev pub deck_with_probes : Probes → DeckView → DeckView
deck_with_probes p d = record d { probes = p }

-- the columns of a frame that probes see, under the layout of its dump
abbrev pub columns_in : Probes → LayoutView → FrameView → List ℕ
columns_in p l f =
    probe_line p f.step (value_at (field_with l f.e)) (value_at (field_with l f.b)) f.particles

-- what `probe` puts on out of a deck are these columns of the frames that `run` puts of it where each state
-- has a frame, and the line of the run's end
abbrev pub ProbesAreColumns : Type 0
ProbesAreColumns =
    (d : DeckView) (h : HeaderView) (frames : List FrameView) (end : EndMark) → IsKeptDeck d → tested d ≡ Ok d
    → read_dump (out_text (run_outcome (deck_framing_each d)))
    ≡ Ok (record { header = h; frames = frames; end = Ok end })
    → out_text (probe_outcome d) ≡ flat_map (columns_in d.probes (layout_of h)) frames ++ end_line end

-- what a command makes of a deck, or why it isn't run, is the same for all probes
abbrev pub IsSameForAllProbes : (DeckView → Outcome) → Type 0
IsSameForAllProbes performed =
    (d : DeckView) (p : Probes)
    → on_deck performed (tested (deck_with_probes p d)) ≡ on_deck performed (tested d)

-- that of `run` is
abbrev pub ProbesChangeNoDump : Type 0
ProbesChangeNoDump = IsSameForAllProbes run_outcome

-- and that of `check`
abbrev pub ProbesChangeNoCheck : Type 0
ProbesChangeNoCheck = IsSameForAllProbes check_outcome
