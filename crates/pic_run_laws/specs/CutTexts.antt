-- What stands on the two sinks where a put failed, with no walk along pieces: some pieces whole,
-- and the next one cut; so each sink has a front of its text.
use Rattle.std.specs.Prelude.{◌≡◌, ◌↔◌, ℕ, List, slice_get, take, Some}
use Rattle.pic_io.specs.declared.side.Side.{Side}
use Rattle.pic_io.specs.Sink.{AppendedFront}
use Rattle.pic_io.specs.Sinks.{Sinks, Wrote, Piece, outs, lines, IsCut, CutAt}
use Rattle.pic_report.specs.Outcome.{Outcome, out_text, report_text, pieces_of}

-- n is below the number of pieces: the first n stand whole on both sinks, with their lines, which
-- leaves the sinks at `mid`, and from there the next one is cut
pub record IsCutBehind (side : Side) (before now : Sinks) (pieces : List Piece) (n : ℕ) : Type 0
  where
    pub piece : Piece
    pub next : slice_get pieces n ≡ Some piece
    pub mid : Sinks
    pub whole : Wrote before mid (outs (take n pieces)) (lines (take n pieces))
    pub cut : IsCut side mid now piece

-- a put fails among pieces exactly where one of them is cut behind those before it, whole
abbrev pub CutBehindWholePieces : Type 0
CutBehindWholePieces =
    (side : Side) (before now : Sinks) (pieces : List Piece)
    → (CutAt side before now pieces) ↔ ((n : ℕ) × IsCutBehind side before now pieces n)

-- each sink has a front of what an outcome puts on it
pub record HasFronts (o : Outcome) (before now : Sinks) : Type 0 where
  pub out : AppendedFront before.out now.out (out_text o)
  pub report : AppendedFront before.report now.report (report_text o)

-- where a put of an outcome's pieces fails, both its texts stand up to some place
abbrev pub CutsLeaveFronts : Type 0
CutsLeaveFronts =
    (side : Side) (o : Outcome) (before now : Sinks)
    → CutAt side before now (pieces_of o) → HasFronts o before now
