-- What a dump's bytes are found to be, of what they are read as: each whole frame is held against Gauss's
-- law (Birdsall and Langdon, "Plasma Physics via Computer Simulation"). Which fault or break is answered is
-- this project's profile: the first.
use Rattle.std.specs.Prelude.{◌≡◌, ℤ, ℕ, suc, List, [], ◌∷◌, Option, Some, None, Result, Ok, Err}
use Rattle.pic_num.specs.declared.motion.Particle.{Particle}
use Rattle.pic_grid.specs.declared.stop.EndMark.{EndMark}
use Rattle.pic_grid.specs.Differences.{div_e}
use Rattle.pic_grid.specs.Lattice.{value_at}
use Rattle.pic_charge.specs.declared.breaks.Break.{Break}
use Rattle.pic_charge.specs.Charge.{rho_of}
use Rattle.pic_charge.specs.ChargeRoom.{RoomView}
use Rattle.pic_charge.specs.Gauss.{MeetsGauss, first_break}
use Rattle.pic_fields.specs.Parser.{Input, Fault}
use Rattle.pic_record.specs.Layout.{LayoutView, layout_of}
use Rattle.pic_record.specs.FrameFields.{FrameView, field_with}
use Rattle.pic_dump.specs.DumpRead.{DumpRead, read_on, read_dump}
use Rattle.pic_verify.specs.declared.verify_stop.VerifyStop.{VerifyStop}
use Rattle.pic_verify.specs.declared.verify_stop.VerifyStop.TheVariants.{BadDump, Broken}

-- the number of frames, or why the bytes aren't verified
abbrev pub Verdict : Type 0
Verdict = Result ℕ VerifyStop

-- the least node of a frame where the divergence of its E and the charge of its particles differ
unfoldable pub break_of : LayoutView → List ℤ → List Particle → Option Break
break_of l e particles = first_break l.cells (div_e l.cells (value_at (field_with l e))) (rho_of l.side l.filter l.cells l.kinds particles)

-- room for the charge that a frame's E is held against
pub record IsRoomFor (l : LayoutView) (room : RoomView) : Type 0 where
  pub cells : room.grid.n ≡ l.cells
  pub side : room.grid.side ≡ l.side
  pub filter : room.filter ≡ l.filter

-- Gauss's law holds at every node of a frame
abbrev pub ObeysGauss : LayoutView → FrameView → Type 0
ObeysGauss l f = MeetsGauss l.side l.filter l.cells l.kinds f.particles (field_with l f.e)

-- a break in the frame after k others, or what follows that frame
abbrev pub unless_broken : ℕ → Option Break → Verdict → Verdict
unless_broken k (Some at) rest = Err (Broken k at)
unless_broken k None rest = rest

-- the end behind k good frames
abbrev pub at_end : ℕ → Result EndMark Fault → Verdict
at_end k (Ok mark) = Ok k
at_end k (Err f) = Err (BadDump f.place f.cause)

-- frames behind k good ones, and the end behind them: the first break, and where there is none the end
abbrev pub verdict_behind : LayoutView → ℕ → List FrameView → Result EndMark Fault → Verdict
verdict_behind l k [] end = at_end k end
verdict_behind l k (f ∷ frames) end = unless_broken k (break_of l f.e f.particles) (verdict_behind l (suc k) frames end)

-- the verdict on a dump, or on the fault of a header
abbrev pub verdict_of : Result DumpRead Fault → Verdict
verdict_of (Ok d) = verdict_behind (layout_of d.header) 0 d.frames d.end
verdict_of (Err f) = Err (BadDump f.place f.cause)

-- the verdict on some bytes
unfoldable pub verified : List ℕ → Verdict
verified bytes = verdict_of (read_dump bytes)

-- the verdict on the records after k good frames, of which the last is of a step; there are at most n
unfoldable pub walked : ℕ → LayoutView → ℕ → Option ℕ → Input → Verdict
walked n l k last i = verdict_behind l k (read_on n l last i).0 (read_on n l last i).1
