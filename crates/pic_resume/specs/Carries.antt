-- What a call that carries a dump on did, held against what the source had.
use Rattle.std.specs.Prelude.{◌≡◌, ℕ, ◌≤◌, List, [], ◌∷◌, ◌++◌, Some, Result, Ok, Err, ⊤}
use Rattle.pic_io.specs.Told.{Told, Rose, Calm, Quiet}
use Rattle.pic_io.specs.Source.{IsAtEnd}
use Rattle.pic_io.specs.Sinks.{Sinks, Wrote, outs, lines, CutAt, QuietSinks}
use Rattle.pic_io.specs.declared.side.Side.{Side}
use Rattle.pic_num.specs.Space.{triple}
use Rattle.pic_grid.specs.Tiles.{AreTiles}
use Rattle.pic_grid.specs.declared.snapshot.Snapshot.{Snapshot}
use Rattle.pic_fields.specs.Reads.{Left}
use Rattle.pic_record.specs.FrameFields.{FrameView, field_with}
use Rattle.pic_record.specs.Layout.{LayoutView, layout_of}
use Rattle.pic_record.specs.Readable.{IsReadableFrame}
use Rattle.pic_dump.specs.Upgrade.{piece_of}
use Rattle.pic_dump.specs.Whole.{parts_in, TakesWhole}
use Rattle.pic_verify.specs.Verified.{ObeysGauss}
use Rattle.pic_resume.specs.declared.carried.Carried.{Carried}
use Rattle.pic_resume.specs.declared.carry_stop.CarryStop.{CarryStop}
use Rattle.pic_resume.specs.declared.carry_stop.CarryStop.TheVariants.{ReadFault, BadDump, Refused, Broken, WriteFault, NoMemory}
use Rattle.pic_resume.specs.Carry.{GoesOn, carry_of, carry_front}

-- a snapshot holds a frame, each field in one part, and a number is its step
pub record HoldsFrame (l : LayoutView) (f : FrameView) (number : ℕ) (state : Snapshot) : Type 0 where
  pub step : number ≡ f.step
  pub e : state.e ≡ field_with l f.e
  pub b : state.b ≡ field_with l f.b
  pub particles : state.particles.items ≡ f.particles

-- a run of this layout can go on from a frame
pub record CanGoOn (l : LayoutView) (f : FrameView) : Type 0 where
  pub step : f.step ≤ l.steps
  pub readable : IsReadableFrame l f
  pub gauss : ObeysGauss l f

-- what is handed out is where a run goes on
pub record IsCarried (g : GoesOn) (c : Carried) : Type 0 where
  pub header : c.header ≡ g.header
  pub last : HoldsFrame (layout_of g.header) g.last c.step c.last

-- The call with these steps and tiles. The answer is that on the bytes that were left, all that is kept of
-- them was put, and no read and no put failed
pub record Finds (steps : ℕ) (tiles : List ℕ) (source source' : Told) (before now : Sinks) (answer : Result GoesOn CarryStop) : Type 0 where
  pub calm : Calm source source'
  pub held : List ℕ
  pub was : Left source held
  pub put : Wrote before now ((carry_of steps tiles held).head ++ outs (carry_of steps tiles held).kept) (lines (carry_of steps tiles held).kept)
  pub answered : (carry_of steps tiles held).answer ≡ answer

-- the source was read to its end, and a run goes on from what is handed out
pub record GivesRun (steps : ℕ) (tiles : List ℕ) (source source' : Told) (before now : Sinks) (c : Carried) : Type 0 where
  pub goes : GoesOn
  pub finds : Finds steps tiles source source' before now (Ok goes)
  pub end : IsAtEnd source'
  pub is : IsCarried goes c
  pub can : CanGoOn (layout_of goes.header) goes.last
  pub tiled : AreTiles goes.header.cells (triple tiles)

-- a read failed: what is kept of the parts was put that were taken whole before
pub record FailsToRead (steps : ℕ) (tiles : List ℕ) (source source' : Told) (before now : Sinks) : Type 0 where
  pub rose : Rose source source'
  pub held : List ℕ
  pub was : Left source held
  pub whole : ℕ
  pub takes : TakesWhole (parts_in held) 0 whole source source'
  pub put : Wrote before now ((carry_front steps tiles held whole).head ++ outs (carry_front steps tiles held whole).kept)
      (lines (carry_front steps tiles held whole).kept)

-- a put failed: head and pieces are cut where it did
pub record FailsToPut (steps : ℕ) (tiles : List ℕ) (side : Side) (source source' : Told) (before now : Sinks) : Type 0 where
  pub calm : Calm source source'
  pub held : List ℕ
  pub was : Left source held
  pub cut : CutAt side before now (piece_of (carry_of steps tiles held).head ∷ (carry_of steps tiles held).kept)

-- memory was wanted: no count rose, and nothing was put
pub record PutsNothing (source source' : Told) (before now : Sinks) : Type 0 where
  pub calm : Calm source source'
  pub put : Wrote before now [] []

abbrev pub Answered : ℕ → List ℕ → Told → Told → Sinks → Sinks → Result Carried CarryStop → Type 0
Answered steps tiles source source' before now (Ok c) = GivesRun steps tiles source source' before now c
Answered steps tiles source source' before now (Err ReadFault) = FailsToRead steps tiles source source' before now
Answered steps tiles source source' before now (Err (BadDump place cause)) = Finds steps tiles source source' before now (Err (BadDump place cause))
Answered steps tiles source source' before now (Err (Refused r)) = Finds steps tiles source source' before now (Err (Refused r))
Answered steps tiles source source' before now (Err (Broken frame at)) = Finds steps tiles source source' before now (Err (Broken frame at))
Answered steps tiles source source' before now (Err (WriteFault side)) = FailsToPut steps tiles side source source' before now
Answered steps tiles source source' before now (Err NoMemory) = PutsNothing source source' before now

-- the head and the frames that are kept were put, and a run goes on from the last frame; or the first
-- fault, refusal or break, behind what is kept before it; or a read or a put failed, or want of memory
pub record Carries (steps : ℕ) (tiles : List ℕ) (source source' : Told) (before now : Sinks) (result : Result Carried CarryStop) : Type 0 where
  pub answer : Answered steps tiles source source' before now result

-- that of the bytes, or want of memory
abbrev pub OrNoMemory : Result GoesOn CarryStop → Result Carried CarryStop → Type 0
OrNoMemory found (Ok c) = (g : GoesOn) × (found ≡ Ok g) × IsCarried g c
OrNoMemory found (Err NoMemory) = ⊤
OrNoMemory found (Err stop) = found ≡ Err stop

-- where the source tells its bytes and no count rose, they alone decide the answer
abbrev pub IsExact : ℕ → List ℕ → Told → Told → Sinks → Sinks → Result Carried CarryStop → Type 0
IsExact steps tiles source source' before now result =
    (bytes : List ℕ) → source.bytes ≡ Some bytes → Quiet source source' → QuietSinks before now → OrNoMemory (carry_of steps tiles bytes).answer result

-- memory was wanted, or the steps or the tiles were refused: only the header was read
abbrev pub IsEarly : Result Carried CarryStop → Type 0
IsEarly (Err NoMemory) = ⊤
IsEarly (Err (Refused r)) = ⊤
IsEarly other = ⊥
