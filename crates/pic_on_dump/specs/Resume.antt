-- The command `resume`: a dump is put again with more steps, frame by frame, and its run goes on from its
-- last frame.
use Rattle.std.specs.Prelude.{◌≡◌, ◌⊎◌, ⊤, ℕ, ◌-◌, ◌≤◌, List, [], ◌++◌, Result, Ok, Err, IfSome, IsOk}
use Rattle.pic_io.specs.Told.{Told}
use Rattle.pic_io.specs.Source.{IsAtEnd}
use Rattle.pic_io.specs.Sinks.{Piece}
use Rattle.pic_grid.specs.declared.stop.EndMark.TheVariants.{Stopped as EndStopped}
use Rattle.pic_grid.specs.declared.stop.Stop.{Stop}
use Rattle.pic_deck.specs.declared.refusal.Refusal.{Refusal}
use Rattle.pic_header.specs.Header.{HeaderView}
use Rattle.pic_record.specs.Layout.{layout_of}
use Rattle.pic_step.specs.SerialStep.{World, world_of}
use Rattle.pic_step.specs.SerialRun.{after}
use Rattle.pic_step.specs.Sound.{IsSound}
use Rattle.pic_dump.specs.Allowed.{TakesHeader}
use Rattle.pic_resume.specs.declared.carried.Carried.{Carried}
use Rattle.pic_resume.specs.declared.carry_stop.CarryStop.{CarryStop}
use Rattle.pic_resume.specs.declared.carry_stop.CarryStop.TheVariants as stop
use Rattle.pic_resume.specs.Carry.{Carry, GoesOn, carry_of, carry_front}
use Rattle.pic_report.specs.declared.ended.Ended.{Ended}
use Rattle.pic_report.specs.declared.ended.Ended.TheVariants.{Done, Stopped, Refused, BadDump, Broken, ReadFault, WriteFault, NoMemory}
use Rattle.pic_states.specs.declared.output.Output.TheVariants.{Dump}
use Rattle.pic_states.specs.Frames.{frames_behind, end_of_run}
use Rattle.pic_states.specs.FrameStates.{world_in}
use Rattle.pic_report.specs.Lines.{early_line}
use Rattle.pic_report.specs.Reading.{Given, Held, Failed, FailedBehind}
use Rattle.pic_on_dump.specs.DumpReading.{HasParts}
use Rattle.pic_states.specs.EachGauss.{EachGauss}
use Rattle.pic_report.specs.Outcome.{Outcome, told_outcome}
use Rattle.pic_states.specs.StatesOutcome.{states_outcome}
use Rattle.pic_report.specs.Leaves.{LeavesKept}
use Rattle.pic_report.specs.Manner.{Call, Manner}
use Rattle.pic_on_dump.specs.Verify.{TakesOfTested}

-- the state that a run goes on from
abbrev pub resumed_state : GoesOn → World
resumed_state g = world_in g.header g.last

-- the same, as it is handed out
abbrev pub carried_state : Carried → World
carried_state c =
    world_of c.step (record { n = c.header.cells; side = c.header.side }) c.header.filter c.header.loops c.header.scales
    (layout_of c.header).kinds c.last.e.values c.last.b.values c.last.particles.items

-- the run that a header is of, from a state of it, behind a head and frames
abbrev pub behind_outcome : List ℕ → List Piece → HeaderView → World → Outcome
behind_outcome head frames h w =
    states_outcome Dump head (frames ++ frames_behind Dump h.steps h.every w)
    (end_of_run (h.steps - w.step) w)

-- why a run doesn't go on
abbrev pub ended_carry : CarryStop → Ended
ended_carry stop.ReadFault = ReadFault
ended_carry (stop.BadDump place cause) = BadDump place cause
ended_carry (stop.Refused refusal) = Refused refusal
ended_carry (stop.Broken frame b) = Broken frame b
ended_carry (stop.WriteFault side) = WriteFault side
ended_carry stop.NoMemory = NoMemory

-- behind a head and kept frames: the run that goes on, or the line that says why it doesn't
abbrev pub resume_behind : List ℕ → List Piece → Result GoesOn CarryStop → Outcome
resume_behind head kept (Ok g) = behind_outcome head kept g.header (resumed_state g)
resume_behind head kept (Err why) =
    told_outcome head kept (early_line (ended_carry why)) (ended_carry why)

-- what is carried of a dump, and how its run goes on
abbrev pub resume_of : Carry → Outcome
resume_of c = resume_behind c.head c.kept c.answer

-- what a read that failed leaves of it
abbrev pub unread_outcome : Carry → Outcome
unread_outcome c = told_outcome c.head c.kept (early_line ReadFault) ReadFault

-- for the dump that the source held; or for so many of its parts, behind which a read failed
abbrev pub resume_on : ℕ → List ℕ → Given → Outcome
resume_on steps tiles (Held held) = resume_of (carry_of steps tiles held)
resume_on steps tiles (Failed front) = told_outcome [] [] (early_line ReadFault) ReadFault
resume_on steps tiles (FailedBehind held whole) = unread_outcome (carry_front steps tiles held whole)

-- a run went on to its last step, or to a stop
abbrev pub HasRun : Ended → Type 0
HasRun (Done steps) = ⊤
HasRun (Stopped step why) = ⊤
HasRun answer = ⊥

-- where a run goes on from, for what the source gave
abbrev pub resumed_from : ℕ → List ℕ → Given → Result GoesOn CarryStop
resumed_from steps tiles (Held held) = (carry_of steps tiles held).answer
resumed_from steps tiles (Failed front) = Err stop.ReadFault
resumed_from steps tiles (FailedBehind held whole) = Err stop.ReadFault

-- a run of so many steps can go on from here
pub record IsResumable (steps : ℕ) (g : GoesOn) : Type 0 where
  pub sound : IsSound (resumed_state g)
  pub header : g.header.steps ≡ steps
  pub behind : g.last.step ≤ steps

-- how a dump was read: where memory was wanting, no byte behind its header was taken, or it was read to
-- its end, and none where steps or tiles were refused; where its run went on, it was read to its end, from
-- a sound state; and where a read failed, so many parts of it were whole
pub record ReadsResumed (steps : ℕ) (tiles : List ℕ) (source source' : Told) (given : Given)
    (ended : Ended) : Type 0 where
  pub memory : ended ≡ NoMemory → TakesHeader source source' ⊎ IsAtEnd source'
  pub refused : (refusal : Refusal) → ended ≡ Refused refusal → TakesHeader source source'
  pub end : HasRun ended → IsAtEnd source'
  pub from : HasRun ended → (g : GoesOn) → resumed_from steps tiles given ≡ Ok g → IsResumable steps g
  pub part : HasParts source source' given

-- the source held a dump whose run goes on from here, where it tells its bytes, and was read to its end
pub record HasDump (steps : ℕ) (tiles : List ℕ) (c : Call) (g : GoesOn) : Type 0 where
  pub held : IfSome c.source.bytes (λ held. (carry_of steps tiles held).answer ≡ Ok g)
  pub end : IsAtEnd c.source_now

-- the serial run reaches its last step from the dump's last frame, and each of its states meets Gauss's
-- law
pub record IsResumedDone (steps : ℕ) (tiles : List ℕ) (c : Call) (last : ℕ) : Type 0 where
  pub from : GoesOn
  pub held : HasDump steps tiles c from
  pub gauss : EachGauss (resumed_state from)
  pub all : last ≡ steps
  pub reached : IsOk (after (resumed_state from) (steps - from.last.step))

-- it stops on the way, in this step
pub record IsResumedStopped (steps : ℕ) (tiles : List ℕ) (c : Call) (step : ℕ) (why : Stop) : Type 0
  where
    pub from : GoesOn
    pub held : HasDump steps tiles c from
    pub gauss : EachGauss (resumed_state from)
    pub stops : after (resumed_state from) (steps - from.last.step) ≡ Err (EndStopped step why)

-- why the dump that the source held, where it tells its bytes, isn't run on
abbrev pub IsNotResumed : ℕ → List ℕ → Call → CarryStop → Type 0
IsNotResumed steps tiles c why =
    IfSome c.source.bytes (λ held. (carry_of steps tiles held).answer ≡ Err why)

abbrev pub ResumeMeans : ℕ → List ℕ → Call → Ended → Type 0
ResumeMeans steps tiles c (Done last) = IsResumedDone steps tiles c last
ResumeMeans steps tiles c (Stopped step why) = IsResumedStopped steps tiles c step why
ResumeMeans steps tiles c (Refused refusal) = IsNotResumed steps tiles c (stop.Refused refusal)
ResumeMeans steps tiles c (BadDump place cause) = IsNotResumed steps tiles c (stop.BadDump place cause)
ResumeMeans steps tiles c (Broken frame b) = IsNotResumed steps tiles c (stop.Broken frame b)
ResumeMeans steps tiles c answer = ⊥

-- to so many steps, on so many tiles along each axis; the number of workers changes nothing
abbrev pub resuming : ℕ → List ℕ → Manner
resuming steps tiles = record {
  outcome = resume_on steps tiles;
  leaves = LeavesKept;
  takes = TakesOfTested;
  reads = ReadsResumed steps tiles;
  means = ResumeMeans steps tiles;
}
