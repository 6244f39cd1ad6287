-- A call, and a command, as what it does with its source and its sinks.
use Rattle.std.specs.Prelude.{◌≡◌, ℕ, List}
use Rattle.pic_io.specs.Told.{Told, Calm}
use Rattle.pic_io.specs.Sinks.{Sinks}
use Rattle.pic_report.specs.declared.ended.Ended.{Ended}
use Rattle.pic_report.specs.declared.ended.Ended.TheVariants.{NoMemory}
use Rattle.pic_report.specs.Outcome.{Outcome}
use Rattle.pic_report.specs.Reading.{Given, Reading}
use Rattle.pic_report.specs.Leaves.{Leaving, ComesTo}

-- a call: its words, and its source and its sinks before it and behind it
pub record Call : Type 0 where
  pub words : List (List ℕ)
  pub source : Told
  pub source_now : Told
  pub sinks : Sinks
  pub sinks_now : Sinks

abbrev pub call : List (List ℕ) → Told → Told → Sinks → Sinks → Call
call said from left before now = record {
  words = said;
  source = from;
  source_now = left;
  sinks = before;
  sinks_now = now;
}

-- a command, or what the words do that are none
pub record Manner : Type 1 where
  -- the outcome for what the source gave
  pub outcome : Given → Outcome
  -- what stands on the sinks where memory was wanting
  pub leaves : Leaving
  -- what is taken of the source at most, by the source before and behind the call
  pub takes : Told → Told → List ℕ → Type 0
  -- how far the source was read, for what it gave and for how the call ended
  pub reads : Told → Told → Given → Ended → Type 0
  -- what each of its own answers means
  pub means : Call → Ended → Type 0

-- a call that goes in this manner ends so
pub record Performs (m : Manner) (source source' : Told) (before now : Sinks)
    (ended : Ended) : Type 0 where
  pub read : Reading (m.takes source source') source source'
  pub calm : ended ≡ NoMemory → Calm source source'
  pub reads : m.reads source source' read.given ended
  pub comes : ComesTo m.leaves (m.outcome read.given) before now ended
