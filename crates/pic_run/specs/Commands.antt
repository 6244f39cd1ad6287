-- The commands, each as what it does.
use Rattle.std.specs.Prelude.{◌≡◌, ⊤, ℕ, List, Option, Some, None}
use Rattle.pic_line.specs.declared.asked.Command.{Command}
use Rattle.pic_line.specs.declared.asked.Command.TheVariants.{Check, Run, Verify, Demo, Upgrade, Resume, Probe}
use Rattle.pic_line.specs.CommandLine.{command_of}
use Rattle.pic_report.specs.declared.ended.Ended.TheVariants.{Usage}
use Rattle.pic_report.specs.Reading.{Given}
use Rattle.pic_report.specs.Outcome.{Outcome, early_outcome}
use Rattle.pic_report.specs.Leaves.{LeavesNothing}
use Rattle.pic_report.specs.Manner.{Manner}
use Rattle.pic_run.specs.Check.{checking}
use Rattle.pic_run.specs.Run.{running}
use Rattle.pic_on_dump.specs.Verify.{verifying}
use Rattle.pic_run.specs.Demo.{demonstrating}
use Rattle.pic_on_dump.specs.Upgrade.{upgrading}
use Rattle.pic_on_dump.specs.Resume.{resuming}
use Rattle.pic_run.specs.Probe.{probing}

-- words that are no command: nothing is taken, and the usage is told
abbrev pub no_command : Manner
no_command = record {
  outcome = λ given. early_outcome Usage;
  leaves = LeavesNothing;
  takes = λ source source' front. source' ≡ source;
  reads = λ source source' given ended. ⊤;
  means = λ c answer. ⊥;
}

abbrev pub manner_of : Option Command → Manner
manner_of None = no_command
manner_of (Some Check) = checking
manner_of (Some (Run workers)) = running workers
manner_of (Some Verify) = verifying
manner_of (Some (Demo seed workers)) = demonstrating seed workers
manner_of (Some Upgrade) = upgrading
manner_of (Some (Resume steps workers tiles)) = resuming steps tiles
manner_of (Some (Probe workers)) = probing workers

-- the outcome of some words, for what the source gave
unfoldable pub outcome : List (List ℕ) → Given → Outcome
outcome words given = (manner_of (command_of words)).outcome given
