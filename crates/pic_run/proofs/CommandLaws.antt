-- What holds of every command: a row each.
use Rattle.std.proofs.Common.{◌≡◌, [], Option, Some, None, inl, inr, refl, sym, subst, arith}
use Rattle.std.specs.Prelude.{unwrap_or}
use Rattle.pic_io.specs.Told.{Told}
use Rattle.pic_io.specs.Sinks.{Sinks}
use Rattle.pic_io.proofs.Puts.{wrote_none}
use Rattle.pic_line.specs.declared.asked.Command.{Command}
use Rattle.pic_line.specs.declared.asked.Command.TheVariants.{Check, Run, Verify, Demo, Upgrade, Resume, Probe}
use Rattle.pic_line.specs.CommandLine.{command_of}
use Rattle.pic_report.specs.declared.ended.Ended.{Ended}
use Rattle.pic_report.specs.declared.ended.Ended.TheVariants.{NoMemory}
use Rattle.pic_report.specs.Reading.{Held}
use Rattle.pic_report.specs.Leaves.{Fulfils}
use Rattle.pic_report.specs.Manner.{Call, Manner, Performs}
use Rattle.pic_run.specs.Commands.{manner_of}
use Rattle.pic_report.specs.Meaning.{MeansIn}
use Rattle.pic_run.proofs.UntakenLaws.{untouched}
use Rattle.pic_run.proofs.DeckLaws.{none_read, check_means, run_means, probe_means}
use Rattle.pic_run.proofs.DemoLaws.{demo_means}
use Rattle.pic_on_dump.proofs.VerifyLaws.{verify_starved, verify_means}
use Rattle.pic_on_dump.proofs.UpgradeLaws.{upgrade_starved, upgrade_means}
use Rattle.pic_on_dump.proofs.ResumeLaws.{resume_starved, resume_means}

-- the command of the words
pub by_name : (named found : Option Command) (source source' : Told) (before now : Sinks) (ended : Ended) → named ≡ found
    → Performs (manner_of found) source source' before now ended → Performs (manner_of named) source source' before now ended
by_name named found source source' before now ended is =
    subst (λ (k : Option Command). Performs (manner_of k) source source' before now ended) (sym is)

-- a call that took nothing and put nothing, for want of memory
at_once : (m : Manner) (source : Told) (before : Sinks) → m.takes source source [] → m.reads source source (Held (unwrap_or source.bytes [])) NoMemory
    → m.leaves (m.outcome (Held (unwrap_or source.bytes []))) before before → Performs m source source before before NoMemory
at_once m source before takes reads left = record {
  read = untouched source takes;
  calm = λ _. refl;
  reads = reads;
  comes = inr (inr (record { wanted = refl; left = left }));
}

-- memory was wanting before the words were read
pub starved_words : (k : Option Command) (source : Told) (before : Sinks) → Performs (manner_of k) source source before before NoMemory
starved_words None source before = at_once (manner_of None) source before refl tt (wrote_none before)
starved_words (Some Check) source before =
    at_once (manner_of (Some Check)) source before (omega arith) (none_read source _ NoMemory refl) (wrote_none before)
starved_words (Some (Run workers)) source before =
    at_once (manner_of (Some (Run workers))) source before (omega arith) (none_read source _ NoMemory refl) (inl (wrote_none before))
starved_words (Some Verify) source before = verify_starved source before
starved_words (Some (Demo seed workers)) source before =
    at_once (manner_of (Some (Demo seed workers))) source before refl (λ whole. absurd (whole refl)) (inl (wrote_none before))
starved_words (Some Upgrade) source before = upgrade_starved source before
starved_words (Some (Resume steps workers tiles)) source before = resume_starved steps tiles source before
starved_words (Some (Probe workers)) source before =
    at_once (manner_of (Some (Probe workers))) source before (omega arith) (none_read source _ NoMemory refl) (inl (wrote_none before))

-- the outcome's answer means what the command says
pub means_of : (k : Option Command) (c : Call) (ended : Ended) → command_of c.words ≡ k
    → (p : Performs (manner_of k) c.source c.source_now c.sinks c.sinks_now ended)
    → Fulfils ((manner_of k).outcome p.read.given) c.sinks c.sinks_now ended → MeansIn (manner_of k) c ((manner_of k).outcome p.read.given).answer
means_of None c ended named p ends = named
means_of (Some Check) c ended named p ends = check_means c ended p ends
means_of (Some (Run workers)) c ended named p ends = run_means workers c ended p ends
means_of (Some Verify) c ended named p ends = verify_means c ended p ends
means_of (Some (Demo seed workers)) c ended named p ends = demo_means seed workers c ended p ends
means_of (Some Upgrade) c ended named p ends = upgrade_means c ended p ends
means_of (Some (Resume steps workers tiles)) c ended named p ends = resume_means steps tiles c ended p ends
means_of (Some (Probe workers)) c ended named p ends = probe_means workers c ended p ends
