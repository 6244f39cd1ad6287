-- What each answer of a call means, and that a call is complete.
use Rattle.std.proofs.Common.{◌≡◌, ◌⊎◌, inl, inr, refl, sym, subst}
use Rattle.std.specs.Prelude.{IfSome}
use Rattle.pic_io.specs.Sinks.{Sinks, FailedAt, QuietSinks}
use Rattle.pic_io.specs.declared.side.Side.{Side}
use Rattle.pic_io.specs.declared.side.Side.TheVariants.{Out, Report}
use Rattle.pic_io.proofs.Puts.{cut_failed}
use Rattle.pic_line.specs.CommandLine.{command_of}
use Rattle.pic_report.specs.declared.ended.Ended.{Ended}
use Rattle.pic_report.specs.declared.ended.Ended.TheVariants.{NoMemory}
use Rattle.pic_report.specs.Reading.{Given, Held, Failed, FailedBehind, Gave}
use Rattle.pic_report.specs.Outcome.{Outcome, pieces_of}
use Rattle.pic_report.specs.Leaves.{Leaving, Fulfils, ComesTo}
use Rattle.pic_report.specs.Manner.{Call}
use Rattle.pic_run.specs.Commands.{outcome}
use Rattle.pic_run.specs.Ends.{manner_in, Ends, IsComplete, Means}
use Rattle.pic_report.specs.Meaning.{MeansIn}
use Rattle.pic_report.proofs.EndLaws.{told_held}
use Rattle.pic_run.proofs.CommandLaws.{means_of}

pub means : (c : Call) (ended : Ended) → Ends c ended → Means c ended
means c ended p = elim (p.comes) [
  | inl whole ↦ subst (MeansIn (manner_in c) c) whole.answers (means_of (command_of c.words) c ended refl p whole)
  | inr (inl cut) ↦
      subst (MeansIn (manner_in c) c) (sym cut.failed) (cut_failed cut.side c.sinks c.sinks_now (pieces_of ((manner_in c).outcome p.read.given)) cut.cut)
  | inr (inr starved) ↦ subst (MeansIn (manner_in c) c) (sym starved.wanted) (record { calm = p.calm starved.wanted; read = p.read; left = starved.left })
]

-- a side that failed isn't quiet
failed_quiet : (side : Side) (before now : Sinks) → FailedAt side before now → QuietSinks before now → ⊥
failed_quiet Out before now failed quiet = quiet.out failed.0
failed_quiet Report before now failed quiet = quiet.report failed.0

fulfilled : (leaves : Leaving) (o : Outcome) (before now : Sinks) (ended : Ended) → ComesTo leaves o before now ended → QuietSinks before now
    → (ended ≡ NoMemory) ⊎ Fulfils o before now ended
fulfilled leaves o before now ended (inl whole) quiet = inr whole
fulfilled leaves o before now ended (inr (inl cut)) quiet =
    absurd (failed_quiet cut.side before now (cut_failed cut.side before now (pieces_of o) cut.cut) quiet)
fulfilled leaves o before now ended (inr (inr starved)) quiet = inl starved.wanted

pub complete : (c : Call) (ended : Ended) → Ends c ended → IsComplete c ended
unfolding outcome
complete c ended p calm quiet = go p.read.given p.read.gave p.comes
  where
    go : (given : Given) → Gave c.source c.source_now p.read.front given
        → ComesTo (manner_in c).leaves ((manner_in c).outcome given) c.sinks c.sinks_now ended
        → IfSome c.source.bytes (λ h. (ended ≡ NoMemory) ⊎ Fulfils (outcome c.words (Held h)) c.sinks c.sinks_now ended)
    go (Failed taken) gave comes = absurd (calm gave.0)
    go (FailedBehind held whole) gave comes = absurd (calm gave.0)
    go (Held held) gave comes =
        told_held (λ h. (ended ≡ NoMemory) ⊎ Fulfils (outcome c.words (Held h)) c.sinks c.sinks_now ended) c.source.bytes held gave.1
        (fulfilled (manner_in c).leaves (outcome c.words (Held held)) c.sinks c.sinks_now ended comes quiet)
