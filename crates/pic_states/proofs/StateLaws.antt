-- The states of a serial run: each meets Gauss's law, and a stop alone ends them.
use Rattle.std.proofs.Common.{◌≡◌, ℕ, zero, suc, Result, Ok, Err, refl, subst}
use Rattle.pic_grid.specs.declared.stop.EndMark.{EndMark}
use Rattle.pic_grid.specs.declared.stop.EndMark.TheVariants.{Done, Stopped}
use Rattle.pic_grid.specs.declared.stop.Stop.{Stop}
use Rattle.pic_step.specs.SerialStep.{World, stepped}
use Rattle.pic_step.specs.SerialRun.{after, step_from, stopped_in}
use Rattle.pic_step.specs.Sound.{IsSound}
use Rattle.pic_step.proofs.AfterLaws.{after_sound}
use Rattle.pic_report.specs.declared.ended.Ended.{Ended}
use Rattle.pic_report.specs.declared.ended.Ended.TheVariants as ended
use Rattle.pic_states.specs.Frames.{end_where, end_of_run}
use Rattle.pic_report.specs.Outcome.{answer_of}
use Rattle.pic_states.specs.EachGauss.{EachGauss}

pub each_gauss : (w : World) → IsSound w → EachGauss w
each_gauss w sound = record { after_step = λ step v reached. let kept = after_sound w sound step v reached in kept.gauss }

-- a run stops by a stop alone
abbrev pub IsStop : EndMark → Type 0
IsStop (Done steps) = ⊥
IsStop (Stopped step stop) = Unit {0}

pub stops_by_stop : (w : World) (n : ℕ) (end : EndMark) → after w n ≡ Err end → IsStop end
unfolding after
stops_by_stop w zero end e = cc
stops_by_stop w (suc n) end e = go (after w n) (λ other is. stops_by_stop w n other is) e
  where
    last : (step : ℕ) (r : Result World Stop) → stopped_in step r ≡ Err end → IsStop end
    last step (Ok v) e' = cc
    last step (Err stop) e' = named e'
      where
        named : ◌≡◌ {A = Result World EndMark} (Err (Stopped step stop)) (Err end) → IsStop end
        named same = let is : Stopped step stop ≡ end = cc in subst IsStop is tt

    go : (r : Result World EndMark) → ((other : EndMark) → r ≡ Err other → IsStop other) → step_from r ≡ Err end → IsStop end
    go (Ok v) before e' = last (suc v.step) (stepped v) e'
    go (Err other) before e' = let same : other ≡ end = cc in subst IsStop same (before other refl)

-- how a run of so many steps ends: by its last state, or by a stop
pub run_ends : (w : World) (n : ℕ) (P : Ended → Type 0) → ((v : World) → after w n ≡ Ok v → P (ended.Done v.step))
    → ((step : ℕ) (stop : Stop) → after w n ≡ Err (Stopped step stop) → P (ended.Stopped step stop)) → P (answer_of (end_of_run n w))
unfolding end_of_run
run_ends w n P done stopped = go (after w n) refl
  where
    go : (r : Result World EndMark) → after w n ≡ r → P (answer_of (end_where r))
    go (Ok v) is = done v is
    go (Err (Done steps)) is = absurd (stops_by_stop w n (Done steps) is)
    go (Err (Stopped step stop)) is = stopped step stop is
