-- Commands on a deck: how they end, from how the deck was opened, and what their answers mean.
use Rattle.std.proofs.Common.{◌≡◌, ℕ, List, [], take, Option, Some, None, Result, Ok, Err, refl, sym, ap, ◌∙◌, subst, arith}
use Rattle.std.specs.Prelude.{IsOk}
use Rattle.pic_io.specs.Told.{Told, Calm}
use Rattle.pic_io.specs.Sinks.{Sinks, Wrote}
use Rattle.pic_grid.specs.declared.stop.EndMark.{EndMark}
use Rattle.pic_grid.specs.declared.stop.EndMark.TheVariants.{Done as EndDone, Stopped as EndStopped}
use Rattle.pic_grid.specs.declared.stop.Stop.{Stop}
use Rattle.pic_grid.specs.Differences.{div_e}
use Rattle.pic_grid.specs.Lattice.{value_at}
use Rattle.pic_charge.specs.declared.breaks.Break.{Break}
use Rattle.pic_charge.specs.Charge.{rho_of}
use Rattle.pic_charge.proofs.BreakLaws.{first_break_some}
use Rattle.pic_deck.specs.Deck.{DeckView}
use Rattle.pic_deck.specs.declared.refusal.Refusal.{Refusal}
use Rattle.pic_deck.specs.Refusal.{ReadDeck}
use Rattle.pic_deck.specs.Reading.{walk}
use Rattle.pic_load.specs.Loading.{loaded}
use Rattle.pic_displace.specs.Displace.{displaced_allowed}
use Rattle.pic_step.specs.SerialStep.{World, e_of}
use Rattle.pic_step.specs.Sound.{IsSound}
use Rattle.pic_step.proofs.AfterLaws.{step_after}
use Rattle.pic_report.specs.declared.cut.Cut.{Cut}
use Rattle.pic_open.specs.declared.stage_stop.StageStop.{StageStop}
use Rattle.pic_open.specs.declared.stage_stop.StageStop.TheVariants.{Answer, NoMemory as StageNoMemory}
use Rattle.pic_report.specs.declared.ended.Ended.{Ended}
use Rattle.pic_report.specs.declared.ended.Ended.TheVariants.{Done, Stopped, NoMemory}
use Rattle.pic_open.specs.declared.opening_deck.Opened.{Opened}
use Rattle.pic_open.specs.DeckEnd.{DeckEnd, Unread, Unfit, Unmet, Staged, ◌>>=◌, ended_at}
use Rattle.pic_report.specs.Ended.{ended_of}
use Rattle.pic_states.specs.Frames.{end_of_run}
use Rattle.pic_open.specs.Starting.{first_state, state_break}
use Rattle.pic_states.specs.EachGauss.{IsGauss}
use Rattle.pic_open.specs.DeckReading.{deck_limit}
use Rattle.pic_report.specs.Reading.{Given, Held, Failed, FailedBehind, Gave}
use Rattle.pic_report.specs.Outcome.{Outcome, answer_of, early_outcome}
use Rattle.pic_open.specs.Stages.{unless_refused, unless_gauss_fails, unless_too_strong, accepted, gauss_tested, tested, opened}
use Rattle.pic_run.specs.DeckOutcome.{on_deck, check_outcome, run_outcome, probe_outcome}
use Rattle.pic_report.specs.Leaves.{Leaving, ComesTo, Fulfils, LeavesNothing, LeavesWhole}
use Rattle.pic_report.specs.Finishes.{Finishes, Announces}
use Rattle.pic_open.specs.Stops.{EndsStopped}
use Rattle.pic_open.specs.Opened.{Opens}
use Rattle.pic_report.specs.Manner.{Call, Performs}
use Rattle.pic_run.specs.OnDeck.{ReadsDeck, HasDeck, IsRefusedSo, IsLeastBreakOf, IsRunDone, IsStopped, RunMeans, on_given_deck}
use Rattle.pic_run.specs.Check.{CheckMeans, checking}
use Rattle.pic_run.specs.Run.{running}
use Rattle.pic_run.specs.Probe.{probing}
use Rattle.pic_report.specs.Meaning.{MeansIn}
use Rattle.pic_report.proofs.EndLaws.{finished, announced, starved, fed, told_held, gave_held, gave_failed, HasFailed}
use Rattle.pic_states.proofs.StateLaws.{each_gauss, run_ends}
use Rattle.pic_open.proofs.StartLaws.{gauss_of}

-- the end of a deck isn't want of memory
pub not_wanted : (end : DeckEnd) → ended_at end ≡ NoMemory → ⊥
not_wanted Unread same = cc
not_wanted (Unfit refusal) same = cc
not_wanted (Unmet b) same = cc

calm_opened : (source source' : Told) (front : List ℕ) (given : Given) (d : DeckView) → Gave source source' front given
    → opened given ≡ Ok d → Calm source source'
calm_opened source source' front (Failed taken) d gave is = let other : ◌≡◌ {A = Staged DeckView} (Err Unread) (Ok d) = is in cc
calm_opened source source' front (FailedBehind held whole) d gave is = let other : ◌≡◌ {A = Staged DeckView} (Err Unread) (Ok d) = is in cc
calm_opened source source' front (Held held) d gave is = gave.0

-- nothing was read because memory was wanting
pub none_read : (source' : Told) (given : Given) (ended : Ended) → ended ≡ NoMemory → ReadsDeck source' given ended
none_read source' given ended wanted = record {
  end = λ whole. absurd (whole wanted);
  short = λ whole. absurd (whole wanted);
  sound = λ whole. absurd (whole wanted);
}

-- a stage was stopped
pub on_stopped : (performed : DeckView → Outcome) (leaves : Leaving) (own : Call → Ended → Type 0) (stop : StageStop) (source source' : Told)
    (before now : Sinks)
    (finish : Result Ended Cut) → ((o : Outcome) → Wrote before now [] [] → leaves o before now) → Opens source source' (Err stop)
    → EndsStopped stop before now finish → Performs (on_given_deck performed leaves own) source source' before now (ended_of finish)
on_stopped performed leaves own (Answer why) source source' before now finish nothing opens ends =
    let is = opens.opens.early in
    let o = early_outcome (ended_at is.end) in
    let says : Announces o before now finish = subst (λ (a : Ended). Announces (early_outcome a) before now finish) is.answer ends in
    record {
      read = opens.read;
      calm = λ wanted. absurd (fed o before now finish (not_wanted is.end) says wanted);
      reads = record {
        end = λ _. opens.opens.end;
        short = λ _. opens.opens.short;
        sound = λ _ d e. let other : ◌≡◌ {A = Staged DeckView} (Err is.end) (Ok d) = sym is.is ∙ e in cc;
      };
      comes = subst (λ (s : Staged DeckView). ComesTo leaves (on_deck performed s) before now (ended_of finish)) (sym is.is)
          (announced leaves o before now finish says);
    }
on_stopped performed leaves own StageNoMemory source source' before now finish nothing opens (is, wrote) =
    let o = on_deck performed (opened opens.read.given) in
    record {
      read = opens.read;
      calm = λ _. opens.opens;
      reads = none_read source' opens.read.given (ended_of finish) (ap ended_of is);
      comes = starved leaves o before now finish is (nothing o wrote);
    }

pub ok_is : (d e : DeckView) → ◌≡◌ {A = Staged DeckView} (Ok d) (Ok e) → d ≡ e
ok_is d e same = cc

-- the deck was opened
pub on_opened : (performed : DeckView → Outcome) (leaves : Leaving) (own : Call → Ended → Type 0) (o : Opened) (source source' : Told) (before now : Sinks)
    (finish : Result Ended Cut) → Opens source source' (Ok o) → Finishes leaves (performed o.deck) before now finish
    → Performs (on_given_deck performed leaves own) source source' before now (ended_of finish)
on_opened performed leaves own o source source' before now finish opens ends =
    let is = opens.opens in
    record {
      read = opens.read;
      calm = λ _. calm_opened source source' opens.read.front opens.read.given o.deck opens.read.gave is.deck;
      reads = record {
        end = λ _ d e. is.end;
        short = λ _ _ _ _. is.end;
        sound = λ _ d e. subst (λ (k : DeckView). IsSound (first_state k)) (ok_is o.deck d (sym is.deck ∙ e))
            (subst IsSound is.begins.start is.begins.sound);
      };
      comes = subst (λ (s : Staged DeckView). ComesTo leaves (on_deck performed s) before now (ended_of finish)) (sym is.deck)
          (finished leaves (performed o.deck) before now finish ends);
    }

-- where the value of the stages of a deck comes from
abbrev IsFrom : Given → Staged DeckView → Type 0
IsFrom given (Ok d) = (held : List ℕ) × (given ≡ Held held) × (walk (take deck_limit held) ≡ Ok d) × (state_break (first_state d) ≡ None)
IsFrom given (Err Unread) = HasFailed given
IsFrom given (Err (Unfit refusal)) = (held : List ℕ) × (given ≡ Held held) × IsRefusedSo refusal (walk (take deck_limit held))
IsFrom given (Err (Unmet b)) =
    (held : List ℕ) × (d : DeckView) × (given ≡ Held held) × (walk (take deck_limit held) ≡ Ok d) × (state_break (first_state d) ≡ Some b)

from : (given : Given) → IsFrom given (opened given)
from (Failed front) = tt
from (FailedBehind held whole) = tt
from (Held held) = go (walk (take deck_limit held)) refl
  where
    test : (d : DeckView) → walk (take deck_limit held) ≡ Ok d → (b : Option Break) → state_break (first_state d) ≡ b
        → IsFrom (Held held) (unless_gauss_fails d b)
    test d walked None is = (held, refl, walked, is)
    test d walked (Some b) is = (held, d, refl, walked, is)

    fit : (d : DeckView) → walk (take deck_limit held) ≡ Ok d → (r : Result (Unit {0}) Refusal) → displaced_allowed d (loaded d) ≡ r
        → IsFrom (Held held) (unless_too_strong d r >>= gauss_tested)
    fit d walked (Err refusal) is = (held, refl, subst (IsRefusedSo refusal) (sym walked) is)
    fit d walked (Ok _) is = test d walked (state_break (first_state d)) refl

    go : (w : ReadDeck) → walk (take deck_limit held) ≡ w
        → IsFrom (Held held) (unless_refused w >>= tested)
    go (Err refusal) walked = (held, refl, subst (IsRefusedSo refusal) (sym walked) refl)
    go (Ok d) walked = fit d walked (displaced_allowed d (loaded d)) refl

pub least_of : (w : World) (b : Break) → state_break w ≡ Some b → IsLeastBreakOf w b
unfolding state_break
least_of w b found = first_break_some w.cells (div_e w.cells (value_at (e_of w))) (rho_of w.side w.filter w.cells w.kinds w.particles) b found

accepted_in : (given : Given) (held : List ℕ) (d : DeckView) → given ≡ Held held → walk (take deck_limit held) ≡ Ok d → accepted given ≡ Ok d
accepted_in given held d is walked = ap accepted is ∙ ap unless_refused walked

-- what the answers mean of a command on the deck that its source gives
module _ (performed : DeckView → Outcome) (leaves : Leaving) (own : Call → Ended → Type 0) (c : Call) (ended : Ended)
    (p : Performs (on_given_deck performed leaves own) c.source c.source_now c.sinks c.sinks_now ended) where
  has_deck : (held : List ℕ) (d : DeckView) → (ended ≡ NoMemory → ⊥) → p.read.given ≡ Held held → walk (take deck_limit held) ≡ Ok d → HasDeck c d
  has_deck held d whole same walked = record {
    held = told_held (λ bytes. walk (take deck_limit bytes) ≡ Ok d) c.source.bytes held
        (gave_held c.source c.source_now p.read.front p.read.given held p.read.gave same) walked;
    end = p.reads.end whole d (accepted_in p.read.given held d same walked);
  }

  means_end : (end : DeckEnd) → IsFrom p.read.given (Err end) → Fulfils (early_outcome (ended_at end)) c.sinks c.sinks_now ended
      → MeansIn (on_given_deck performed leaves own) c (ended_at end)
  means_end Unread failed ends = record {
    rose = gave_failed c.source c.source_now p.read.front p.read.given p.read.gave failed;
    calm_out = ends.wrote.calm_out;
    calm_report = ends.wrote.calm_report;
  }
  means_end (Unfit refusal) (held, same, refused) ends =
      told_held (λ bytes. IsRefusedSo refusal (walk (take deck_limit bytes))) c.source.bytes held
      (gave_held c.source c.source_now p.read.front p.read.given held p.read.gave same) refused
  means_end (Unmet b) (held, d, same, walked, found) ends = record {
    deck = d;
    held = has_deck held d (λ wanted. not_wanted (Unmet b) (ends.answers ∙ wanted)) same walked;
    least = least_of (first_state d) b found;
  }

  pub deck_means : ((d : DeckView) → (performed d).answer ≡ NoMemory → ⊥)
      → ((d : DeckView) → HasDeck c d → IsSound (first_state d) → IsGauss (first_state d) → MeansIn (on_given_deck performed leaves own) c (performed d).answer)
      → Fulfils (on_deck performed (opened p.read.given)) c.sinks c.sinks_now ended
      → MeansIn (on_given_deck performed leaves own) c (on_deck performed (opened p.read.given)).answer
  deck_means other say ends = go (opened p.read.given) refl (from p.read.given) ends
    where
      go : (s : Staged DeckView) → opened p.read.given ≡ s → IsFrom p.read.given s → Fulfils (on_deck performed s) c.sinks c.sinks_now ended
          → MeansIn (on_given_deck performed leaves own) c (on_deck performed s).answer
      go (Err end) is from ends' = means_end end from ends'
      go (Ok d) is (held, same, walked, none) ends' =
          let whole : ended ≡ NoMemory → ⊥ = λ wanted. other d (ends'.answers ∙ wanted) in
          say d (has_deck held d whole same walked) (p.reads.sound whole d is) (gauss_of (first_state d) none)

-- how a run ends from the first state of its deck
pub deck_ends : (Has : DeckView → Type 0) (P : Ended → Type 0) → ((steps : ℕ) → IsRunDone Has steps → P (Done steps))
    → ((step : ℕ) (stop : Stop) → IsStopped Has step stop → P (Stopped step stop)) → (d : DeckView) → Has d → IsSound (first_state d)
    → P (answer_of (end_of_run d.steps (first_state d)))
deck_ends Has P done stopped d has sound =
    run_ends (first_state d) d.steps P
    (λ v reached. done v.step (record {
      deck = d;
      held = has;
      gauss = each_gauss (first_state d) sound;
      last = let came = step_after (first_state d) v d.steps reached in omega (arith, came);
      reached = subst IsOk (sym reached) refl;
    }))
    (λ step stop stops. stopped step stop (record { deck = d; held = has; gauss = each_gauss (first_state d) sound; stops = stops }))

-- nor is the end of a run
pub not_of_run : (end : EndMark) → answer_of end ≡ NoMemory → ⊥
not_of_run (EndDone steps) same = cc
not_of_run (EndStopped step stop) same = cc

pub check_means : (c : Call) (ended : Ended) (p : Performs checking c.source c.source_now c.sinks c.sinks_now ended)
    → Fulfils (checking.outcome p.read.given) c.sinks c.sinks_now ended → MeansIn checking c (checking.outcome p.read.given).answer
check_means c ended p =
    deck_means check_outcome LeavesNothing CheckMeans c ended p (λ d same. cc)
    (λ d has sound gauss. record { deck = d; held = has; gauss = gauss; count = refl })

pub run_means : (workers : ℕ) (c : Call) (ended : Ended) (p : Performs (running workers) c.source c.source_now c.sinks c.sinks_now ended)
    → Fulfils ((running workers).outcome p.read.given) c.sinks c.sinks_now ended → MeansIn (running workers) c ((running workers).outcome p.read.given).answer
run_means workers c ended p =
    deck_means run_outcome (LeavesWhole workers) (λ call. RunMeans (HasDeck call)) c ended p
    (λ d same. not_of_run (end_of_run d.steps (first_state d)) same)
    (λ d has sound gauss. deck_ends (HasDeck c) (MeansIn (running workers) c) (λ steps is. is) (λ step stop is. is) d has sound)

pub probe_means : (workers : ℕ) (c : Call) (ended : Ended) (p : Performs (probing workers) c.source c.source_now c.sinks c.sinks_now ended)
    → Fulfils ((probing workers).outcome p.read.given) c.sinks c.sinks_now ended → MeansIn (probing workers) c ((probing workers).outcome p.read.given).answer
probe_means workers c ended p =
    deck_means probe_outcome (LeavesWhole workers) (λ call. RunMeans (HasDeck call)) c ended p
    (λ d same. not_of_run (end_of_run d.steps (first_state d)) same)
    (λ d has sound gauss. deck_ends (HasDeck c) (MeansIn (probing workers) c) (λ steps is. is) (λ step stop is. is) d has sound)
