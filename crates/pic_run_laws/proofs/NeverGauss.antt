-- A deck without E whose species come in couples meets Gauss's law where its run begins.
use Rattle.std.proofs.Common.{◌≡◌, ℕ, Option, Some, None, Result, Ok, Err, refl, subst}
use Rattle.pic_charge.specs.declared.breaks.Break.{Break}
use Rattle.pic_charge.specs.Charge.{rho_of}
use Rattle.pic_charge.proofs.BreakLaws.{gauss_none}
use Rattle.pic_grid.specs.Parts.{one_part}
use Rattle.pic_grid.specs.declared.stop.EndMark.{EndMark}
use Rattle.pic_grid.specs.declared.stop.EndMark.TheVariants.{Done as EndDone, Stopped as EndStopped}
use Rattle.pic_deck.specs.declared.refusal.Refusal.{Refusal}
use Rattle.pic_deck.specs.Deck.{DeckView}
use Rattle.pic_displace.specs.Couples.{HasNoE, InCouples}
use Rattle.pic_displace.specs.Displace.{displaced_allowed}
use Rattle.pic_displace.proofs.CoupleLaws.{couples_meet_gauss}
use Rattle.pic_line.specs.declared.asked.Command.{Command}
use Rattle.pic_line.specs.declared.asked.Command.TheVariants.{Check, Run, Verify, Demo, Upgrade, Resume, Probe}
use Rattle.pic_load.specs.Loading.{loaded}
use Rattle.pic_report.specs.declared.ended.Ended.{Ended}
use Rattle.pic_report.specs.declared.ended.Ended.TheVariants.{Checked, Refused, Gauss}
use Rattle.pic_open.specs.DeckEnd.{Staged, ◌>>=◌}
use Rattle.pic_report.specs.Outcome.{Outcome}
use Rattle.pic_open.specs.Stages.{accepted, unless_gauss_fails, unless_too_strong, gauss_tested, tested}
use Rattle.pic_run.specs.DeckOutcome.{on_deck, check_outcome, run_outcome, probe_outcome}
use Rattle.pic_report.specs.Outcome.{answer_of}
use Rattle.pic_run.specs.Commands.{manner_of, outcome}
use Rattle.pic_open.specs.Starting.{first_state, state_break}
use Rattle.pic_step.specs.SerialStep.{World, e_of}
use Rattle.pic_run_laws.specs.KeptDecks.{IsKeptDeck}
use Rattle.pic_run_laws.specs.NeverGauss.{TakesDeck, CouplesAreNeverGauss}
use Rattle.pic_run_laws.proofs.LoadedLaws.{are_loaded}

-- no node of its first state breaks the law
neutral_start : (d : DeckView) → IsKeptDeck d → HasNoE d → InCouples d.species → state_break (first_state d) ≡ None
unfolding state_break
neutral_start d kept no_e couples =
    let w : World = first_state d in
    gauss_none w.side w.filter w.cells w.kinds w.particles (e_of w) (rho_of w.side w.filter w.cells w.kinds w.particles) (λ p within. refl)
    (couples_meet_gauss d one_part kept.limits (are_loaded d kept) no_e couples)

-- so its answer is that it is refused for its displaced start, or what is made of it
never : (d : DeckView) (b : Break) (performed : DeckView → Outcome) (r : Result (Unit {0}) Refusal) → state_break (first_state d) ≡ None
    → ((performed d).answer ≡ Gauss b → ⊥) → (on_deck performed (unless_too_strong d r >>= gauss_tested)).answer ≡ Gauss b → ⊥
never d b performed (Ok _) none other is = other (subst (λ (o : Option Break). (on_deck performed (unless_gauss_fails d o)).answer ≡ Gauss b) none is)
never d b performed (Err refusal) none other is = absurd (let e : ◌≡◌ {A = Ended} (Refused refusal) (Gauss b) = is in cc)

-- a run doesn't end so
no_end : (end : EndMark) (b : Break) → answer_of end ≡ Gauss b → ⊥
no_end (EndDone steps) b is = absurd cc
no_end (EndStopped step stop) b is = absurd cc

no_check : (particles : ℕ) (b : Break) → ◌≡◌ {A = Ended} (Checked particles) (Gauss b) → ⊥
no_check particles b is = absurd cc

pub couples_are_never_gauss : CouplesAreNeverGauss
unfolding outcome
couples_are_never_gauss words command given d b is takes accepts kept no_e couples answered =
    go command takes (subst (λ (c : Option Command). ((manner_of c).outcome given).answer ≡ Gauss b) is answered)
  where
    over : (performed : DeckView → Outcome) → ((performed d).answer ≡ Gauss b → ⊥) → (on_deck performed (accepted given >>= tested)).answer ≡ Gauss b → ⊥
    over performed other so = never d b performed (displaced_allowed d (loaded d)) (neutral_start d kept no_e couples) other
        (subst (λ (r : Staged DeckView). (on_deck performed (r >>= tested)).answer ≡ Gauss b) accepts so)

    go : (c : Command) → TakesDeck c → ((manner_of (Some c)).outcome given).answer ≡ Gauss b → ⊥
    go Check takes' so = over check_outcome (no_check _ b) so
    go (Run workers) takes' so = over run_outcome (no_end _ b) so
    go (Probe workers) takes' so = over probe_outcome (no_end _ b) so
    go Verify takes' so = takes'
    go (Demo seed workers) takes' so = takes'
    go Upgrade takes' so = takes'
    go (Resume steps workers tiles) takes' so = takes'
