-- The laws of a deck's dump, and of the two commands.
use Rattle.std.proofs.Common.{◌≡◌, ℕ, List, length, Option, Some, Ok, Err, refl, sym, ap, ◌∙◌, subst}
use Rattle.std.proofs.lemmas.List.Elements.{All-map}
use Rattle.pic_grid.specs.Species.{HeadView}
use Rattle.pic_deck.specs.Deck.{DeckView}
use Rattle.pic_header.specs.Header.{HasMultipliers}
use Rattle.pic_line.specs.declared.asked.Command.{Command}
use Rattle.pic_line.specs.declared.asked.Command.TheVariants.{Verify}
use Rattle.pic_line.specs.CommandLine.{command_of}
use Rattle.pic_record.specs.Layout.{layout_of}
use Rattle.pic_report.specs.declared.ended.Ended.TheVariants.{Verified}
use Rattle.pic_open.specs.DeckEnd.{DeckEnd, Unread, Unfit, Unmet, Staged, ◌>>=◌, ended_at}
use Rattle.pic_report.specs.Reading.{Given, Held}
use Rattle.pic_report.specs.Outcome.{Outcome, out_text}
use Rattle.pic_open.specs.Stages.{accepted, tested}
use Rattle.pic_run.specs.DeckOutcome.{on_deck, run_outcome}
use Rattle.pic_on_dump.specs.Verdict.{verdict_outcome}
use Rattle.pic_run.specs.Commands.{manner_of, outcome}
use Rattle.pic_on_dump.specs.Resume.{HasRun}
use Rattle.pic_run.specs.RunHeader.{header_of}
use Rattle.pic_open.specs.Starting.{first_state}
use Rattle.pic_verify.specs.Verified.{Verdict, verified}
use Rattle.pic_run_laws.specs.FramesGiveStates.{FramesGiveStates}
use Rattle.pic_run_laws.specs.KeptDecks.{IsKeptDeck}
use Rattle.pic_run_laws.specs.RunsAreRead.{RunsAreRead}
use Rattle.pic_run_laws.specs.RunsAreVerified.{RunsAreVerified, RunsAreFoundGood}
use Rattle.pic_run_laws.proofs.RunLaws.{run_read, run_verified}
use Rattle.pic_run_laws.proofs.StartLaws.{header_kept, same_deck, start_good}
use Rattle.pic_run_laws.proofs.StateFits.{StopsFit, of_after, loops_after, stands}
use Rattle.pic_run_laws.proofs.StepStops.{stops_fit}

-- what stops a step of a kept deck's run can be said in its dump
pub fit_of : (d : DeckView) → IsKeptDeck d → StopsFit (layout_of (header_of d))
fit_of d kept =
    let h = header_of d in
    let header = header_kept d kept in
    stops_fit (layout_of h) header.scales (All-map HasMultipliers (λ (s : HeadView). s.kind) h.species header.kinds)

pub runs_are_read : RunsAreRead
runs_are_read d kept passes = run_read (header_of d) (header_kept d kept) (first_state d) refl (fit_of d kept) (start_good d kept passes)

pub runs_are_verified : RunsAreVerified
runs_are_verified d kept passes = run_verified (header_of d) (header_kept d kept) (first_state d) refl (fit_of d kept) (start_good d kept passes)

pub frames_give_states : FramesGiveStates
frames_give_states d n v kept passes reached =
    let l = layout_of (header_of d) in
    stands (header_of d) v (of_after l (first_state d) (start_good d kept passes).of n v reached) (loops_after (first_state d) n v reached)

-- why a deck isn't run is no answer of a run
not_early : (end : DeckEnd) → HasRun (ended_at end) → ⊥
not_early Unread of = of
not_early (Unfit refusal) of = of
not_early (Unmet b) of = of

-- what the command `verify` answers over what an outcome put on out
VerifiesAs : List (List ℕ) → Outcome → Type 0
VerifiesAs verify_words o = (outcome verify_words (Held (out_text o))).answer ≡ Verified (length o.frames)

verifies : (verify_words : List (List ℕ)) (text : List ℕ) (n : ℕ) → command_of verify_words ≡ Some Verify → verified text ≡ Ok n
    → (outcome verify_words (Held text)).answer ≡ Verified n
unfolding outcome
verifies verify_words text n is good =
    ap (λ (c : Option Command). ((manner_of c).outcome (Held text)).answer) is ∙ ap (λ (v : Verdict). (verdict_outcome v).answer) good

-- a deck whose run ends so passes it
pub passes_where : (d : DeckView) (r : Staged DeckView) → tested d ≡ r → HasRun (on_deck run_outcome r).answer → tested d ≡ Ok d
passes_where d (Err end) is of = absurd (not_early end of)
passes_where d (Ok e) is of = is ∙ ap (λ (g : DeckView). Ok g) (sym (same_deck d e is))

tested_good : (verify_words : List (List ℕ)) (d : DeckView) → command_of verify_words ≡ Some Verify → IsKeptDeck d
    → HasRun (on_deck run_outcome (tested d)).answer → VerifiesAs verify_words (on_deck run_outcome (tested d))
unfolding VerifiesAs
tested_good verify_words d verify_is kept of =
    let passes = passes_where d (tested d) refl of in
    subst (λ (r : Staged DeckView). VerifiesAs verify_words (on_deck run_outcome r)) (sym passes)
    (verifies verify_words (out_text (run_outcome d)) (length (run_outcome d).frames) verify_is (runs_are_verified d kept passes))

accepted_good : (verify_words : List (List ℕ)) (given : Given) (r : Staged DeckView) → command_of verify_words ≡ Some Verify
    → ((d : DeckView) → accepted given ≡ Ok d → IsKeptDeck d) → accepted given ≡ r → HasRun (on_deck run_outcome (r >>= tested)).answer
    → VerifiesAs verify_words (on_deck run_outcome (r >>= tested))
accepted_good verify_words given (Err end) verify_is kept is of = absurd (not_early end of)
accepted_good verify_words given (Ok d) verify_is kept is of = tested_good verify_words d verify_is (kept d is) of

pub runs_are_found_good : RunsAreFoundGood
unfolding outcome VerifiesAs
runs_are_found_good run_words verify_words workers given run_is verify_is kept of =
    let ran : (manner_of (command_of run_words)).outcome given ≡ on_deck run_outcome (accepted given >>= tested) =
    ap (λ (c : Option Command). (manner_of c).outcome given) run_is in
    let here : HasRun (on_deck run_outcome (accepted given >>= tested)).answer = subst (λ (o : Outcome). HasRun o.answer) ran of in
    subst (λ (o : Outcome). VerifiesAs verify_words o) (sym ran) (accepted_good verify_words given (accepted given) verify_is kept refl here)
