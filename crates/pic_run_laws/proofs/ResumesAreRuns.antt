-- The laws of resumed runs, and of the two commands.
use Rattle.std.proofs.Common.{◌≡◌, ℕ, ◌≤◌, List, Option, Some, Ok, refl, sym, ap, ◌∙◌, subst, arith}
use Rattle.pic_num.specs.Limits.{most_steps}
use Rattle.pic_deck.specs.Deck.{DeckView}
use Rattle.pic_line.specs.declared.asked.Command.{Command}
use Rattle.pic_line.specs.declared.asked.Command.TheVariants.{Run, Resume}
use Rattle.pic_line.specs.CommandLine.{command_of}
use Rattle.pic_open.specs.DeckEnd.{Staged, ◌>>=◌}
use Rattle.pic_report.specs.Reading.{Given, Held}
use Rattle.pic_report.specs.Outcome.{Outcome, out_text}
use Rattle.pic_open.specs.Stages.{accepted, tested}
use Rattle.pic_run.specs.DeckOutcome.{on_deck, run_outcome}
use Rattle.pic_states.specs.StatesOutcome.{dump_outcome}
use Rattle.pic_run.specs.Commands.{manner_of, outcome}
use Rattle.pic_on_dump.specs.Resume.{HasRun}
use Rattle.pic_run.specs.RunHeader.{header_of}
use Rattle.pic_open.specs.Starting.{first_state}
use Rattle.pic_run_laws.specs.KeptDecks.{IsKeptDeck}
use Rattle.pic_run_laws.specs.ResumesAreRuns.{deck_with_steps, resumed, ResumesAreRuns, ResumesJoin, ResumesAreFoundRuns}
use Rattle.pic_run_laws.proofs.ResumeLaws.{asked_fits, run_resumed}
use Rattle.pic_run_laws.proofs.RunsAreVerified.{fit_of, passes_where}
use Rattle.pic_run_laws.proofs.StartLaws.{header_kept, start_good}
use Rattle.pic_run_laws.proofs.OtherDecks.{same_first, tested_running, kept_running}

-- the deck with other steps: its run begins in the same state, so it passes the tests as well
tested_too : (steps : ℕ) (d : DeckView) → tested d ≡ Ok d → tested (deck_with_steps steps d) ≡ Ok (deck_with_steps steps d)
tested_too steps d = tested_running steps d.every d

-- and it is as its type keeps it
kept_too : (steps : ℕ) (d : DeckView) → steps ≤ most_steps → IsKeptDeck d → IsKeptDeck (deck_with_steps steps d)
kept_too steps d most kept = kept_running steps d.every d most kept.limits.settings.every_low kept.limits.settings.every_high kept

pub resumes_are_runs : ResumesAreRuns
resumes_are_runs d steps tiles kept passes can =
    run_resumed (header_of d) (header_kept d kept) (first_state d) refl (fit_of d kept) (start_good d kept passes) refl steps can.longer tiles
    (asked_fits steps tiles (header_of d) can.longer can.most can.tiles_fit)
    ∙ ap (dump_outcome (header_of (deck_with_steps steps d))) (sym (same_first steps d.every d))

pub resumes_join : ResumesJoin
resumes_join d first second tiles tiles' kept passes can can' =
    let all : d.steps ≤ second = let one = can.longer in let two = can'.longer in omega (arith, one, two) in
    ap (resumed second tiles') (resumes_are_runs d first tiles kept passes can)
    ∙ resumes_are_runs (deck_with_steps first d) second tiles' (kept_too first d can.most kept) (tested_too first d passes) can'
    ∙ sym (resumes_are_runs d second tiles' kept passes (record { longer = all; most = can'.most; tiles_fit = can'.tiles_fit }))

-- what the command `run` has over a source that gives a deck
ran : (words : List (List ℕ)) (workers : ℕ) (given : Given) (d : DeckView) → command_of words ≡ Some (Run workers) → accepted given ≡ Ok d
    → outcome words given ≡ on_deck run_outcome (tested d)
unfolding outcome
ran words workers given d is accepts =
    ap (λ (c : Option Command). (manner_of c).outcome given) is ∙ ap (λ (r : Staged DeckView). on_deck run_outcome (r >>= tested)) accepts

-- and the command `resume`, over one that holds an outcome's dump
goes_on : (words : List (List ℕ)) (workers steps : ℕ) (tiles : List ℕ) (o : Outcome) → command_of words ≡ Some (Resume steps workers tiles)
    → outcome words (Held (out_text o)) ≡ resumed steps tiles o
unfolding outcome
goes_on words workers steps tiles o is = ap (λ (c : Option Command). (manner_of c).outcome (Held (out_text o))) is

pub resumes_are_found_runs : ResumesAreFoundRuns
resumes_are_found_runs run_words resume_words whole_words workers workers' workers'' steps tiles given given' d
    run_is resume_is whole_is accepts accepts' kept can of =
    let first = ran run_words workers given d run_is accepts in
    let passes = passes_where d (tested d) refl (subst (λ (o : Outcome). HasRun o.answer) first of) in
    let short : outcome run_words given ≡ run_outcome d = first ∙ ap (on_deck run_outcome) passes in
    goes_on resume_words workers' steps tiles (outcome run_words given) resume_is
    ∙ ap (resumed steps tiles) short
    ∙ resumes_are_runs d steps tiles kept passes can
    ∙ sym (ran whole_words workers'' given' (deck_with_steps steps d) whole_is accepts' ∙ ap (on_deck run_outcome) (tested_too steps d passes))
