-- A deck with other steps, frames or probes: its run begins in the same state, so it passes the same tests.
use Rattle.std.proofs.Common.{◌≡◌, ℕ, ◌≤◌, Option, Some, None, Result, Ok, Err, refl, ap, ◌∙◌}
use Rattle.pic_charge.specs.declared.breaks.Break.{Break}
use Rattle.pic_num.specs.Limits.{most_steps}
use Rattle.pic_deck.specs.declared.refusal.Refusal.{Refusal}
use Rattle.pic_deck.specs.Deck.{DeckView}
use Rattle.pic_devices.specs.declared.probes.Probes.{Probes}
use Rattle.pic_displace.specs.Displace.{displaced_e, displaced_allowed}
use Rattle.pic_load.specs.Loading.{loaded}
use Rattle.pic_open.specs.DeckEnd.{◌>>=◌}
use Rattle.pic_report.specs.Outcome.{Outcome}
use Rattle.pic_open.specs.Stages.{unless_gauss_fails, unless_too_strong, gauss_tested, tested}
use Rattle.pic_run.specs.DeckOutcome.{on_deck, check_outcome, run_outcome}
use Rattle.pic_open.specs.Starting.{first_state, state_break}
use Rattle.pic_run_laws.specs.KeptDecks.{IsKeptDeck}
use Rattle.pic_run_laws.specs.ProbesAreColumns.{deck_with_probes, IsSameForAllProbes, ProbesChangeNoDump, ProbesChangeNoCheck}
use Rattle.pic_run_laws.proofs.StartLaws.{has_passed, passes}

-- the deck with other steps, of which a frame is due after others
pub same_first : (steps every : ℕ) (d : DeckView) → first_state (record d { steps = steps; every = every }) ≡ first_state d
unfolding loaded displaced_e
same_first steps every d = refl

same_fit : (steps every : ℕ) (d : DeckView)
    → displaced_allowed (record d { steps = steps; every = every }) (loaded (record d { steps = steps; every = every })) ≡ displaced_allowed d (loaded d)
unfolding loaded displaced_e
same_fit steps every d = refl

pub tested_running : (steps every : ℕ) (d : DeckView) → tested d ≡ Ok d
    → tested (record d { steps = steps; every = every }) ≡ Ok (record d { steps = steps; every = every })
tested_running steps every d is =
    let has = has_passed d is in
    passes (record d { steps = steps; every = every }) (record {
      fits = same_fit steps every d ∙ has.fits;
      gauss = ap state_break (same_first steps every d) ∙ has.gauss;
    })

-- and it is as its type keeps it
pub kept_running : (steps every : ℕ) (d : DeckView) → steps ≤ most_steps → 1 ≤ every → every ≤ most_steps → IsKeptDeck d
    → IsKeptDeck (record d { steps = steps; every = every })
kept_running steps every d most low high kept =
    let limits = kept.limits in
    let settings = limits.settings in
    record {
      limits = record {
        settings = record {
          version = settings.version;
          cells = settings.cells;
          allowed = settings.allowed;
          tiles = settings.tiles;
          steps = most;
          every_low = low;
          every_high = high;
          filter = settings.filter;
        };
        edges = limits.edges;
        faces = limits.faces;
        heads = limits.heads;
        filled = limits.filled;
        e = limits.e;
        b = limits.b;
        loops = limits.loops;
        probes = limits.probes;
      };
      scales = kept.scales;
      kinds = kept.kinds;
      fills = kept.fills;
      loops = kept.loops;
    }

-- the deck with other probes
first_watched : (d : DeckView) (p : Probes) → first_state (deck_with_probes p d) ≡ first_state d
unfolding loaded displaced_e
first_watched d p = refl

fit_watched : (d : DeckView) (p : Probes) → displaced_allowed (deck_with_probes p d) (loaded (deck_with_probes p d)) ≡ displaced_allowed d (loaded d)
unfolding loaded displaced_e
fit_watched d p = refl

run_watched : (d : DeckView) (p : Probes) → run_outcome (deck_with_probes p d) ≡ run_outcome d
unfolding loaded displaced_e
run_watched d p = refl

check_watched : (d : DeckView) (p : Probes) → check_outcome (deck_with_probes p d) ≡ check_outcome d
unfolding loaded
check_watched d p = refl

-- what doesn't look at the probes is the same for all
same_for_all : (performed : DeckView → Outcome) → ((d : DeckView) (p : Probes) → performed (deck_with_probes p d) ≡ performed d) → IsSameForAllProbes performed
same_for_all performed same d p =
    ap (λ (r : Result (Unit {0}) Refusal). on_deck performed (unless_too_strong (deck_with_probes p d) r >>= gauss_tested)) (fit_watched d p)
    ∙ go (displaced_allowed d (loaded d))
  where
    behind : (o : Option Break) → on_deck performed (unless_gauss_fails (deck_with_probes p d) o) ≡ on_deck performed (unless_gauss_fails d o)
    behind None = same d p
    behind (Some b) = refl

    go : (r : Result (Unit {0}) Refusal) → on_deck performed (unless_too_strong (deck_with_probes p d) r >>= gauss_tested)
        ≡ on_deck performed (unless_too_strong d r >>= gauss_tested)
    go (Err refusal) = refl
    go (Ok _) =
        ap (λ w. on_deck performed (unless_gauss_fails (deck_with_probes p d) (state_break w))) (first_watched d p) ∙ behind (state_break (first_state d))

pub change_no_dump : ProbesChangeNoDump
change_no_dump = same_for_all run_outcome run_watched

pub change_no_check : ProbesChangeNoCheck
change_no_check = same_for_all check_outcome check_watched
