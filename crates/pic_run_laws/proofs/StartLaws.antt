-- A run of a deck that its type keeps begins in a good state, and its header is one that its type keeps.
use Rattle.std.proofs.Common.{◌≡◌, List, [], ◌∷◌, map, Option, Some, None, Result, Ok, Err, refl, sym, ap, ◌∙◌}
use Rattle.std.proofs.lemmas.List.Elements.{All-map}
use Rattle.std.proofs.lemmas.List.Sums.{sum-map}
use Rattle.pic_charge.specs.declared.breaks.Break.{Break}
use Rattle.pic_grid.specs.Species.{HeadView}
use Rattle.pic_grid.proofs.LatticeLaws.{length-values_of}
use Rattle.pic_deck.specs.declared.species.Species.{Species}
use Rattle.pic_deck.specs.Deck.{DeckView, heads_of, initial_b}
use Rattle.pic_deck.specs.Species.{head_of}
use Rattle.pic_deck.proofs.HeadLaws.{particles_of-heads}
use Rattle.pic_header.specs.Header.{IsHeader, HasMultipliers}
use Rattle.pic_deck.specs.declared.refusal.Refusal.{Refusal}
use Rattle.pic_displace.specs.Displace.{displaced_e, displaced_allowed}
use Rattle.pic_load.specs.Loading.{loaded}
use Rattle.pic_record.specs.Layout.{layout_of}
use Rattle.pic_open.specs.DeckEnd.{Unfit, Staged, ◌>>=◌}
use Rattle.pic_open.specs.Stages.{unless_gauss_fails, unless_too_strong, gauss_tested, tested}
use Rattle.pic_open.specs.Starting.{first_state, state_break}
use Rattle.pic_run.specs.RunHeader.{header_of}
use Rattle.pic_open.proofs.StartLaws.{sound_start}
use Rattle.pic_open.proofs.DisplacedLaws.{displaced_safe}
use Rattle.pic_run_laws.specs.KeptDecks.{IsKeptDeck}
use Rattle.pic_run_laws.proofs.StateFits.{IsGoodState}
use Rattle.pic_run_laws.proofs.LoadedLaws.{are_loaded, are_listed}

-- the header
pub header_kept : (d : DeckView) → IsKeptDeck d → IsHeader (header_of d)
header_kept d kept =
    let settings = kept.limits.settings in
    record {
      limits = record {
        version = settings.version;
        grid = settings.allowed;
        steps_most = settings.steps;
        every_least = settings.every_low;
        every_most = settings.every_high;
        filter = settings.filter;
        heads = kept.limits.heads;
        loops = kept.limits.loops;
      };
      cells = settings.cells;
      scales = kept.scales;
      kinds = All-map (λ (h : HeadView). HasMultipliers h.kind) head_of d.species kept.kinds;
      axes = kept.loops;
    }

-- the kinds of its layout
same_kinds : (ss : List Species) → map (λ (s : Species). s.kind) ss ≡ map (λ (h : HeadView). h.kind) (map head_of ss)
same_kinds [] = refl
same_kinds (s ∷ ss) = ap (λ ks. s.kind ∷ ks) (same_kinds ss)

no_break : (d : DeckView) (o : Option Break) → unless_gauss_fails d o ≡ Ok d → o ≡ None
no_break d None is = refl
no_break d (Some b) is = absurd cc

-- a deck that passes the tests isn't refused for its displaced start, and meets Gauss's law
pub record HasPassed (d : DeckView) : Type 0 where
  pub fits : displaced_allowed d (loaded d) ≡ Ok tt
  pub gauss : state_break (first_state d) ≡ None

pub has_passed : (d : DeckView) → tested d ≡ Ok d → HasPassed d
has_passed d is = go (displaced_allowed d (loaded d)) refl is
  where
    go : (r : Result (Unit {0}) Refusal) → displaced_allowed d (loaded d) ≡ r → (unless_too_strong d r >>= gauss_tested) ≡ Ok d → HasPassed d
    go (Ok _) fits ok = record { fits = fits; gauss = no_break d (state_break (first_state d)) ok }
    go (Err refusal) fits ok = absurd (let other : ◌≡◌ {A = Staged DeckView} (Err (Unfit refusal)) (Ok d) = ok in cc)

-- so it passes them
pub passes : (d : DeckView) → HasPassed d → tested d ≡ Ok d
passes d has =
    ap (λ (r : Result (Unit {0}) Refusal). unless_too_strong d r >>= gauss_tested) has.fits ∙ ap (unless_gauss_fails d) has.gauss

-- a deck that passes them is the deck that is run
pub same_deck : (d e : DeckView) → tested d ≡ Ok e → d ≡ e
same_deck d e is = go (displaced_allowed d (loaded d)) is
  where
    behind : (o : Option Break) → unless_gauss_fails d o ≡ Ok e → d ≡ e
    behind None is' = cc
    behind (Some b) is' = absurd cc

    go : (r : Result (Unit {0}) Refusal) → (unless_too_strong d r >>= gauss_tested) ≡ Ok e → d ≡ e
    go (Ok _) is' = behind (state_break (first_state d)) is'
    go (Err refusal) is' = absurd (let other : ◌≡◌ {A = Staged DeckView} (Err (Unfit refusal)) (Ok e) = is' in cc)

-- the first state
pub start_good : (d : DeckView) → IsKeptDeck d → tested d ≡ Ok d → IsGoodState (layout_of (header_of d)) (first_state d)
start_good d kept is =
    let are = are_loaded d kept in
    let has = has_passed d is in
    record {
      sound = sound_start d (loaded d) kept.limits are (displaced_safe d kept.limits are has.fits) has.gauss;
      of = record {
        side = refl;
        cells = refl;
        filter = refl;
        scales = refl;
        kinds = same_kinds d.species;
        e_count = length-values_of d.cells (displaced_e d (loaded d));
        b_count = length-values_of d.cells (initial_b d);
        count = are.count ∙ sym (sum-map (λ (h : HeadView). h.count) (heads_of d) ∙ particles_of-heads d.species);
        listed = are_listed d kept;
      };
    }
