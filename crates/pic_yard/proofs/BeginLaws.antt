-- A board begins with the rule.
use Rattle.std.proofs.Common.{◌≡◌, ℕ, zero, suc, ◌+◌, ◌^◌, ◌<◌, ◌≤◌, List, [], ◌∷◌, ◌-◌, slice_index, false, Some, None, inl, inr, refl, sym, ap, ◌∙◌, subst}
use Rattle.std.proofs.Common.{arith, true≢false}
use Rattle.std.proofs.lemmas.List.{length-map}
use mathlib.Core.Option.{some, some-injective, some-ne-none}
use lib.ListN.{get_elem?}
use Rattle.atomic_table.specs.Table.{opening}
use Rattle.atomic_table.proofs.Lists.{at_map}
use Rattle.pic_tile.specs.CoreState.{IsOpening, IsSoundFrame}
use Rattle.pic_tile.specs.Directions.{directions}
use Rattle.pic_yard.specs.declared.opening.Opening.{Opening}
use Rattle.pic_yard.specs.declared.view.View.{View}
use Rattle.pic_yard.specs.Contents.{Slot, tiles_in, tile_at}
use Rattle.pic_yard.specs.Laws.{IsLaid}
use Rattle.pic_yard.specs.Members.{In, Differ, count_below}
use Rattle.pic_yard.specs.Rule.{Rule}
use Rattle.pic_yard.specs.Sits.{slot_at}
use Rattle.pic_yard.specs.Steps.{ahead, first_view}
use Rattle.pic_yard.specs.Tickets.{HasNumbers}
use Rattle.pic_yard.proofs.TallyLaws.{no_step}

ahead_in : (x k n : ℕ) → In x (ahead k n) → (k ≤ x) × (x < k + n)
unfolding ahead
ahead_in x k zero is = elim is [ ]
ahead_in x k (suc n) (inl same) = (omega (arith, same), omega (arith, same))
ahead_in x k (suc n) (inr more) =
    let rest : (suc k ≤ x) × (x < suc k + n) = ahead_in x (suc k) n more in
    let a : suc k ≤ x = rest.0 in
    let b : x < suc k + n = rest.1 in
    (omega arith, omega arith)

ahead_differ : (k n : ℕ) → Differ (ahead k n)
unfolding ahead
ahead_differ k zero = tt
ahead_differ k (suc n) = ((λ more. let a : suc k ≤ k = (ahead_in k (suc k) n more).0 in omega (arith, a)), ahead_differ (suc k) n)

count_nothing : (n : ℕ) → count_below (λ d. false) n ≡ 0
unfolding count_below
count_nothing zero = refl
count_nothing (suc n) = ap (λ (c : ℕ). 0 + c) (count_nothing n) ∙ omega arith

-- one view alone
only_view : (P : ℕ → View → Type 0) (v : View) → P 0 v → (i : ℕ) (x : View) → get_elem? (v ∷ []) i ≡ some x → P i x
only_view P v is zero x there = subst (λ (y : View). P 0 y) (some-injective v x there) is
only_view P v is (suc i) x there = absurd (some-ne-none x (sym there))

none_posted : count_below (λ d. false) directions ≡ directions → ⊥
none_posted full = let is : 0 ≡ directions = sym (count_nothing directions) ∙ full in omega (arith, is)

pub begins : (o : Opening) (words : List ℕ) (slots : List Slot) → IsSoundFrame o.frame → IsOpening o.frame o.tiles.items → 0 < o.seats
    → tiles_in o + o.seats + 1 < 2 ^ 64 → IsLaid o words slots → Rule o (opening words slots (first_view o))
begins o words slots sound opens some_seats small laid =
    let v : View = first_view o in
    let first : slice_index words 0 ≡ 0 = laid.zero 0 in
    let later : (x : ℕ) → In x (ahead 1 (o.seats - 1)) → (1 ≤ x) × (x < 1 + (o.seats - 1)) = λ x is. ahead_in x 1 (o.seats - 1) is in
    record {
      posted = λ r d. false;
      shut = λ r. false;
      sound = sound;
      opens = opens;
      small = small;
      words = laid.words_long;
      slots = length-map slots some ∙ laid.laid.long;
      opened = λ i x there live. only_view (λ (k : ℕ) (y : View). y.opening ≡ Some o) v refl i x there;
      tickets = record {
        keeper = λ x. 0;
        told = λ x. false;
        bound = omega (arith, first);
        each = λ i x there live. only_view (λ (k : ℕ) (y : View). HasNumbers (tiles_in o) o.seats (slice_index words 0) (λ z. 0) (λ z. false) k y) v
            (record {
              own = some_seats;
              own_kept = refl;
              own_told = refl;
              taken = λ y had. elim had [ ];
              taken_kept = λ y had. elim had [ ];
              taken_told = λ y had. elim had [ ];
              unmade = λ y had. let a : y < 1 + (o.seats - 1) = (later y had).1 in omega (arith, a, some_seats);
              unmade_kept = λ y had. refl;
              unmade_told = λ y had. refl;
              made = λ had. let a : 1 ≤ 0 = (later 0 had).0 in omega (arith, a);
              apart = λ had. had;
              taken_differ = tt;
              unmade_differ = ahead_differ 1 (o.seats - 1);
              drawn = omega arith;
              past = λ told. absurd (true≢false (sym told));
            }) i x there;
        known = λ x below is. absurd (true≢false (sym is));
      };
      marks = record {
        claimer = λ t. 0;
        finisher = λ r. 0;
        came = λ r d tile dir is. absurd (true≢false (sym is));
        arrivals = λ r tile. laid.zero (suc r) ∙ sym (count_nothing directions);
        whole = λ r tile closed. absurd (true≢false (sym closed));
        owed = λ r d tile dir sender free. absurd (omega (arith, sender, first));
        ready = λ r tile full open_yet. absurd (none_posted full);
        owes = λ i x there live r d had. absurd (only_view (λ (k : ℕ) (y : View). In (r, d) y.owes → ⊥) v (λ is. is) i x there had);
        rights = λ i x there live r had. absurd (only_view (λ (k : ℕ) (y : View). In r y.rights → ⊥) v (λ is. is) i x there had);
        once_owed = λ i x there live. only_view (λ (k : ℕ) (y : View). Differ y.owes) v tt i x there;
        once_right = λ i x there live. only_view (λ (k : ℕ) (y : View). Differ y.rights) v tt i x there;
      };
      places = record {
        bare = λ r d tile dir sender. record { value = None; there = at_map some slots (slot_at r d) None (laid.laid.boxes r d tile dir); is = refl };
        full = λ r d tile dir is few. absurd (true≢false (sym is));
        emptied = λ r d tile dir closed. absurd (true≢false (sym closed));
        opening = λ t tile above. record {
          value = tile_at o t;
          there = at_map some slots (slot_at t directions) (tile_at o t)
              (laid.laid.homes t tile);
          is = refl;
        };
        between = λ t tile is few. absurd (true≢false (sym is));
        finished = λ r tile closed. absurd (true≢false (sym closed));
      };
      aways = record {
        lent = λ r d tile dir sender free. absurd (omega (arith, sender, first));
        left = λ t tile below free. absurd (omega (arith, below, first));
        held = λ r k tile below full open_yet. absurd (none_posted full);
      };
      tally = no_step words laid.zero;
    }
