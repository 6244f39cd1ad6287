-- One event more.
use Rattle.std.proofs.Common.{◌≡◌, ℕ, zero, suc, ◌+◌, ◌<◌, List, [], ◌∷◌, ◌++◌, length, get_or, take, flat_map, refl, sym, ap, ◌∙◌, subst, arith, append-nil}
use Rattle.std.specs.List.{range_with_len}
use Rattle.std.proofs.lemmas.List.{take_more}
use Rattle.std.proofs.lemmas.List.Concat.{flat_map-append}
use Rattle.pic_tile.specs.CoreState.{CoreState, Stands}
use Rattle.pic_core.specs.declared.event.Event.{Event}
use Rattle.pic_core.specs.declared.event.Event.TheVariants.{Claim, Post, Merge, Shut}
use Rattle.pic_core.specs.Events.{Allowed, Applied, Ran}

pub ran_none : (s : CoreState) → Ran s [] s
unfolding Ran
ran_none s = refl

pub ran_one : (s : CoreState) (events : List Event) (e : Event) (now next : CoreState) → Ran s events now → Allowed now e → Applied now e next → Stands next
    → Ran s (events ++ (e ∷ [])) next
unfolding Ran
ran_one s [] e now next ran can done stands =
    (next, subst (λ (z : CoreState). Allowed z e) ran can, subst (λ (z : CoreState). Applied z e next) ran done, stands, refl)
ran_one s (first ∷ events) e now next ran can done stands =
    (ran.0, ran.1, ran.2, ran.3, ran_one ran.0 events e now next ran.4 can done stands)

-- a loop's step
pub ran_more : (s : CoreState) (events : List Event) (i : ℕ) (e : Event) (now next : CoreState) → i < length events → e ≡ get_or events i e
    → Ran s (take i events) now → Allowed now e → Applied now e next → Stands next → Ran s (take (i + 1) events) next
ran_more s events i e now next below is ran can done stands =
    subst (λ (es : List Event). Ran s es next)
    (ap (λ (x : Event). take i events ++ (x ∷ [])) is ∙ sym (take_more events i e below))
    (ran_one s (take i events) e now next ran can done stands)

-- one list of events after another
pub ran_append : (s : CoreState) (events more : List Event) (now next : CoreState) → Ran s events now → Ran now more next → Ran s (events ++ more) next
unfolding Ran
ran_append s [] more now next ran after = subst (λ (z : CoreState). Ran z more next) ran after
ran_append s (first ∷ events) more now next ran after = (ran.0, ran.1, ran.2, ran.3, ran_append ran.0 events more now next ran.4 after)

-- one event alone
pub ran_event : (s : CoreState) (e : Event) (next : CoreState) → Allowed s e → Applied s e next → Stands next → Ran s (e ∷ []) next
unfolding Ran
ran_event s e next can done stands = (next, can, done, stands, refl)

-- events don't change the frame
applied_frame : (s : CoreState) (e : Event) (next : CoreState) → Applied s e next → next.frame ≡ s.frame
applied_frame s (Claim t) next done = ap (λ (z : CoreState). z.frame) done.is
applied_frame s (Post t d) next done = ap (λ (z : CoreState). z.frame) done
applied_frame s (Merge r d) next done = ap (λ (z : CoreState). z.frame) done.is
applied_frame s (Shut r) next done = ap (λ (z : CoreState). z.frame) done

pub ran_frame : (s : CoreState) (events : List Event) (next : CoreState) → Ran s events next → next.frame ≡ s.frame
unfolding Ran
ran_frame s [] next ran = ap (λ (z : CoreState). z.frame) ran
ran_frame s (e ∷ events) next ran = ran_frame ran.0 events next ran.4 ∙ applied_frame s e ran.0 ran.2

-- nor what the push began with
applied_opening : (s : CoreState) (e : Event) (next : CoreState) → Applied s e next → next.opening ≡ s.opening
applied_opening s (Claim t) next done = ap (λ (z : CoreState). z.opening) done.is
applied_opening s (Post t d) next done = ap (λ (z : CoreState). z.opening) done
applied_opening s (Merge r d) next done = ap (λ (z : CoreState). z.opening) done.is
applied_opening s (Shut r) next done = ap (λ (z : CoreState). z.opening) done

pub ran_opening : (s : CoreState) (events : List Event) (next : CoreState) → Ran s events next → next.opening ≡ s.opening
unfolding Ran
ran_opening s [] next ran = ap (λ (z : CoreState). z.opening) ran
ran_opening s (e ∷ events) next ran = ran_opening ran.0 events next ran.4 ∙ applied_opening s e ran.0 ran.2

-- lists of events for each number, one number more
counting_more : (a n j : ℕ) → a + n ≡ j → range_with_len a (suc n) ≡ range_with_len a n ++ (j ∷ [])
counting_more a zero j e = let same : a ≡ j = omega (arith, e) in ap (λ (k : ℕ). k ∷ []) same
counting_more a (suc n) j e = ap (λ (l : List ℕ). a ∷ l) (counting_more (a + 1) n j (omega (arith, e)))

lists_more : (f : ℕ → List Event) (n : ℕ) → flat_map f (range_with_len 0 (n + 1)) ≡ flat_map f (range_with_len 0 n) ++ f n
lists_more f n =
    ap (λ (k : ℕ). flat_map f (range_with_len 0 k)) (let e : n + 1 ≡ suc n = omega arith in e)
    ∙ ap (flat_map f) (counting_more 0 n n (omega arith))
    ∙ flat_map-append f (range_with_len 0 n) (n ∷ [])
    ∙ ap (λ (l : List Event). flat_map f (range_with_len 0 n) ++ l) (append-nil (f n))

pub ran_lists : (s : CoreState) (f : ℕ → List Event) (n : ℕ) (now next : CoreState) → Ran s (flat_map f (range_with_len 0 n)) now → Ran now (f n) next
    → Ran s (flat_map f (range_with_len 0 (n + 1))) next
ran_lists s f n now next ran after =
    subst (λ (es : List Event). Ran s es next) (sym (lists_more f n)) (ran_append s (flat_map f (range_with_len 0 n)) (f n) now next ran after)
