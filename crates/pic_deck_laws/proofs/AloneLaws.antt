-- The source of a species: a walk finds it exactly where it alone is there.
use Rattle.std.proofs.Common.{◌≡◌, ℕ, Bool, true, false, cond, List, [], ◌∷◌}
use Rattle.std.proofs.Common.{Option, Some, None, Ok, refl, ap, ◌∙◌}
use Rattle.std.specs.Prelude.{filter, find, if◌then◌else◌}
use Rattle.toml.specs.Data.{Members}
use Rattle.pic_walk.specs.declared.fill_kind.FillKind.{FillKind}
use Rattle.pic_walk.specs.FillKind.{has, alone, only}

-- One source alone
pub none_filter : {A : Type 0} (p : A → Bool) (xs : List A) → find p xs ≡ None → filter p xs ≡ []
none_filter p [] e = refl
none_filter p (x ∷ xs) e = step p x xs (p x) e (none_filter p xs)
  where
    step : {A : Type 0} (p : A → Bool) (x : A) (xs : List A) (b : Bool) → cond b (Some x) (find p xs) ≡ None → (find p xs ≡ None → filter p xs ≡ [])
        → cond b (x ∷ filter p xs) (filter p xs) ≡ []
    step p x xs true e later = absurd (cc e)
    step p x xs false e later = later e

pub filter_none : {A : Type 0} (p : A → Bool) (xs : List A) → filter p xs ≡ [] → find p xs ≡ None
filter_none p [] e = refl
filter_none p (x ∷ xs) e = step p x xs (p x) e (filter_none p xs)
  where
    step : {A : Type 0} (p : A → Bool) (x : A) (xs : List A) (b : Bool) → cond b (x ∷ filter p xs) (filter p xs) ≡ [] → (filter p xs ≡ [] → find p xs ≡ None)
        → cond b (Some x) (find p xs) ≡ None
    step p x xs true e later = absurd (cc e)
    step p x xs false e later = later e

pub alone_ok : (path : List ℕ) (s k : FillKind) (o : Option FillKind) → alone path s o ≡ Ok k → (s ≡ k) × (o ≡ None)
unfolding alone
alone_ok path s k None e = (cc, refl)
alone_ok path s k (Some further) e = absurd (cc e)

pub only_more : (b : Bool) (path : List ℕ) (t : Members) (s : FillKind) (ss : List FillKind) (k : FillKind)
    → (only path t ss ≡ Ok k → filter (has t) ss ≡ k ∷ [])
    → (if b then alone path s (find (has t) ss) else only path t ss) ≡ Ok k
    → cond b (s ∷ filter (has t) ss) (filter (has t) ss) ≡ k ∷ []
only_more true path t s ss k later e =
    let is = alone_ok path s k (find (has t) ss) e in
    ap (λ (x : FillKind). x ∷ filter (has t) ss) is.0 ∙ ap (λ (xs : List FillKind). k ∷ xs) (none_filter (has t) ss is.1)
only_more false path t s ss k later e = later e

pub only_ok : (path : List ℕ) (t : Members) (ss : List FillKind) (k : FillKind) → only path t ss ≡ Ok k → filter (has t) ss ≡ k ∷ []
unfolding only
only_ok path t [] k e = absurd (cc e)
only_ok path t (s ∷ ss) k e = only_more (has t s) path t s ss k (only_ok path t ss k) e

pub from_more : (b : Bool) (path : List ℕ) (t : Members) (s : FillKind) (ss : List FillKind) (k : FillKind)
    → (filter (has t) ss ≡ k ∷ [] → only path t ss ≡ Ok k)
    → cond b (s ∷ filter (has t) ss) (filter (has t) ss) ≡ k ∷ []
    → (if b then alone path s (find (has t) ss) else only path t ss) ≡ Ok k
unfolding alone
from_more true path t s ss k later e =
    let same : s ≡ k = cc e in
    let none : filter (has t) ss ≡ [] = cc e in
    ap (alone path s) (filter_none (has t) ss none) ∙ ap Ok same
from_more false path t s ss k later e = later e

pub only_from : (path : List ℕ) (t : Members) (ss : List FillKind) (k : FillKind) → filter (has t) ss ≡ k ∷ [] → only path t ss ≡ Ok k
unfolding only
only_from path t [] k e = absurd (cc e)
only_from path t (s ∷ ss) k e = from_more (has t s) path t s ss k (only_from path t ss k) e
