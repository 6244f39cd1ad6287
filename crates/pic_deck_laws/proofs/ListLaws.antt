-- Lists of a document: their tests, and which are accepted.
use Rattle.std.proofs.Common.{◌≡◌, ℕ, zero, suc, ◌+◌, pos, List, [], ◌∷◌, ◌++◌, length, take}
use Rattle.std.proofs.Common.{Some, Ok, refl, sym, ap, ◌∙◌, subst, append-nil, append_assoc, arith}
use Rattle.std.specs.Prelude.{slice_get}
use Rattle.std.specs.List.{All}
use Rattle.std.proofs.lemmas.Option.{same_Some}
use Rattle.toml.specs.Data.{Data, array, Items, no_items, item, get_item}
use Rattle.pic_walk.specs.declared.limits.Limits.{Limits}
use Rattle.pic_walk.specs.Limits.{MeetsLimits}
use Rattle.pic_walk.specs.Path.{element_at}
use Rattle.pic_walk.specs.Walk.{Walked, ◌>>=◌, some_or, within, count_of_items, elements, each, list_by}
use Rattle.pic_walk.proofs.LimitLaws.{met, meets}
use Rattle.pic_walk.proofs.WalkLaws.{then_ok, went}
use Rattle.pic_devices.specs.Lists.{counted, list_within}
use Rattle.pic_deck_laws.specs.Spelling.{spelled, AreElements}
use Rattle.pic_deck_laws.specs.Tests.{Test}
use Rattle.pic_deck_laws.specs.ValueTests.{items_of, limit_test, list_tests, count_test, counted_tests, limited_tests}
use Rattle.pic_deck_laws.proofs.TestLaws.{Along, then_along, last_along}
use Rattle.pic_deck_laws.proofs.WalkTests.{within_along, within_then, each_along, last_length}
use Rattle.pic_deck_laws.proofs.ValueLaws.{FitFrom, each_ok, each_from}

-- Tests
pub list_along : {A : Type 0} (f : List A → List ℕ → Data → Walked A) (tests : ℕ → List ℕ → Data → List Test)
    → ((done : List A) (path : List ℕ) (d : Data) → Along (tests (length done) path d) (f done path d))
    → (path : List ℕ) (d : Data) → Along (list_tests tests path d) (list_by f path d)
unfolding list_by elements some_or ◌>>=◌ list_tests
list_along f tests one path (array ds) = record { is = (each_along f tests one path [] ds).is }
list_along f tests one path _ = record { is = refl }

-- as many elements were read as there are
each_count : {A : Type 0} (f : List A → List ℕ → Data → Walked A) (path : List ℕ) (done : List A) (ds : Items) (out : List A) → each f path done ds ≡ Ok out
    → length out ≡ length done + count_of_items ds
unfolding each
each_count f path done no_items out e = let same : done ≡ out = cc e in omega (arith, ap length same)
each_count f path done (item d ds) out e =
    let w = went _ _ _ e in
    omega (arith, each_count f path (done ++ w.value ∷ []) ds out w.then, last_length done w.value)

pub elements_is : (path : List ℕ) (d : Data) (ds : Items) → elements path d ≡ Ok ds → d ≡ array ds
unfolding elements some_or
elements_is path (array es) ds e = ap array cc
elements_is path _ ds e = absurd (cc e)

pub elements_from : (path : List ℕ) (ds : Items) → elements path (array ds) ≡ Ok ds
unfolding elements some_or
elements_from path ds = refl

pub list_count : {A : Type 0} (f : List A → List ℕ → Data → Walked A) (path : List ℕ) (d : Data) (out : List A) → list_by f path d ≡ Ok out
    → length out ≡ count_of_items (items_of d)
unfolding list_by
list_count f path d out e =
    let w = went _ _ _ e in
    each_count f path [] w.value out w.then ∙ (let z : 0 + count_of_items w.value ≡ count_of_items w.value = omega arith in z)
    ∙ ap (λ (v : Data). count_of_items (items_of v)) (sym (elements_is path d w.value w.first))

counted_along : {A : Type 0} (limits : Limits) (path : List ℕ) (xs : List A) → Along (limit_test limits path (pos (length xs)) ∷ []) (counted limits path xs)
unfolding counted
counted_along limits path xs = last_along _ (λ _. xs) (within_along limits path (pos (length xs)))

pub list_within_along : {A : Type 0} (limits : Limits) (f : List A → List ℕ → Data → Walked A) (tests : ℕ → List ℕ → Data → List Test)
    → ((done : List A) (path : List ℕ) (d : Data) → Along (tests (length done) path d) (f done path d))
    → (path : List ℕ) (d : Data) → Along (counted_tests limits tests path d) (list_within limits f path d)
unfolding list_within counted_tests count_test
list_within_along limits f tests one path d =
    then_along _ _ (list_along f tests one path d)
    (λ xs is. subst (λ (n : ℕ). Along (limit_test limits path (pos n) ∷ []) (counted limits path xs))
    (list_count f path d xs is) (counted_along limits path xs))

pub limited_along : {A : Type 0} (limits : Limits) (f : List A → List ℕ → Data → Walked A) (tests : ℕ → List ℕ → Data → List Test)
    → ((done : List A) (path : List ℕ) (d : Data) → Along (tests (length done) path d) (f done path d))
    → (path : List ℕ) (d : Data) → Along (limited_tests limits tests path d)
    (elements path d >>= (λ ds. within limits path (pos (count_of_items ds)) >>= (λ _. each f path [] ds)))
unfolding elements some_or ◌>>=◌ limited_tests count_test
limited_along limits f tests one path (array ds) =
    record { is = (within_then limits path (pos (count_of_items ds)) (λ _. each f path [] ds) (each_along f tests one path [] ds)).is }
limited_along limits f tests one path _ = record { is = refl }

-- What is accepted, each element by its own spelling
pub record IsList {A : Type 0} (spell : A → Data) (Fits : ℕ → A → Type 0) (d : Data) (xs : List A) : Type 0 where
  pub is : d ≡ array (spelled spell xs)
  pub fit : FitFrom Fits 0 xs

pub list_ok : {A : Type 0} (f : List A → List ℕ → Data → Walked A) (spell : A → Data) (Fits : ℕ → A → Type 0)
    → ((done : List A) (path : List ℕ) (d : Data) (a : A) → f done path d ≡ Ok a → (d ≡ spell a) × Fits (length done) a)
    → (path : List ℕ) (d : Data) (out : List A) → list_by f path d ≡ Ok out → IsList spell Fits d out
unfolding list_by
list_ok f spell Fits one path d out e =
    let w = went _ _ _ e in
    let found = each_ok f spell Fits one path [] w.value out w.then in
    record {
      is = elements_is path d w.value w.first ∙ ap array (found.items ∙ ap (spelled spell) (sym found.is));
      fit = subst (FitFrom Fits 0) (sym found.is) found.fit;
    }

pub list_from : {A : Type 0} (f : List A → List ℕ → Data → Walked A) (spell : A → Data) (Fits : ℕ → A → Type 0)
    → ((done : List A) (path : List ℕ) (a : A) → Fits (length done) a → f done path (spell a) ≡ Ok a)
    → (path : List ℕ) (xs : List A) → FitFrom Fits 0 xs → list_by f path (array (spelled spell xs)) ≡ Ok xs
unfolding list_by
list_from f spell Fits one path xs fit =
    then_ok _ (spelled spell xs) _ (elements_from path (spelled spell xs)) ∙ each_from f spell Fits one path [] xs fit

pub counted_ok : {A : Type 0} (limits : Limits) (path : List ℕ) (xs ys : List A) → counted limits path xs ≡ Ok ys
    → (xs ≡ ys) × MeetsLimits limits (pos (length xs))
unfolding counted
counted_ok limits path xs ys e =
    let w = went _ _ _ e in
    (cc w.then, meets _ _ _ _ w.first)

pub counted_from : {A : Type 0} (limits : Limits) (path : List ℕ) (xs : List A) → MeetsLimits limits (pos (length xs)) → counted limits path xs ≡ Ok xs
unfolding counted
counted_from limits path xs m = then_ok _ (pos (length xs)) _ (met limits path (pos (length xs)) m)

-- What is accepted, each element after those before it
abbrev pub ReadFrom : {A : Type 0} → (List A → Data → A → Type 0) → List A → Items → List A → Type 0
ReadFrom Spells done no_items [] = Unit {0}
ReadFrom Spells done no_items (a ∷ more) = ⊥
ReadFrom Spells done (item d ds) [] = ⊥
ReadFrom Spells done (item d ds) (a ∷ more) = Spells done d a × ReadFrom Spells (done ++ a ∷ []) ds more

pub record Read {A : Type 0} (Spells : List A → Data → A → Type 0) (done : List A) (ds : Items) (out : List A) : Type 0 where
  pub more : List A
  pub is : out ≡ done ++ more
  pub read : ReadFrom Spells done ds more

pub each_read : {A : Type 0} (f : List A → List ℕ → Data → Walked A) (Spells : List A → Data → A → Type 0)
    → ((done : List A) (path : List ℕ) (d : Data) (a : A) → f done path d ≡ Ok a → Spells done d a)
    → (path : List ℕ) (done : List A) (ds : Items) (out : List A) → each f path done ds ≡ Ok out → Read Spells done ds out
unfolding each
each_read f Spells one path done no_items out e =
    let same : done ≡ out = cc e in
    record { more = []; is = sym same ∙ sym (append-nil done); read = tt }
each_read f Spells one path done (item d ds) out e =
    let w = went _ _ _ e in
    let a = w.value in
    let rest = each_read f Spells one path (done ++ a ∷ []) ds out w.then in
    record {
      more = a ∷ rest.more;
      is = rest.is ∙ append_assoc done (a ∷ []) rest.more;
      read = (one done (element_at path (length done)) d a w.first, rest.read);
    }

pub read_each : {A : Type 0} (f : List A → List ℕ → Data → Walked A) (Spells : List A → Data → A → Type 0)
    → ((done : List A) (path : List ℕ) (d : Data) (a : A) → Spells done d a → f done path d ≡ Ok a)
    → (path : List ℕ) (done : List A) (ds : Items) (more : List A) → ReadFrom Spells done ds more → each f path done ds ≡ Ok (done ++ more)
unfolding each
read_each f Spells one path done no_items [] read = ap Ok (sym (append-nil done))
read_each f Spells one path done no_items (a ∷ more) read = absurd read
read_each f Spells one path done (item d ds) [] read = absurd read
read_each f Spells one path done (item d ds) (a ∷ more) read =
    then_ok _ a _ (one done (element_at path (length done)) d a read.0)
    ∙ read_each f Spells one path (done ++ a ∷ []) ds more read.1
    ∙ ap Ok (append_assoc done (a ∷ []) more)

read_count : {A : Type 0} (Spells : List A → Data → A → Type 0) (done : List A) (ds : Items) (xs : List A) → ReadFrom Spells done ds xs
    → count_of_items ds ≡ length xs
read_count Spells done no_items [] read = refl
read_count Spells done no_items (a ∷ more) read = absurd read
read_count Spells done (item d ds) [] read = absurd read
read_count Spells done (item d ds) (a ∷ more) read = ap suc (read_count Spells (done ++ a ∷ []) ds more read.1)

read_at : {A : Type 0} (Spells : List A → Data → A → Type 0) (done : List A) (ds : Items) (xs : List A) → ReadFrom Spells done ds xs
    → (i : ℕ) (d : Data) (a : A) → get_item i ds ≡ Some d → slice_get xs i ≡ Some a → Spells (done ++ take i xs) d a
read_at Spells done no_items xs read i d a is at = absurd (cc is)
read_at Spells done (item e ds) [] read i d a is at = absurd read
read_at {A} Spells done (item e ds) (b ∷ more) read zero d a is at =
    subst (λ (l : List A). Spells l d a) (sym (append-nil done))
    (subst (λ (v : Data). Spells done v a) (same_Some e d is) (subst (Spells done e) (same_Some b a at) read.0))
read_at {A} Spells done (item e ds) (b ∷ more) read (suc i) d a is at =
    subst (λ (l : List A). Spells l d a) (append_assoc done (b ∷ []) (take i more))
    (read_at Spells (done ++ b ∷ []) ds more read.1 i d a is at)

at_read : {A : Type 0} (Spells : List A → Data → A → Type 0) (done : List A) (ds : Items) (xs : List A) → count_of_items ds ≡ length xs
    → ((i : ℕ) (d : Data) (a : A) → get_item i ds ≡ Some d → slice_get xs i ≡ Some a → Spells (done ++ take i xs) d a)
    → ReadFrom Spells done ds xs
at_read Spells done no_items [] count at = tt
at_read Spells done no_items (a ∷ more) count at = absurd (omega (arith, count))
at_read Spells done (item d ds) [] count at = absurd (omega (arith, count))
at_read {A} Spells done (item d ds) (a ∷ more) count at = (
  subst (λ (l : List A). Spells l d a) (append-nil done) (at 0 d a refl refl),
  at_read Spells (done ++ a ∷ []) ds more (omega (arith, count))
      (λ i e b is there. subst (λ (l : List A). Spells l e b) (sym (append_assoc done (a ∷ []) (take i more))) (at (suc i) e b is there)),
)

pub elements_ok : {A : Type 0} (Spells : List A → Data → A → Type 0) (ds : Items) (out : List A) → Read Spells [] ds out → AreElements Spells ds out
elements_ok Spells ds out r =
    let read = subst (ReadFrom Spells [] ds) (sym r.is) r.read in
    record { count = read_count Spells [] ds out read; each = read_at Spells [] ds out read }

pub ok_elements : {A : Type 0} (Spells : List A → Data → A → Type 0) (ds : Items) (xs : List A) → AreElements Spells ds xs → ReadFrom Spells [] ds xs
ok_elements Spells ds xs are = at_read Spells [] ds xs are.count are.each

-- What fits at each index holds of all
pub all_fit : {A : Type 0} (P : A → Type 0) (i : ℕ) (xs : List A) → FitFrom (λ _. P) i xs → All P xs
all_fit P i [] fit k d h = absurd (omega (arith, h))
all_fit P i (a ∷ more) fit zero d h = fit.0
all_fit P i (a ∷ more) fit (suc k) d h = all_fit P (suc i) more fit.1 k d (omega (arith, h))

pub fit_all : {A : Type 0} (P : A → Type 0) (i : ℕ) (xs : List A) → All P xs → FitFrom (λ _. P) i xs
fit_all P i [] all = tt
fit_all P i (a ∷ more) all = (all 0 a (omega arith), fit_all P (suc i) more (λ k d h. all (suc k) d (omega (arith, h))))
