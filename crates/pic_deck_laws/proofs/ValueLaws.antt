-- Which values a walk accepts, and what it gives for them: exactly those that are spelled.
use Rattle.std.proofs.Common.{◌≡◌, ℕ, zero, suc, ℤ, pos, ◌<◌, ◌==◌, ◌≤ℤ◌, Bool, true, false}
use Rattle.std.proofs.Common.{cond, not, map, find, ◌⊎◌, inl, inr, List, [], ◌∷◌, ◌++◌, length}
use Rattle.std.proofs.Common.{slice_index, Option, Some, None, Ok, Err, unsigned_abs, refl, sym, ap, ap₂, ◌∙◌, subst, append-nil, append_assoc, arith}
use Rattle.std.specs.Prelude.{if◌then◌else◌}
use Rattle.std.specs.List.{AllPass}
use Rattle.std.proofs.lemmas.Bool.Decides.{nat_tests}
use Rattle.std.proofs.lemmas.Int.{ints}
use Rattle.std.proofs.lemmas.List.{length-map}
use Rattle.toml.specs.Data.{Data, integer, array, table, Items, no_items, item, Members, get_member, as_table}
use Rattle.pic_walk.specs.declared.fault.Fault.{Fault}
use Rattle.pic_walk.specs.declared.fault.Fault.TheVariants.{Missing, Kind, Limit}
use Rattle.pic_walk.specs.declared.limits.Limits.{Limits}
use Rattle.pic_walk.specs.Limits.{is_within, MeetsLimits, limits_at, thrice}
use Rattle.pic_walk.specs.Path.{key_at, element_at}
use Rattle.pic_walk.specs.Walk.{Walked, ◌>>=◌, some_or, number, within, limited, whole, count_of_items, of_length, fixed, each, array_of, number_at}
use Rattle.pic_walk.specs.Walk.{numbers, three, member_keys, is_listed, first_unlisted, known, listed, table_of, needed, need, given, optional}
use Rattle.pic_walk.proofs.LimitLaws.{met, meets}
use Rattle.pic_walk.proofs.TableLaws.{known_is}
use Rattle.pic_walk.proofs.WalkLaws.{then_ok, went, there}
use Rattle.pic_deck_laws.specs.Spelling.{natural, spelled, integers, naturals, Has, Lacks, HasOnly}
use Rattle.pic_deck_laws.specs.ValueTests.{sizes_of, members_of, or_empty, value_at}
use Rattle.pic_deck_laws.proofs.KeyLaws.{only_from_all, all_from_only}
use Rattle.pic_deck_laws.proofs.WalkTests.{last_length}

-- a test that holds gives its value
pub passed : {A : Type 0} (b : Bool) (a c : A) (q : Fault) → ◌≡◌ {A = Walked A} (if b then Ok a else Err q) (Ok c) → (b ≡ true) × (a ≡ c)
passed true a c q e = (refl, cc)
passed false a c q e = absurd (cc e)

same_from_test : (a b : ℕ) → (a == b) ≡ true → a ≡ b
same_from_test a b h = grind (arith, nat_tests)

test_from_same : (a b : ℕ) → a ≡ b → (a == b) ≡ true
test_from_same a b h = grind (arith, nat_tests)

pub natural_is : (z : ℤ) (n : ℕ) → pos 0 ≤ℤ z → unsigned_abs z ≡ n → z ≡ pos n
natural_is z n h e = omega (arith, ints, h, e)

-- Numbers
pub record IsNumber (limits : Limits) (d : Data) (z : ℤ) : Type 0 where
  pub is : d ≡ integer z
  pub within : MeetsLimits limits z

pub number_is : (path : List ℕ) (d : Data) (z : ℤ) → number path d ≡ Ok z → d ≡ integer z
unfolding number some_or
number_is path (integer y) z e = ap integer cc
number_is path _ z e = absurd (cc e)

pub within_is : (limits : Limits) (path : List ℕ) (y z : ℤ) → within limits path y ≡ Ok z → y ≡ z
unfolding within
within_is limits path y z e = (passed (is_within limits y) y z (Limit path y limits.low limits.high) e).1

pub limited_ok : (limits : Limits) (path : List ℕ) (d : Data) (z : ℤ) → limited limits path d ≡ Ok z → IsNumber limits d z
unfolding limited
limited_ok limits path d z e =
    let w = went _ _ _ e in
    let same : w.value ≡ z = within_is limits path w.value z w.then in
    record {
      is = number_is path d w.value w.first ∙ ap integer same;
      within = subst (MeetsLimits limits) same (meets limits path w.value z w.then);
    }

pub limited_from : (limits : Limits) (path : List ℕ) (z : ℤ) → MeetsLimits limits z → limited limits path (integer z) ≡ Ok z
unfolding limited number some_or ◌>>=◌
limited_from limits path z m = met limits path z m

pub whole_ok : (limits : Limits) (path : List ℕ) (d : Data) (n : ℕ) → pos 0 ≤ℤ limits.low → whole limits path d ≡ Ok n → IsNumber limits d (pos n)
unfolding whole
whole_ok limits path d n low e =
    let w = went _ _ _ e in
    let number = limited_ok limits path d w.value w.first in
    let size : unsigned_abs w.value ≡ n = cc w.then in
    let same : w.value ≡ pos n = natural_is w.value n (omega (arith, ints, low, number.within.low)) size in
    subst (IsNumber limits d) same number

pub whole_from : (limits : Limits) (path : List ℕ) (n : ℕ) → MeetsLimits limits (pos n) → whole limits path (natural n) ≡ Ok n
unfolding whole
whole_from limits path n m = then_ok _ (pos n) _ (limited_from limits path (pos n) m)

-- The elements of an array: each fits at its index
abbrev pub FitFrom : {A : Type 0} → (ℕ → A → Type 0) → ℕ → List A → Type 0
FitFrom Fits i [] = Unit {0}
FitFrom Fits i (a ∷ more) = Fits i a × FitFrom Fits (suc i) more

pub record Elements {A : Type 0} (spell : A → Data) (Fits : ℕ → A → Type 0) (done : List A) (ds : Items) (out : List A) : Type 0 where
  pub more : List A
  pub is : out ≡ done ++ more
  pub items : ds ≡ spelled spell more
  pub fit : FitFrom Fits (length done) more

pub each_ok : {A : Type 0} (f : List A → List ℕ → Data → Walked A) (spell : A → Data) (Fits : ℕ → A → Type 0)
    → ((done : List A) (path : List ℕ) (d : Data) (a : A) → f done path d ≡ Ok a → (d ≡ spell a) × Fits (length done) a)
    → (path : List ℕ) (done : List A) (ds : Items) (out : List A) → each f path done ds ≡ Ok out → Elements spell Fits done ds out
unfolding each
each_ok f spell Fits one path done no_items out e =
    let same : done ≡ out = cc e in
    record { more = []; is = sym same ∙ sym (append-nil done); items = refl; fit = tt }
each_ok f spell Fits one path done (item d ds) out e =
    let w = went _ _ _ e in
    let a = w.value in
    let first = one done (element_at path (length done)) d a w.first in
    let rest = each_ok f spell Fits one path (done ++ a ∷ []) ds out w.then in
    record {
      more = a ∷ rest.more;
      is = rest.is ∙ append_assoc done (a ∷ []) rest.more;
      items = ap₂ item first.0 rest.items;
      fit = (first.1, subst (λ (n : ℕ). FitFrom Fits n rest.more) (last_length done a) rest.fit);
    }

pub each_from : {A : Type 0} (f : List A → List ℕ → Data → Walked A) (spell : A → Data) (Fits : ℕ → A → Type 0)
    → ((done : List A) (path : List ℕ) (a : A) → Fits (length done) a → f done path (spell a) ≡ Ok a)
    → (path : List ℕ) (done more : List A) → FitFrom Fits (length done) more → each f path done (spelled spell more) ≡ Ok (done ++ more)
unfolding each
each_from f spell Fits one path done [] fit = ap Ok (sym (append-nil done))
each_from f spell Fits one path done (a ∷ more) fit =
    then_ok _ a _ (one done (element_at path (length done)) a fit.0)
    ∙ each_from f spell Fits one path (done ++ a ∷ []) more (subst (λ (n : ℕ). FitFrom Fits n more) (sym (last_length done a)) fit.1)
    ∙ ap Ok (append_assoc done (a ∷ []) more)

pub spelled_count : {A : Type 0} (spell : A → Data) (xs : List A) → count_of_items (spelled spell xs) ≡ length xs
spelled_count spell [] = refl
spelled_count spell (a ∷ more) = ap suc (spelled_count spell more)

fixed_ok : (n : ℕ) (path : List ℕ) (d : Data) (ds : Items) → fixed n path d ≡ Ok ds → (d ≡ array ds) × (count_of_items ds ≡ n)
unfolding fixed of_length some_or ◌>>=◌
fixed_ok n path (array es) ds e =
    let is = passed (count_of_items es == n) es ds (Kind path) e in
    (ap array is.1, ap count_of_items (sym is.1) ∙ same_from_test (count_of_items es) n is.0)
fixed_ok n path _ ds e = absurd (cc e)

fixed_from : (n : ℕ) (path : List ℕ) (ds : Items) → count_of_items ds ≡ n → fixed n path (array ds) ≡ Ok ds
unfolding fixed of_length some_or ◌>>=◌
fixed_from n path ds e = rw (test_from_same (count_of_items ds) n e)

-- a value is an array of n elements that spell these, each of which fits at its index
pub record IsArray {A : Type 0} (spell : A → Data) (Fits : ℕ → A → Type 0) (n : ℕ) (d : Data) (xs : List A) : Type 0 where
  pub is : d ≡ array (spelled spell xs)
  pub size : length xs ≡ n
  pub fit : FitFrom Fits 0 xs

pub array_ok : {A : Type 0} (f : List A → List ℕ → Data → Walked A) (spell : A → Data) (Fits : ℕ → A → Type 0)
    → ((done : List A) (path : List ℕ) (d : Data) (a : A) → f done path d ≡ Ok a → (d ≡ spell a) × Fits (length done) a)
    → (n : ℕ) (path : List ℕ) (d : Data) (out : List A) → array_of n f path d ≡ Ok out → IsArray spell Fits n d out
unfolding array_of
array_ok f spell Fits one n path d out e =
    let w = went _ _ _ e in
    let whole = fixed_ok n path d w.value w.first in
    let found = each_ok f spell Fits one path [] w.value out w.then in
    let items : w.value ≡ spelled spell out = found.items ∙ ap (spelled spell) (sym found.is) in
    record {
      is = whole.0 ∙ ap array items;
      size = sym (spelled_count spell out) ∙ ap count_of_items (sym items) ∙ whole.1;
      fit = subst (FitFrom Fits 0) (sym found.is) found.fit;
    }

pub array_from : {A : Type 0} (f : List A → List ℕ → Data → Walked A) (spell : A → Data) (Fits : ℕ → A → Type 0)
    → ((done : List A) (path : List ℕ) (a : A) → Fits (length done) a → f done path (spell a) ≡ Ok a)
    → (n : ℕ) (path : List ℕ) (xs : List A) → length xs ≡ n → FitFrom Fits 0 xs → array_of n f path (array (spelled spell xs)) ≡ Ok xs
unfolding array_of
array_from f spell Fits one n path xs size fit =
    then_ok _ (spelled spell xs) _ (fixed_from n path (spelled spell xs) (spelled_count spell xs ∙ size)) ∙ each_from f spell Fits one path [] xs fit

-- Arrays of numbers
abbrev pub Within : List Limits → ℕ → ℤ → Type 0
Within limits i z = MeetsLimits (limits_at limits i) z

abbrev pub WithinToo : List Limits → ℕ → ℕ → Type 0
WithinToo limits i n = MeetsLimits (limits_at limits i) (pos n)

pub numbers_ok : (limits : List Limits) (path : List ℕ) (d : Data) (zs : List ℤ) → numbers limits path d ≡ Ok zs
    → IsArray integer (Within limits) (length limits) d zs
unfolding numbers number_at
numbers_ok limits path d zs e =
    array_ok (number_at limits) integer (Within limits)
    (λ done p v z is. let number = limited_ok (limits_at limits (length done)) p v z is in (number.is, number.within)) (length limits) path d zs e

pub numbers_from : (limits : List Limits) (path : List ℕ) (zs : List ℤ) → length zs ≡ length limits → FitFrom (Within limits) 0 zs
    → numbers limits path (integers zs) ≡ Ok zs
unfolding numbers number_at
numbers_from limits path zs size fit =
    array_from (number_at limits) integer (Within limits) (λ done p z m. limited_from (limits_at limits (length done)) p z m)
    (length limits) path zs size fit

-- none of some limits allows a number below 0
pub record Natural (limits : List Limits) : Type 0 where
  pub low : (k : ℕ) → pos 0 ≤ℤ (limits_at limits k).low

as_naturals : (limits : List Limits) → Natural limits → (i : ℕ) (zs : List ℤ) → FitFrom (Within limits) i zs
    → (spelled integer zs ≡ spelled natural (map unsigned_abs zs)) × FitFrom (WithinToo limits) i (map unsigned_abs zs)
as_naturals limits lows i [] fit = (refl, tt)
as_naturals limits lows i (z ∷ zs) fit =
    let same : z ≡ pos (unsigned_abs z) = natural_is z (unsigned_abs z) (omega (arith, ints, lows.low i, fit.0.low)) refl in
    let rest = as_naturals limits lows (suc i) zs fit.1 in
    (ap₂ item (ap integer same) rest.0, (subst (MeetsLimits (limits_at limits i)) same fit.0, rest.1))

as_integers : (ns : List ℕ) → spelled natural ns ≡ spelled integer (map pos ns)
as_integers [] = refl
as_integers (n ∷ ns) = ap (item (natural n)) (as_integers ns)

sizes_back : (ns : List ℕ) → map unsigned_abs (map pos ns) ≡ ns
sizes_back [] = refl
sizes_back (n ∷ ns) = ap (λ (ms : List ℕ). n ∷ ms) (sizes_back ns)

fit_as_integers : (limits : List Limits) (i : ℕ) (ns : List ℕ) → FitFrom (WithinToo limits) i ns → FitFrom (Within limits) i (map pos ns)
fit_as_integers limits i [] fit = tt
fit_as_integers limits i (n ∷ ns) fit = (fit.0, fit_as_integers limits (suc i) ns fit.1)

pub three_ok : (limits : List Limits) → Natural limits → (path : List ℕ) (d : Data) (ns : List ℕ) → three limits path d ≡ Ok ns
    → IsArray natural (WithinToo limits) (length limits) d ns
unfolding three
three_ok limits lows path d ns e =
    let w = went _ _ _ e in
    let found = numbers_ok limits path d w.value w.first in
    let same : map unsigned_abs w.value ≡ ns = cc w.then in
    let both = as_naturals limits lows 0 w.value found.fit in
    subst (IsArray natural (WithinToo limits) (length limits) d) same (record {
      is = found.is ∙ ap array both.0;
      size = length-map w.value unsigned_abs ∙ found.size;
      fit = both.1;
    })

pub three_from : (limits : List Limits) (path : List ℕ) (ns : List ℕ) → length ns ≡ length limits → FitFrom (WithinToo limits) 0 ns
    → three limits path (naturals ns) ≡ Ok ns
unfolding three
three_from limits path ns size fit =
    ap (λ (ds : Items). three limits path (array ds)) (as_integers ns)
    ∙ then_ok _ (map pos ns) _ (numbers_from limits path (map pos ns) (length-map ns pos ∙ size) (fit_as_integers limits 0 ns fit))
    ∙ ap Ok (sizes_back ns)

-- three by three
pub three_fit : (Fits : ℕ → ℕ → Type 0) (ns : List ℕ) → length ns ≡ 3 → FitFrom Fits 0 ns → (k : ℕ) → k < 3 → Fits k (slice_index ns k)
three_fit Fits [] size fit k h = absurd (omega (arith, size))
three_fit Fits (a ∷ []) size fit k h = absurd (omega (arith, size))
three_fit Fits (a ∷ b ∷ []) size fit k h = absurd (omega (arith, size))
three_fit Fits (a ∷ b ∷ c ∷ []) size fit zero h = fit.0
three_fit Fits (a ∷ b ∷ c ∷ []) size fit (suc zero) h = fit.1.0
three_fit Fits (a ∷ b ∷ c ∷ []) size fit (suc (suc zero)) h = fit.1.1.0
three_fit Fits (a ∷ b ∷ c ∷ []) size fit (suc (suc (suc k))) h = absurd (omega (arith, h))
three_fit Fits (a ∷ b ∷ c ∷ d ∷ ns) size fit k h = absurd (omega (arith, size))

pub fit_three : (Fits : ℕ → ℕ → Type 0) (ns : List ℕ) → length ns ≡ 3 → Fits 0 (slice_index ns 0) → Fits 1 (slice_index ns 1) → Fits 2 (slice_index ns 2)
    → FitFrom Fits 0 ns
fit_three Fits [] size x y z = absurd (omega (arith, size))
fit_three Fits (a ∷ []) size x y z = absurd (omega (arith, size))
fit_three Fits (a ∷ b ∷ []) size x y z = absurd (omega (arith, size))
fit_three Fits (a ∷ b ∷ c ∷ []) size x y z = (x, (y, (z, tt)))
fit_three Fits (a ∷ b ∷ c ∷ d ∷ ns) size x y z = absurd (omega (arith, size))

pub three_of : (ns : List ℕ) → length ns ≡ 3 → ns ≡ slice_index ns 0 ∷ slice_index ns 1 ∷ slice_index ns 2 ∷ []
three_of [] size = absurd (omega (arith, size))
three_of (a ∷ []) size = absurd (omega (arith, size))
three_of (a ∷ b ∷ []) size = absurd (omega (arith, size))
three_of (a ∷ b ∷ c ∷ []) size = refl
three_of (a ∷ b ∷ c ∷ d ∷ ns) size = absurd (omega (arith, size))

pub thrice_low : (l : Limits) → pos 0 ≤ℤ l.low → Natural (thrice l)
unfolding limits_at
thrice_low l low = record { low = lows l low }
  where
    lows : (m : Limits) → pos 0 ≤ℤ m.low → (k : ℕ) → pos 0 ≤ℤ (limits_at (thrice m) k).low
    lows m is zero = is
    lows m is (suc zero) = is
    lows m is (suc (suc zero)) = is
    lows m is (suc (suc (suc k))) = omega (arith, ints)

-- Keys
pub record Found {A : Type 0} (f : List ℕ → Data → Walked A) (key path : List ℕ) (t : Members) (a : A) : Type 0 where
  pub value : Data
  pub has : Has t key value
  pub reads : f (key_at path key) value ≡ Ok a

pub is_there : {A : Type 0} (q : Fault) (o : Option A) (a : A) → some_or q o ≡ Ok a → o ≡ Some a
unfolding some_or
is_there q (Some b) a e = ap (λ x. Some x) cc
is_there q None a e = absurd (cc e)

pub need_ok : {A : Type 0} (f : List ℕ → Data → Walked A) (key path : List ℕ) (t : Members) (a : A) → need f key path t ≡ Ok a → Found f key path t a
unfolding need needed
need_ok f key path t a e =
    let w = went _ _ _ e in
    record { value = w.value; has = is_there (Missing (key_at path key)) (get_member key t) w.value w.first; reads = w.then }

pub need_from : {A : Type 0} (f : List ℕ → Data → Walked A) (key path : List ℕ) (t : Members) (d : Data) (a : A) → Has t key d
    → f (key_at path key) d ≡ Ok a → need f key path t ≡ Ok a
unfolding need needed
need_from f key path t d a has reads = then_ok _ d _ (there (Missing (key_at path key)) (get_member key t) d has) ∙ reads

-- a number at a key
pub need_whole_ok : (limits : Limits) (key path : List ℕ) (t : Members) (n : ℕ) → pos 0 ≤ℤ limits.low → need (whole limits) key path t ≡ Ok n
    → Has t key (natural n) × MeetsLimits limits (pos n)
need_whole_ok limits key path t n low e =
    let found = need_ok _ key path t n e in
    let number = whole_ok limits (key_at path key) found.value n low found.reads in
    (found.has ∙ ap (λ x. Some x) number.is, number.within)

pub need_whole_from : (limits : Limits) (key path : List ℕ) (t : Members) (n : ℕ) → Has t key (natural n) → MeetsLimits limits (pos n)
    → need (whole limits) key path t ≡ Ok n
need_whole_from limits key path t n has m = need_from _ key path t (natural n) n has (whole_from limits (key_at path key) n m)

-- Tables
known_ok : (path : List ℕ) (o : Option (List ℕ)) (ms t : Members) → known path o ms ≡ Ok t → (o ≡ None) × (ms ≡ t)
unfolding known
known_ok path None ms t e = (refl, cc)
known_ok path (Some k) ms t e = absurd (cc e)

none_first : (b : Bool) (k : List ℕ) (o : Option (List ℕ)) → cond (not b) (Some k) o ≡ None → (b ≡ true) × (o ≡ None)
none_first true k o e = (refl, e)
none_first false k o e = absurd (cc e)

none_listed : (keys ks : List (List ℕ)) → find (λ k. not (is_listed keys k)) ks ≡ None → AllPass (is_listed keys) ks
none_listed keys [] e i d h = absurd (omega (arith, h))
none_listed keys (k ∷ ks) e zero d h = (none_first (is_listed keys k) k (find (λ x. not (is_listed keys x)) ks) e).0
none_listed keys (k ∷ ks) e (suc i) d h =
    none_listed keys ks (none_first (is_listed keys k) k (find (λ x. not (is_listed keys x)) ks) e).1 i d (omega (arith, h))

pub listed_none : (keys ks : List (List ℕ)) → AllPass (is_listed keys) ks → find (λ k. not (is_listed keys k)) ks ≡ None
listed_none keys [] all = refl
listed_none keys (k ∷ ks) all =
    ap (λ (b : Bool). cond (not b) (Some k) (find (λ x. not (is_listed keys x)) ks)) (all 0 [] (omega arith))
    ∙ listed_none keys ks (λ i d h. all (suc i) d (omega (arith, h)))

pub listed_ok : (keys : List (List ℕ)) (path : List ℕ) (ms t : Members) → listed keys path ms ≡ Ok t → (ms ≡ t) × HasOnly keys t
unfolding listed first_unlisted
listed_ok keys path ms t e =
    let is = known_ok path (first_unlisted keys ms) ms t e in
    (is.1, only_from_all keys t (subst (λ (u : Members). AllPass (is_listed keys) (member_keys u)) is.1 (none_listed keys (member_keys ms) is.0)))

pub listed_from : (keys : List (List ℕ)) (path : List ℕ) (t : Members) → HasOnly keys t → listed keys path t ≡ Ok t
unfolding first_unlisted
listed_from keys path t only = known_is keys path t (listed_none keys (member_keys t) (all_from_only keys t only))

pub table_is : (q : Fault) (d : Data) (ms : Members) → some_or q (as_table d) ≡ Ok ms → d ≡ table ms
unfolding some_or
table_is q (table t) ms e = ap table cc
table_is q _ ms e = absurd (cc e)

pub table_ok : (keys : List (List ℕ)) (path : List ℕ) (d : Data) (t : Members) → table_of keys path d ≡ Ok t → (d ≡ table t) × HasOnly keys t
unfolding table_of
table_ok keys path d t e =
    let w = went _ _ _ e in
    let is = listed_ok keys path w.value t w.then in
    (table_is (Kind path) d w.value w.first ∙ ap table is.0, is.1)

pub table_from : (keys : List (List ℕ)) (path : List ℕ) (t : Members) → HasOnly keys t → table_of keys path (table t) ≡ Ok t
unfolding table_of some_or ◌>>=◌
table_from keys path t only = listed_from keys path t only

pub need_table_ok : (keys : List (List ℕ)) (key path : List ℕ) (ms t : Members) → need (table_of keys) key path ms ≡ Ok t
    → Has ms key (table t) × HasOnly keys t
need_table_ok keys key path ms t e =
    let found = need_ok _ key path ms t e in
    let is = table_ok keys (key_at path key) found.value t found.reads in
    (found.has ∙ ap (λ x. Some x) is.0, is.1)

pub need_table_from : (keys : List (List ℕ)) (key path : List ℕ) (ms t : Members) → Has ms key (table t) → HasOnly keys t
    → need (table_of keys) key path ms ≡ Ok t
need_table_from keys key path ms t has only = need_from _ key path ms (table t) t has (table_from keys (key_at path key) t only)

pub table_found : (keys : List (List ℕ)) (key path : List ℕ) (ms t : Members) → need (table_of keys) key path ms ≡ Ok t → members_of (value_at key ms) ≡ t
table_found keys key path ms t e = ap (λ (o : Option Data). members_of (or_empty o)) (need_table_ok keys key path ms t e).0

-- the sizes of spelled naturals
pub sizes_spelled : (ns : List ℕ) → sizes_of (spelled natural ns) ≡ ns
sizes_spelled [] = refl
sizes_spelled (n ∷ ns) = ap (λ (ms : List ℕ). n ∷ ms) (sizes_spelled ns)

-- a key that may be there
given_ok : {A : Type 0} (a : A) (f : List ℕ → Data → Walked A) (path : List ℕ) (o : Option Data) (b : A) → given a f path o ≡ Ok b
    → ((d : Data) × (o ≡ Some d) × (f path d ≡ Ok b)) ⊎ ((o ≡ None) × (a ≡ b))
unfolding given
given_ok a f path None b e = inr (refl, cc e)
given_ok a f path (Some d) b e = inl (d, refl, e)

pub optional_ok : {A : Type 0} (a : A) (f : List ℕ → Data → Walked A) (key path : List ℕ) (t : Members) (b : A) → optional a f key path t ≡ Ok b
    → ((d : Data) × Has t key d × (f (key_at path key) d ≡ Ok b)) ⊎ (Lacks t key × (a ≡ b))
unfolding optional
optional_ok a f key path t b e = given_ok a f (key_at path key) (get_member key t) b e

pub optional_from : {A : Type 0} (a : A) (f : List ℕ → Data → Walked A) (key path : List ℕ) (t : Members) (d : Data) (b : A) → Has t key d
    → f (key_at path key) d ≡ Ok b → optional a f key path t ≡ Ok b
unfolding optional given
optional_from a f key path t d b has reads = rw has reads

pub optional_absent : {A : Type 0} (a : A) (f : List ℕ → Data → Walked A) (key path : List ℕ) (t : Members) → Lacks t key → optional a f key path t ≡ Ok a
unfolding optional given
optional_absent a f key path t lacks = rw lacks
