-- The walk of each kind of value goes along the tests of that kind.
use Rattle.std.proofs.Common.{◌≡◌, ℕ, suc, ℤ, ◌==◌, Bool, true, false, cond, not, map, find, List, [], ◌∷◌, ◌++◌, length}
use Rattle.std.proofs.Common.{Option, Some, None, refl, subst, length-append, arith}
use Rattle.std.specs.Prelude.{is_some}
use Rattle.toml.specs.Data.{Data, integer, array, table, Items, no_items, item, Members, get_member}
use Rattle.pic_walk.specs.declared.fault.Fault.TheVariants.{Unknown, Missing, Kind, Limit}
use Rattle.pic_walk.specs.declared.limits.Limits.{Limits}
use Rattle.pic_walk.specs.Limits.{is_within, limits_at}
use Rattle.pic_walk.specs.Path.{key_at, element_at}
use Rattle.pic_walk.specs.Walk.{Walked, ◌>>=◌, some_or, number, within, limited, whole, count_of_items, of_length, fixed, each, array_of, number_at}
use Rattle.pic_walk.specs.Walk.{numbers, three, multiplier_limits, multiplier, member_keys, is_listed, first_unlisted, known, listed, table_of}
use Rattle.pic_walk.specs.Walk.{needed, need, given, optional}
use Rattle.pic_deck_laws.specs.Tests.{Test, test}
use Rattle.pic_deck_laws.specs.ValueTests.{limit_test, number_tests, element_tests, array_tests, numbers_tests, listed_tests, table_tests}
use Rattle.pic_deck_laws.specs.ValueTests.{tests_there, optional_tests, needed_tests}
use Rattle.pic_deck_laws.proofs.TestLaws.{Along, then_along, last_along, test_along, test_then}

pub within_along : (limits : Limits) (path : List ℕ) (z : ℤ) → Along (limit_test limits path z ∷ []) (within limits path z)
unfolding within limit_test
within_along limits path z = test_along (is_within limits z) z (Limit path z limits.low limits.high)

pub within_then : {B : Type 0} {us : List Test} (limits : Limits) (path : List ℕ) (z : ℤ) (f : ℤ → Walked B) → Along us (f z)
    → Along (limit_test limits path z ∷ us) (within limits path z >>= f)
unfolding within limit_test
within_then limits path z f later = test_then (is_within limits z) z (Limit path z limits.low limits.high) f later

pub number_along : (limits : Limits) (path : List ℕ) (d : Data) → Along (number_tests limits path d) (limited limits path d)
unfolding limited number some_or ◌>>=◌ number_tests
number_along limits path (integer z) = record { is = (within_along limits path z).is }
number_along limits path _ = record { is = refl }

pub whole_along : (limits : Limits) (path : List ℕ) (d : Data) → Along (number_tests limits path d) (whole limits path d)
unfolding whole
whole_along limits path d = last_along _ _ (number_along limits path d)

-- one element more
pub last_length : {A : Type 0} (done : List A) (a : A) → length (done ++ a ∷ []) ≡ suc (length done)
last_length done a = omega (arith, length-append done (a ∷ []))

pub each_along : {A : Type 0} (f : List A → List ℕ → Data → Walked A) (tests : ℕ → List ℕ → Data → List Test)
    → ((done : List A) (path : List ℕ) (d : Data) → Along (tests (length done) path d) (f done path d))
    → (path : List ℕ) (done : List A) (ds : Items) → Along (element_tests tests path (length done) ds) (each f path done ds)
unfolding each element_tests
each_along f tests one path done no_items = record { is = refl }
each_along f tests one path done (item d ds) =
    then_along _ _ (one done (element_at path (length done)) d)
    (λ a is. subst (λ (n : ℕ). Along (element_tests tests path n ds) (each f path (done ++ a ∷ []) ds)) (last_length done a)
    (each_along f tests one path (done ++ a ∷ []) ds))

pub array_along : {A : Type 0} (n : ℕ) (f : List A → List ℕ → Data → Walked A) (tests : ℕ → List ℕ → Data → List Test)
    → ((done : List A) (path : List ℕ) (d : Data) → Along (tests (length done) path d) (f done path d))
    → (path : List ℕ) (d : Data) → Along (array_tests n tests path d) (array_of n f path d)
unfolding array_of fixed of_length some_or ◌>>=◌ array_tests
array_along n f tests one path (array ds) =
    record { is = (test_then (count_of_items ds == n) ds (Kind path) (each f path []) (each_along f tests one path [] ds)).is }
array_along n f tests one path _ = record { is = refl }

pub numbers_along : (limits : List Limits) (path : List ℕ) (d : Data) → Along (numbers_tests limits path d) (numbers limits path d)
unfolding numbers number_at numbers_tests
numbers_along limits path d =
    array_along (length limits) (number_at limits) (λ i. number_tests (limits_at limits i))
    (λ done p e. number_along (limits_at limits (length done)) p e) path d

pub three_along : (limits : List Limits) (path : List ℕ) (d : Data) → Along (numbers_tests limits path d) (three limits path d)
unfolding three
three_along limits path d = last_along _ _ (numbers_along limits path d)

pub multiplier_along : (path : List ℕ) (d : Data) → Along (numbers_tests multiplier_limits path d) (multiplier path d)
unfolding multiplier
multiplier_along path d = last_along _ _ (numbers_along multiplier_limits path d)

-- the keys of a table
known_more : (b : Bool) (path k : List ℕ) (o : Option (List ℕ)) (ms : Members) (ts : List Test) → Along ts (known path o ms)
    → Along (test b (Unknown (key_at path k)) ∷ ts) (known path (cond (not b) (Some k) o) ms)
unfolding known
known_more true path k o ms ts later = record { is = later.is }
known_more false path k o ms ts later = record { is = refl }

known_along : (keys : List (List ℕ)) (path : List ℕ) (ms : Members) (ks : List (List ℕ))
    → Along (map (λ k. test (is_listed keys k) (Unknown (key_at path k))) ks) (known path (find (λ k. not (is_listed keys k)) ks) ms)
unfolding known
known_along keys path ms [] = record { is = refl }
known_along keys path ms (k ∷ ks) = known_more (is_listed keys k) path k _ ms _ (known_along keys path ms ks)

pub listed_along : (keys : List (List ℕ)) (path : List ℕ) (ms : Members) → Along (listed_tests keys path ms) (listed keys path ms)
unfolding listed first_unlisted listed_tests
listed_along keys path ms = known_along keys path ms (member_keys ms)

pub table_along : (keys : List (List ℕ)) (path : List ℕ) (d : Data) → Along (table_tests keys path d) (table_of keys path d)
unfolding table_of some_or ◌>>=◌ table_tests
table_along keys path (table ms) = record { is = (listed_along keys path ms).is }
table_along keys path _ = record { is = refl }

-- the value at a key
there_along : {A : Type 0} (f : List ℕ → Data → Walked A) (tests : List ℕ → Data → List Test) → ((path : List ℕ) (d : Data) → Along (tests path d) (f path d))
    → (path : List ℕ) (o : Option Data) → Along (test (is_some o) (Missing path) ∷ tests_there (tests path) o) (some_or (Missing path) o >>= f path)
unfolding some_or ◌>>=◌
there_along f tests one path None = record { is = refl }
there_along f tests one path (Some d) = record { is = (one path d).is }

pub need_along : {A : Type 0} (f : List ℕ → Data → Walked A) (tests : List ℕ → Data → List Test)
    → ((path : List ℕ) (d : Data) → Along (tests path d) (f path d))
    → (key path : List ℕ) (t : Members) → Along (needed_tests tests key path t) (need f key path t)
unfolding need needed needed_tests
need_along f tests one key path t = there_along f tests one (key_at path key) (get_member key t)

given_along : {A : Type 0} (a : A) (f : List ℕ → Data → Walked A) (tests : List ℕ → Data → List Test)
    → ((path : List ℕ) (d : Data) → Along (tests path d) (f path d))
    → (path : List ℕ) (o : Option Data) → Along (tests_there (tests path) o) (given a f path o)
unfolding given
given_along a f tests one path None = record { is = refl }
given_along a f tests one path (Some d) = one path d

pub optional_along : {A : Type 0} (a : A) (f : List ℕ → Data → Walked A) (tests : List ℕ → Data → List Test)
    → ((path : List ℕ) (d : Data) → Along (tests path d) (f path d))
    → (key path : List ℕ) (t : Members) → Along (optional_tests tests key path t) (optional a f key path t)
unfolding optional optional_tests
optional_along a f tests one key path t = given_along a f tests one (key_at path key) (get_member key t)
