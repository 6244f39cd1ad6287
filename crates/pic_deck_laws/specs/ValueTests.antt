-- The tests of a value, of the elements of an array and of the keys of a table. Each stands on look-ups
-- alone. What a look-up doesn't find counts as 0 or as empty: an earlier test fails then, or the key may be
-- left out.
use Rattle.std.specs.Prelude.{ℕ, zero, suc, ℤ, pos, ◌==◌, unsigned_abs, List, [], ◌∷◌, ◌++◌, length, map, is_some, Option, Some, None}
use Rattle.toml.specs.Data.{Data, integer, array, table, Items, no_items, item, Members, no_members, get_member}
use Rattle.toml.specs.Data.{as_integer, as_array, as_table}
use Rattle.pic_walk.specs.declared.fault.Fault.TheVariants.{Unknown, Missing, Kind, Limit}
use Rattle.pic_walk.specs.declared.limits.Limits.{Limits}
use Rattle.pic_walk.specs.Limits.{is_within, limits_at}
use Rattle.pic_walk.specs.Path.{key_at, element_at}
use Rattle.pic_walk.specs.Walk.{count_of_items, is_listed, member_keys}
use Rattle.pic_deck_laws.specs.Tests.{Test, test}

-- the number that a value is
abbrev pub number_of : Data → ℤ
number_of (integer z) = z
number_of _ = pos 0

-- the elements that a value has
abbrev pub items_of : Data → Items
items_of (array ds) = ds
items_of _ = no_items

-- the keys that a value has
abbrev pub members_of : Data → Members
members_of (table ms) = ms
members_of _ = no_members

-- the sizes of the numbers among some elements
abbrev pub sizes_of : Items → List ℕ
sizes_of no_items = []
sizes_of (item d ds) = unsigned_abs (number_of d) ∷ sizes_of ds

-- the value that there is, or an empty table
abbrev pub or_empty : Option Data → Data
or_empty None = table no_members
or_empty (Some d) = d

-- the value at a key
abbrev pub value_at : List ℕ → Members → Data
value_at key t = or_empty (get_member key t)

-- a number is within its limits
unfoldable pub limit_test : Limits → List ℕ → ℤ → Test
limit_test limits path z = test (is_within limits z) (Limit path z limits.low limits.high)

-- a whole number within its limits
unfoldable pub number_tests : Limits → List ℕ → Data → List Test
number_tests limits path d =
    test (is_some (as_integer d)) (Kind path)
    ∷ limit_test limits path (number_of d)
    ∷ []

-- the elements one after another, from the number i on
unfoldable pub element_tests : (ℕ → List ℕ → Data → List Test) → List ℕ → ℕ → Items → List Test
element_tests tests path i no_items = []
element_tests tests path i (item d ds) =
    tests i (element_at path i) d ++ element_tests tests path (suc i) ds

-- an array of n elements
unfoldable pub array_tests : ℕ → (ℕ → List ℕ → Data → List Test) → List ℕ → Data → List Test
array_tests n tests path d =
    test (is_some (as_array d)) (Kind path)
    ∷ test (count_of_items (items_of d) == n) (Kind path)
    ∷ element_tests tests path zero (items_of d)

-- an array of numbers, each within its own limits
unfoldable pub numbers_tests : List Limits → List ℕ → Data → List Test
numbers_tests limits path d = array_tests (length limits) (λ i. number_tests (limits_at limits i)) path d

-- an array of any number of elements
unfoldable pub list_tests : (ℕ → List ℕ → Data → List Test) → List ℕ → Data → List Test
list_tests tests path d =
    test (is_some (as_array d)) (Kind path) ∷ element_tests tests path zero (items_of d)

-- how many elements there are
unfoldable pub count_test : Limits → List ℕ → Data → Test
count_test limits path d = limit_test limits path (pos (count_of_items (items_of d)))

-- the elements one by one, and then how many there are
unfoldable pub counted_tests : Limits → (ℕ → List ℕ → Data → List Test) → List ℕ → Data → List Test
counted_tests limits tests path d = list_tests tests path d ++ (count_test limits path d ∷ [])

-- how many elements there are, and then each
unfoldable pub limited_tests : Limits → (ℕ → List ℕ → Data → List Test) → List ℕ → Data → List Test
limited_tests limits tests path d =
    test (is_some (as_array d)) (Kind path)
    ∷ count_test limits path d
    ∷ element_tests tests path zero (items_of d)

-- each key of a table, in its order, which ascends byte by byte, is a listed one
unfoldable pub listed_tests : List (List ℕ) → List ℕ → Members → List Test
listed_tests keys path ms = map (λ k. test (is_listed keys k) (Unknown (key_at path k))) (member_keys ms)

-- a table, which has only listed keys
unfoldable pub table_tests : List (List ℕ) → List ℕ → Data → List Test
table_tests keys path d = test (is_some (as_table d)) (Kind path) ∷ listed_tests keys path (members_of d)

-- those of a value, where it is there
abbrev pub tests_there : (Data → List Test) → Option Data → List Test
tests_there tests None = []
tests_there tests (Some d) = tests d

-- a key that may be there
unfoldable pub optional_tests : (List ℕ → Data → List Test) → List ℕ → List ℕ → Members → List Test
optional_tests tests key path t = tests_there (tests (key_at path key)) (get_member key t)

-- a key that has to be there
unfoldable pub needed_tests : (List ℕ → Data → List Test) → List ℕ → List ℕ → Members → List Test
needed_tests tests key path t =
    test (is_some (get_member key t)) (Missing (key_at path key))
    ∷ tests_there (tests (key_at path key)) (get_member key t)
