-- A walk through a document, this project's profile: it gives a value, or the one fault that it
-- meets first. What table a text is, is `toml`'s definition.
use Rattle.std.specs.Prelude.{◌≡◌, ⊤, ℤ, pos, neg_ℤ, ℕ, suc, Bool, true, not, ◌&&◌, ◌==◌, unsigned_abs, if◌then◌else◌, List}
use Rattle.std.specs.Prelude.{[], ◌∷◌, ◌++◌, length, map, find, bytes_eq, slice_index_or, Option, Some, None, Result, Ok, Err}
use Rattle.std.specs.List.{list_any}
use Rattle.toml.specs.Data.{Data, Items, no_items, item, Members, no_members, member, as_str, as_integer, as_array, as_table, get_member, is_before}
use Rattle.pic_num.specs.Limits.{most_numerator, most_shift}
use Rattle.pic_num.specs.Multiplier.{Multiplier}
use Rattle.pic_walk.specs.declared.fault.Fault.{Fault}
use Rattle.pic_walk.specs.declared.fault.Fault.TheVariants.{Unknown, Missing, Kind, Limit}
use Rattle.pic_walk.specs.declared.fault.WalkStop.{WalkStop}
use Rattle.pic_walk.specs.declared.fault.WalkStop.TheVariants.{Found, NoMemory}
use Rattle.pic_walk.specs.declared.limits.Limits.{Limits}
use Rattle.pic_walk.specs.Limits.{from_to, is_within, limits_at, any_limits}
use Rattle.pic_walk.specs.Path.{key_at, element_at}

-- what a walk gives
abbrev pub Walked : Type 0 → Type 0
Walked A = Result A Fault

-- one walk, and then another from its value
infixl 10 ◌>>=◌
unfoldable pub ◌>>=◌ : {A B : Type 0} → Walked A → (A → Walked B) → Walked B
Ok a >>= f = f a
Err r >>= f = Err r

-- the value, or this fault where there is none
unfoldable pub some_or : {A : Type 0} → Fault → Option A → Walked A
some_or r (Some a) = Ok a
some_or r None = Err r

-- a whole number
unfoldable pub number : List ℕ → Data → Walked ℤ
number path d = some_or (Kind path) (as_integer d)

-- the number, within its limits
unfoldable pub within : Limits → List ℕ → ℤ → Walked ℤ
within limits path z =
    if is_within limits z then Ok z else Err (Limit path z limits.low limits.high)

-- a whole number within its limits
unfoldable pub limited : Limits → List ℕ → Data → Walked ℤ
limited limits path d = number path d >>= within limits path

-- the same, where the limits allow no number below 0
unfoldable pub whole : Limits → List ℕ → Data → Walked ℕ
whole limits path d = limited limits path d >>= (λ z. Ok (unsigned_abs z))

-- how many items
abbrev pub count_of_items : Items → ℕ
count_of_items no_items = 0
count_of_items (item d ds) = suc (count_of_items ds)

-- the items, of which there have to be n
unfoldable pub of_length : ℕ → List ℕ → Items → Walked Items
of_length n path ds = if count_of_items ds == n then Ok ds else Err (Kind path)

-- an array of n elements
unfoldable pub fixed : ℕ → List ℕ → Data → Walked Items
fixed n path d = some_or (Kind path) (as_array d) >>= of_length n path

-- the elements one after another, each by f, which sees what the earlier ones gave
unfoldable pub each : {A : Type 0} → (List A → List ℕ → Data → Walked A) → List ℕ → List A → Items → Walked (List A)
each f path done no_items = Ok done
each f path done (item d ds) = f done (element_at path (length done)) d >>= (λ a. each f path (done ++ a ∷ []) ds)

-- an array of any number of elements
unfoldable pub elements : List ℕ → Data → Walked Items
elements path d = some_or (Kind path) (as_array d)

-- the same, each element by f
unfoldable pub list_by : {A : Type 0} → (List A → List ℕ → Data → Walked A) → List ℕ → Data → Walked (List A)
list_by f path d = elements path d >>= each f path []

-- an array of n elements, each by f
unfoldable pub array_of : {A : Type 0} → ℕ → (List A → List ℕ → Data → Walked A) → List ℕ → Data → Walked (List A)
array_of n f path d = fixed n path d >>= each f path []

-- the next number, within its own limits
unfoldable pub number_at : List Limits → List ℤ → List ℕ → Data → Walked ℤ
number_at limits done path d = limited (limits_at limits (length done)) path d

-- an array of numbers, each within its own limits
unfoldable pub numbers : List Limits → List ℕ → Data → Walked (List ℤ)
numbers limits path d = array_of (length limits) (number_at limits) path d

-- the number at an index, which isn't below 0
abbrev pub natural_at : List ℤ → ℕ → ℕ
natural_at zs i = unsigned_abs (slice_index_or zs i (pos 0))

-- three numbers by axis, where the limits allow none below 0
unfoldable pub three : List Limits → List ℕ → Data → Walked (List ℕ)
three limits path d = numbers limits path d >>= (λ zs. Ok (map unsigned_abs zs))

-- three numbers of 64 bits
abbrev pub any_three : List Limits
any_three = any_limits ∷ any_limits ∷ any_limits ∷ []

-- a text
unfoldable pub text : List ℕ → Data → Walked (List ℕ)
text path d = some_or (Kind path) (as_str d)

-- the limits of n and k in [n, k], a multiplier
abbrev pub multiplier_limits : List Limits
multiplier_limits = from_to (neg_ℤ (pos most_numerator)) (pos most_numerator) ∷ from_to (pos 0) (pos most_shift) ∷ []

-- an array [n, k] as the multiplier n / 2^k
unfoldable pub multiplier : List ℕ → Data → Walked Multiplier
multiplier path d =
    numbers multiplier_limits path d >>= (λ zs. Ok (record { n = slice_index_or zs 0 (pos 0); k = unsigned_abs (slice_index_or zs 1 (pos 0)) }))

-- the keys of a table, in its order
abbrev pub member_keys : Members → List (List ℕ)
member_keys no_members = []
member_keys (member k d ms) = k ∷ member_keys ms

-- each key comes before the next one, byte by byte
abbrev pub keys_ascend : Members → Bool
keys_ascend no_members = true
keys_ascend (member k d ms) = is_before k ms && keys_ascend ms

-- the key is one of the listed ones
abbrev pub is_listed : List (List ℕ) → List ℕ → Bool
is_listed keys key = list_any (λ k. bytes_eq k key) keys

-- the first key that isn't listed, which is the least of those where the keys ascend
unfoldable pub first_unlisted : List (List ℕ) → Members → Option (List ℕ)
first_unlisted keys ms = find (λ k. not (is_listed keys k)) (member_keys ms)

-- a table's members, unless a key is unknown
unfoldable pub known : List ℕ → Option (List ℕ) → Members → Walked Members
known path None ms = Ok ms
known path (Some k) ms = Err (Unknown (key_at path k))

-- a table's members, which have only listed keys
unfoldable pub listed : List (List ℕ) → List ℕ → Members → Walked Members
listed keys path ms = known path (first_unlisted keys ms) ms

-- a table which has only listed keys
unfoldable pub table_of : List (List ℕ) → List ℕ → Data → Walked Members
table_of keys path d = some_or (Kind path) (as_table d) >>= listed keys path

-- the value at a key of the table at a path
unfoldable pub needed : List ℕ → List ℕ → Members → Walked Data
needed key path ms = some_or (Missing (key_at path key)) (get_member key ms)

-- that value, by f
unfoldable pub need : {A : Type 0} → (List ℕ → Data → Walked A) → List ℕ → List ℕ → Members → Walked A
need f key path ms = needed key path ms >>= f (key_at path key)

-- the value at a path by f, or another one where there is no value
unfoldable pub given : {A : Type 0} → A → (List ℕ → Data → Walked A) → List ℕ → Option Data → Walked A
given a f path None = Ok a
given a f path (Some d) = f path d

-- the value at a key by f, or another one where the key is absent
unfoldable pub optional : {A : Type 0} → A → (List ℕ → Data → Walked A) → List ℕ → List ℕ → Members → Walked A
optional a f key path ms = given a f (key_at path key) (get_member key ms)

-- the walk stops for this fault, or for want of memory
abbrev pub IsFault : Fault → WalkStop → Type 0
IsFault r (Found q) = q ≡ r
IsFault r NoMemory = ⊤

-- a call's answer is what the walk gives, or want of memory
abbrev pub AnswersWalk : {A B : Type 0} → (B → A) → Walked A → Result B WalkStop → Type 0
AnswersWalk seen w (Ok b) = w ≡ Ok (seen b)
AnswersWalk seen w (Err (Found r)) = w ≡ Err r
AnswersWalk seen w (Err NoMemory) = ⊤

-- the same as a record, of which lemmas find their arguments; `seen` is what a value stands for
pub record WalksAs {A B : Type 0} (seen : B → A) (w : Walked A) (r : Result B WalkStop) : Type 0 where
  pub answer : AnswersWalk seen w r
