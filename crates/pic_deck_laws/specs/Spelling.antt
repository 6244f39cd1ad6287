-- What stands in a document: how it spells numbers and arrays of numbers, and what a table has at a key.
use Rattle.std.specs.Prelude.{◌≡◌, ℕ, ℤ, pos, false, List, [], ◌∷◌, length, take, slice_get, Some, None}
use Rattle.toml.specs.Data.{Data, integer, array, table, Items, no_items, item, Members, get_member, get_item}
use Rattle.pic_num.specs.Multiplier.{Multiplier}
use Rattle.pic_num.specs.Space.{Triple}
use Rattle.pic_walk.specs.Walk.{count_of_items, is_listed}

-- a natural number
abbrev pub natural : ℕ → Data
natural n = integer (pos n)

-- the elements of an array, each by its own spelling
abbrev pub spelled : {A : Type 0} → (A → Data) → List A → Items
spelled spell [] = no_items
spelled spell (a ∷ more) = item (spell a) (spelled spell more)

-- an array of whole numbers
abbrev pub integers : List ℤ → Data
integers zs = array (spelled integer zs)

-- an array of natural numbers
abbrev pub naturals : List ℕ → Data
naturals ns = array (spelled natural ns)

-- three natural numbers by axis
abbrev pub by_axis : Triple → Data
by_axis n = naturals (n.x ∷ n.y ∷ n.z ∷ [])

-- a multiplier n / 2^k as [n, k]
abbrev pub fraction : Multiplier → Data
fraction m = integers (m.n ∷ pos m.k ∷ [])

-- a table has this value at the key
abbrev pub Has : Members → List ℕ → Data → Type 0
Has t key d = get_member key t ≡ Some d

-- it has no such key
abbrev pub Lacks : Members → List ℕ → Type 0
Lacks t key = get_member key t ≡ None

-- it has no other keys than the listed ones
abbrev pub HasOnly : List (List ℕ) → Members → Type 0
HasOnly keys t = (key : List ℕ) → is_listed keys key ≡ false → Lacks t key

-- it has a table at the key, of which this holds
pub record HasTable (t : Members) (key : List ℕ) (P : Members → Type 0) : Type 0 where
  pub members : Members
  pub there : Has t key (table members)
  pub holds : P members

-- some elements spell these, each after those before it
pub record AreElements {A : Type 0} (Spells : List A → Data → A → Type 0) (ds : Items) (xs : List A) : Type 0 where
  pub count : count_of_items ds ≡ length xs
  pub each : (i : ℕ) (d : Data) (a : A) → get_item i ds ≡ Some d → slice_get xs i ≡ Some a → Spells (take i xs) d a

-- a value is an array whose elements spell these
pub record IsArrayOf {A : Type 0} (Spells : List A → Data → A → Type 0) (d : Data) (xs : List A) : Type 0 where
  pub items : Items
  pub there : d ≡ array items
  pub elements : AreElements Spells items xs

-- a value is a table of which this holds
pub record IsTable (d : Data) (P : Members → Type 0) : Type 0 where
  pub members : Members
  pub there : d ≡ table members
  pub holds : P members

-- a table has at the key a value of which this holds
pub record HasSuch (t : Members) (key : List ℕ) (P : Data → Type 0) : Type 0 where
  pub value : Data
  pub there : Has t key value
  pub holds : P value
