-- Lists as sets, and how many numbers pass a test.
use Rattle.std.specs.Prelude.{◌≡◌, ℕ, zero, suc, ◌+◌, List, [], ◌∷◌, ◌⊎◌, Bool, ◌&&◌, eqb}
use Rattle.std.specs.Prelude.{if◌then◌else◌}

module _ {A : Type 0} where
  -- x is one of the list
  abbrev pub In : A → List A → Type 0
  In x [] = ⊥
  In x (y ∷ ys) = (x ≡ y) ⊎ In x ys

  -- no element stands twice in the list
  abbrev pub Differ : List A → Type 0
  Differ [] = Unit {0}
  Differ (x ∷ xs) = (In x xs → ⊥) × Differ xs

  -- all of the list that the test does not find
  abbrev pub without : (A → Bool) → List A → List A
  without found [] = []
  without found (x ∷ xs) = if found x then without found xs else x ∷ without found xs

-- the test for one pair of numbers
abbrev pub same_pair : ℕ → ℕ → ℕ × ℕ → Bool
same_pair r d pair = eqb pair.0 r && eqb pair.1 d

-- how many of the numbers below n pass the test
unfoldable pub count_below : (ℕ → Bool) → ℕ → ℕ
count_below test zero = zero
count_below test (suc n) = (if test n then 1 else 0) + count_below test n
