-- The slots that a seat holds: which value has which slot, and one slot brought to the front.
use Rattle.std.specs.Prelude.{◌≡◌, ℕ, List, [], ◌∷◌, eqb, if◌then◌else◌}
use mathlib.Core.Option.{Option, none, some}

module _ {S : Type 0} where
  -- what the first slot of that number has, if there is one
  abbrev pub seek : ℕ → List (ℕ × S) → Option S
  seek k [] = none
  seek k (x ∷ xs) = if eqb x.0 k then some x.1 else seek k xs

  -- a slot of that number is there
  abbrev pub IsHeld : ℕ → List (ℕ × S) → Type 0
  IsHeld k xs = (y : S) × (seek k xs ≡ some y)

  -- the slots without the first of that number
  abbrev pub drop_slot : ℕ → List (ℕ × S) → List (ℕ × S)
  drop_slot k [] = []
  drop_slot k (x ∷ xs) = if eqb x.0 k then xs else x ∷ drop_slot k xs

  abbrev pub put_first : ℕ → Option S → List (ℕ × S) → List (ℕ × S)
  put_first k none xs = xs
  put_first k (some y) xs = (k, y) ∷ xs

  -- the first slot of that number comes before all others; without one nothing changes
  abbrev pub to_front : ℕ → List (ℕ × S) → List (ℕ × S)
  to_front k xs = put_first k (seek k xs) (drop_slot k xs)
