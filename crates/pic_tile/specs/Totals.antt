-- Totals over the numbers below one, and lists in a row.
use Rattle.std.specs.Prelude.{ℕ, zero, suc, ◌+◌, List}
use Rattle.std.specs.List.{flat_map}

-- the sum of the natural numbers f 0, f 1, .. below n
unfoldable pub total_below : ℕ → (ℕ → ℕ) → ℕ
total_below zero f = 0
total_below (suc n) f = total_below n f + f n

-- the elements of all lists, one list after another
unfoldable pub together : {X : Type 0} → List (List X) → List X
together lists = flat_map (λ xs. xs) lists
