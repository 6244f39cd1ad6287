-- Slots of which none stands twice.
use Rattle.std.specs.Prelude.{◌≡◌, ℕ, List, [], ◌∷◌}
use mathlib.Core.Option.{none}
use Rattle.pic_yard.specs.Fronts.{seek}

module _ {S : Type 0} where
  -- no slot stands twice in a list
  abbrev pub Apart : List (ℕ × S) → Type 0
  Apart [] = Unit {0}
  Apart (x ∷ xs) = (seek x.0 xs ≡ none) × Apart xs
