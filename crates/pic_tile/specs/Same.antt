-- Lists in any order.
use Rattle.std.specs.Prelude.{◌≡◌, ℕ, List}
use Rattle.std.specs.List.{sum_by}

-- two lists have the same elements in any order: every weight of elements has one sum over both
pub record Same {X : Type 0} (xs ys : List X) : Type 0 where
  pub sums : (w : X → ℕ) → sum_by w xs ≡ sum_by w ys
