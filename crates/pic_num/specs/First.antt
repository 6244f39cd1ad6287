use Rattle.std.specs.Prelude.{List, [], ◌∷◌, Option, None}
use Rattle.std.specs.Option.{option_or}

-- what g finds first along a list
unfoldable pub first_of : {X A : Type 0} → (X → Option A) → List X → Option A
first_of g [] = None
first_of g (x ∷ xs) = option_or (g x) (first_of g xs)
