-- The first elements of a list.
use Rattle.std.specs.Prelude.{ℕ, ◌<◌, List, get_or}

-- each of the first n is so
abbrev pub FirstAre : {A : Type 0} → (A → Type 0) → ℕ → List A → Type 0
FirstAre {A = A} Is n xs = (k : ℕ) (d : A) → k < n → Is (get_or xs k d)
