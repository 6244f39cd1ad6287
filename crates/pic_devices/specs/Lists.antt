-- A list of a document whose length has limits of its own: the walk of it.
use Rattle.std.specs.Prelude.{ℕ, pos, List, length, Ok}
use Rattle.toml.specs.Data.{Data}
use Rattle.pic_walk.specs.declared.limits.Limits.{Limits}
use Rattle.pic_walk.specs.Walk.{Walked, ◌>>=◌, within, list_by}

-- a list, of which there are neither too few nor too many
unfoldable pub counted : {A : Type 0} → Limits → List ℕ → List A → Walked (List A)
counted limits path xs = within limits path (pos (length xs)) >>= (λ _. Ok xs)

-- a list, each element by f, and then how many there are
unfoldable pub list_within : {A : Type 0} → Limits → (List A → List ℕ → Data → Walked A) → List ℕ → Data → Walked (List A)
list_within limits f path d = list_by f path d >>= counted limits path
