-- The sources that a species may have its particles from, this project's profile: the first that is there
-- counts, and no further one may be.
use Rattle.std.specs.Prelude.{ℕ, Bool, is_some, find, if◌then◌else◌, List, [], ◌∷◌, ◌==◌, codes, Option, Some, None, Ok, Err}
use Rattle.toml.specs.Data.{Members, get_member}
use Rattle.pic_walk.specs.declared.fault.Fault.TheVariants.{Unknown, Missing}
use Rattle.pic_walk.specs.declared.fill_kind.FillKind.{FillKind}
use Rattle.pic_walk.specs.declared.fill_kind.FillKind.TheVariants.{Points, Lattice, Random, Pair, Displace}
use Rattle.pic_walk.specs.Path.{key_at}
use Rattle.pic_walk.specs.Walk.{Walked}

-- the sources that a species may have, in the order in which they count: a deck of version 1 displaces none
abbrev pub sources : ℕ → List FillKind
sources version =
    if version == 1 then Points ∷ Lattice ∷ Random ∷ Pair ∷ []
    else Points ∷ Lattice ∷ Random ∷ Pair ∷ Displace ∷ []

abbrev pub source_key : FillKind → List ℕ
source_key Points = codes "points"
source_key Lattice = codes "lattice"
source_key Random = codes "random"
source_key Pair = codes "pair"
source_key Displace = codes "displace"

-- whether a table has a source
abbrev pub has : Members → FillKind → Bool
has t s = is_some (get_member (source_key s) t)

-- a source, where no further one is there
unfoldable pub alone : List ℕ → FillKind → Option FillKind → Walked FillKind
alone path s None = Ok s
alone path s (Some further) = Err (Unknown (key_at path (source_key further)))

-- the first of some sources that is there, and no further one
unfoldable pub only : List ℕ → Members → List FillKind → Walked FillKind
only path t [] = Err (Missing (key_at path (codes "points")))
only path t (s ∷ ss) = if has t s then alone path s (find (has t) ss) else only path t ss
