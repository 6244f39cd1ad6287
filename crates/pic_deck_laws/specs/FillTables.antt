-- What fills a species, with no walk from key to key: what the value of each source spells.
use Rattle.std.specs.Prelude.{◌≡◌, ℕ, ℤ, position, bytes_eq, All, filter, List, [], ◌∷◌, length, codes, Some}
use Rattle.toml.specs.Data.{Data, string, Members}
use Rattle.pic_walk.specs.declared.displacement.Displacement.{Displacement}
use Rattle.pic_walk.specs.declared.draw.Draw.{Draw}
use Rattle.pic_walk.specs.declared.fill_kind.FillKind.{FillKind}
use Rattle.pic_walk.specs.declared.fill_kind.FillKind.TheVariants as source
use Rattle.pic_walk.specs.declared.point6.Point6.{Point6}
use Rattle.pic_walk.specs.declared.sites.Sites.{Sites}
use Rattle.pic_walk.specs.FillKind.{sources, has}
use Rattle.pic_deck.specs.declared.species.Fill.{Fill}
use Rattle.pic_deck.specs.declared.species.Fill.TheVariants.{Points, Lattice, Random, Pair, Displace}
use Rattle.pic_deck.specs.declared.species.Species.{Species}
use Rattle.pic_deck.specs.Fill.{lattice_keys, random_keys, pair_keys, displace_keys}
use Rattle.pic_deck_laws.specs.NumberRows.{point_numbers, rows}
use Rattle.pic_deck_laws.specs.Spelling.{natural, integers, naturals, Has, HasOnly, IsTable}

-- of the sources that a version has, a table has this one alone
abbrev pub HasAlone : ℕ → Members → FillKind → Type 0
HasAlone version t k = filter (has t) (sources version) ≡ k ∷ []

-- a table has three natural numbers at the key
pub record HasThree (t : Members) (key : List ℕ) (ns : List ℕ) : Type 0 where
  pub there : Has t key (naturals ns)
  pub three : length ns ≡ 3

-- it has three whole numbers there
pub record HasSigned (t : Members) (key : List ℕ) (zs : List ℤ) : Type 0 where
  pub there : Has t key (integers zs)
  pub three : length zs ≡ 3

-- it has the name of an earlier species, of which this is the number
pub record HasNameOf (t : Members) (done : List Species) (number : ℕ) : Type 0 where
  pub name : List ℕ
  pub there : Has t (codes "of") (string name)
  pub found : position (λ o. bytes_eq o.name name) done ≡ Some number

-- a place and a velocity of three numbers each
pub record IsSix (p : Point6) : Type 0 where
  pub places : length p.x ≡ 3
  pub speeds : length p.v ≡ 3

-- the sites of a lattice
pub record SpellsSites (t : Members) (s : Sites) : Type 0 where
  pub keys : HasOnly lattice_keys t
  pub first : HasThree t (codes "first") s.first
  pub gap : HasThree t (codes "gap") s.gap
  pub count : HasThree t (codes "count") s.count
  pub v : HasSigned t (codes "v") s.v

-- how particles are drawn
pub record SpellsDraw (t : Members) (d : Draw) : Type 0 where
  pub seed : Has t (codes "seed") (natural d.seed)
  pub stream : Has t (codes "stream") (natural d.stream)
  pub drift : HasSigned t (codes "drift") d.drift
  pub spread : HasThree t (codes "spread") d.spread

-- particles at random places
pub record SpellsRandom (t : Members) (n : ℕ) (d : Draw) : Type 0 where
  pub keys : HasOnly random_keys t
  pub count : Has t (codes "count") (natural n)
  pub drawn : SpellsDraw t d

-- particles where those of an earlier species stand
pub record SpellsPair (t : Members) (done : List Species) (number : ℕ) (d : Draw) : Type 0 where
  pub keys : HasOnly pair_keys t
  pub named : HasNameOf t done number
  pub drawn : SpellsDraw t d

-- particles beside those of an earlier species
pub record SpellsDisplaced (t : Members) (done : List Species) (number : ℕ) (d : Displacement) : Type 0 where
  pub keys : HasOnly displace_keys t
  pub named : HasNameOf t done number
  pub by : HasSigned t (codes "by") d.by
  pub v : HasSigned t (codes "v") d.v

-- the source that fills so
abbrev pub source_of : Fill → FillKind
source_of (Points points) = source.Points
source_of (Lattice first gap count v) = source.Lattice
source_of (Random count seed stream drift spread) = source.Random
source_of (Pair named seed stream drift spread) = source.Pair
source_of (Displace named by v) = source.Displace

-- the value of a source spells what fills a species after earlier ones
abbrev pub SpellsFill : List Species → Data → Fill → Type 0
SpellsFill done d (Points points) = (d ≡ rows point_numbers points) × All IsSix points
SpellsFill done d (Lattice first gap count v) = IsTable d (λ t. SpellsSites t (record { first = first; gap = gap; count = count; v = v }))
SpellsFill done d (Random count seed stream drift spread) =
    IsTable d (λ t. SpellsRandom t count (record { seed = seed; stream = stream; drift = drift; spread = spread }))
SpellsFill done d (Pair named seed stream drift spread) =
    IsTable d (λ t. SpellsPair t done named (record { seed = seed; stream = stream; drift = drift; spread = spread }))
SpellsFill done d (Displace named by v) = IsTable d (λ t. SpellsDisplaced t done named (record { by = by; v = v }))
