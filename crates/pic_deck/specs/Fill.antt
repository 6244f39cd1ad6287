-- The walk of what fills a species, this project's profile: the keys of each source in their order.
use Rattle.std.specs.Prelude.{ℕ, ℤ, pos, neg_ℤ, position, bytes_eq, List, [], ◌∷◌, codes, Ok}
use Rattle.toml.specs.Data.{Data, Members}
use Rattle.pic_num.specs.Limits.{allowance_of}
use Rattle.pic_walk.specs.declared.fault.Fault.TheVariants.{Name}
use Rattle.pic_walk.specs.declared.displacement.Displacement.{Displacement}
use Rattle.pic_walk.specs.declared.draw.Draw.{Draw}
use Rattle.pic_walk.specs.declared.sites.Sites.{Sites}
use Rattle.pic_walk.specs.Terms.{TermsView}
use Rattle.pic_walk.specs.Displacement.{displacement}
use Rattle.pic_walk.specs.Draw.{draw}
use Rattle.pic_walk.specs.Limits.{from_to}
use Rattle.pic_walk.specs.Path.{key_at}
use Rattle.pic_walk.specs.Points.{point_list}
use Rattle.pic_walk.specs.Sites.{sites}
use Rattle.pic_walk.specs.FillKind.{sources, source_key, only}
use Rattle.pic_walk.specs.Walk.{Walked, ◌>>=◌, some_or, within, whole, text, table_of, need}
use Rattle.pic_walk.specs.declared.fill_kind.FillKind.{FillKind}
use Rattle.pic_walk.specs.declared.fill_kind.FillKind.TheVariants as source
use Rattle.pic_deck.specs.declared.species.Fill.{Fill}
use Rattle.pic_deck.specs.declared.species.Fill.TheVariants.{Points, Lattice, Random, Pair, Displace}
use Rattle.pic_deck.specs.declared.species.Species.{Species}
use Rattle.pic_deck.specs.Species.{species_at}

-- the keys of `lattice`
abbrev pub lattice_keys : List (List ℕ)
lattice_keys = codes "first" ∷ codes "gap" ∷ codes "count" ∷ codes "v" ∷ []

-- the sites of a lattice
unfoldable pub lattice : TermsView → List ℕ → Data → Walked Sites
lattice t path d = table_of lattice_keys path d >>= sites t path

-- the keys of `random`
abbrev pub random_keys : List (List ℕ)
random_keys = codes "count" ∷ codes "seed" ∷ codes "stream" ∷ codes "drift" ∷ codes "spread" ∷ []

-- how many particles at random places, and how they are drawn
unfoldable pub random : TermsView → List ℕ → Data → Walked (ℕ × Draw)
random t path d =
    table_of random_keys path d
    >>= (λ ms. need (whole (from_to (pos 0) (pos (allowance_of t.version).particles))) (codes "count") path ms
    >>= (λ count. draw t.grid.side path ms
    >>= (λ r. Ok (count, r))))

-- the keys of `pair`
abbrev pub pair_keys : List (List ℕ)
pair_keys = codes "of" ∷ codes "seed" ∷ codes "stream" ∷ codes "drift" ∷ codes "spread" ∷ []

-- the number of the earlier species of a name
unfoldable pub species_number : List Species → List ℕ → Data → Walked ℕ
species_number done path d =
    text path d >>= (λ s. some_or (Name path) (position (λ o. bytes_eq o.name s) done))

-- the earlier species where whose particles others stand, and how their velocities are drawn
unfoldable pub pair : TermsView → List Species → List ℕ → Data → Walked (ℕ × Draw)
pair t done path d =
    table_of pair_keys path d
    >>= (λ ms. need (species_number done) (codes "of") path ms
    >>= (λ named. draw t.grid.side path ms
    >>= (λ r. Ok (named, r))))

-- the keys of `displace`
abbrev pub displace_keys : List (List ℕ)
displace_keys = codes "of" ∷ codes "by" ∷ codes "v" ∷ []

-- the charge of the species at a path, which has to be minus that of another one
unfoldable pub opposite : List ℕ → ℤ → ℤ → Walked ℤ
opposite path other charge = within (from_to (neg_ℤ other) (neg_ℤ other)) (key_at path (codes "charge")) charge

-- the earlier species beside whose particles those of the species at a path stand, and how far
unfoldable pub displaced : TermsView → List Species → List ℕ → ℤ → List ℕ → Data → Walked (ℕ × Displacement)
displaced t done species charge path d =
    table_of displace_keys path d
    >>= (λ ms. need (species_number done) (codes "of") path ms
    >>= (λ named. opposite species (species_at done named).kind.charge charge
    >>= (λ _. displacement t.grid.side path ms
    >>= (λ r. Ok (named, r)))))

-- particles at the sites of a lattice
abbrev pub at_sites : Sites → Fill
at_sites s = Lattice s.first s.gap s.count s.v

-- so many particles at random places
abbrev pub at_random : ℕ × Draw → Fill
at_random r = Random r.0 r.1.seed r.1.stream r.1.drift r.1.spread

-- particles where those of a species stand
abbrev pub in_pairs : ℕ × Draw → Fill
in_pairs r = Pair r.0 r.1.seed r.1.stream r.1.drift r.1.spread

-- particles beside those of a species
abbrev pub beside_others : ℕ × Displacement → Fill
beside_others r = Displace r.0 r.1.by r.1.v

-- what a source fills the species at a path with, which has a charge
abbrev pub fill_by : FillKind → TermsView → List Species → List ℕ → ℤ → List ℕ → Data → Walked Fill
fill_by source.Points t done species charge path d = point_list t.grid path d >>= (λ points. Ok (Points points))
fill_by source.Lattice t done species charge path d = lattice t path d >>= (λ s. Ok (at_sites s))
fill_by source.Random t done species charge path d = random t path d >>= (λ r. Ok (at_random r))
fill_by source.Pair t done species charge path d = pair t done path d >>= (λ r. Ok (in_pairs r))
fill_by source.Displace t done species charge path d = displaced t done species charge path d >>= (λ r. Ok (beside_others r))

-- what fills the species that a table is, which has a charge
unfoldable pub species_fill : TermsView → List Species → List ℕ → ℤ → Members → Walked Fill
species_fill t done path charge ms =
    only path ms (sources t.version) >>= (λ s. need (fill_by s t done path charge) (source_key s) path ms)
