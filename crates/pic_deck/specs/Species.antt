-- The species of a deck and their particles.
use Rattle.std.specs.Prelude.{◌≡◌, ⊤, ℕ, ℤ, neg_ℤ, ◌+◌, ◌<◌, ◌≤◌, ◌&&◌, Bool, not, nat_le, bytes_eq, List, [], length, sum_by, take, slice_index_or}
use Rattle.std.specs.List.{list_all, list_any}
use Rattle.pic_num.specs.Space.{triple}
use Rattle.pic_block.specs.Cells.{count_of}
use Rattle.pic_grid.specs.Species.{HeadView, no_head, is_name_byte, IsName, IsKind}
pub use Rattle.pic_walk.specs.declared.point6.Point6.{Point6}
pub use Rattle.pic_walk.specs.Points.{no_point, IsPoint, ArePoints}
pub use Rattle.pic_walk.specs.Terms.{TermsView}
pub use Rattle.pic_walk.specs.Displacement.{IsDisplacement}
pub use Rattle.pic_walk.specs.Draw.{IsDraw}
pub use Rattle.pic_walk.specs.Sites.{AreSites}
pub use Rattle.pic_num.specs.Limits.{most_particles, most_species, allowance_of}
use Rattle.pic_num.specs.Limits.{most_letters}
pub use Rattle.pic_walk.specs.Bounds.{fastest, fastest_drift, widest_spread}
use Rattle.pic_deck.specs.declared.species.Fill.{Fill}
use Rattle.pic_deck.specs.declared.species.Fill.TheVariants.{Points, Lattice, Random, Pair, Displace}
use Rattle.pic_deck.specs.declared.species.Species.{Species}

-- whether a text is a name: 1 to 32 bytes, each a letter, a digit or `_`
unfoldable pub is_name : List ℕ → Bool
is_name name = (nat_le 1 (length name) && nat_le (length name) most_letters) && list_all is_name_byte name

-- whether one of some species has a name
abbrev pub is_taken : List Species → List ℕ → Bool
is_taken ss name = list_any (λ o. bytes_eq o.name name) ss

-- whether a text is a name that none of these species has
unfoldable pub is_new_name : List Species → List ℕ → Bool
is_new_name ss name = is_name name && not (is_taken ss name)

-- a species that isn't there
abbrev pub no_species : Species
no_species = record { name = []; kind = no_head.kind; count = 0; fill = Points [] }

-- the species at an index
abbrev pub species_at : List Species → ℕ → Species
species_at ss i = slice_index_or ss i no_species

-- how many particles a species has by what fills it, after earlier ones
abbrev pub filled_count : List Species → Fill → ℕ
filled_count earlier (Points points) = length points
filled_count earlier (Lattice first gap count v) = count_of (triple count)
filled_count earlier (Random count seed stream drift spread) = count
filled_count earlier (Pair named seed stream drift spread) = (species_at earlier named).count
filled_count earlier (Displace named by v) = (species_at earlier named).count

-- a species as the dump's header has it: its name, its kind and how many particles it has
abbrev pub head_of : Species → HeadView
head_of s = record { name = s.name; kind = s.kind; count = s.count }

-- how many particles some species have
abbrev pub particles_of : List Species → ℕ
particles_of ss = sum_by (λ s. s.count) ss

-- a name, and one that none of these species has
pub record IsNewName (ss : List Species) (s : List ℕ) : Type 0 where
  pub name : IsName s
  pub differs : (i : ℕ) → i < length ss → (species_at ss i).name ≡ s → ⊥

-- what fills a species after earlier ones is such as a deck of these terms may have
abbrev pub IsFill : TermsView → List Species → Fill → Type 0
IsFill t earlier (Points points) = ArePoints t.grid points
IsFill t earlier (Lattice first gap count v) =
    AreSites t (record { first = first; gap = gap; count = count; v = v })
IsFill t earlier (Random count seed stream drift spread) =
    (count ≤ (allowance_of t.version).particles)
    × IsDraw t.grid.side (record { seed = seed; stream = stream; drift = drift; spread = spread })
IsFill t earlier (Pair named seed stream drift spread) =
    (named < length earlier) × IsDraw t.grid.side (record { seed = seed; stream = stream; drift = drift; spread = spread })
IsFill t earlier (Displace named by v) = (named < length earlier) × IsDisplacement t.grid.side (record { by = by; v = v })

-- a charge that a species after earlier ones may have: minus that of the one from which it is displaced
abbrev pub IsOpposite : List Species → ℤ → Fill → Type 0
IsOpposite earlier charge (Points points) = ⊤
IsOpposite earlier charge (Lattice first gap count v) = ⊤
IsOpposite earlier charge (Random count seed stream drift spread) = ⊤
IsOpposite earlier charge (Pair named seed stream drift spread) = ⊤
IsOpposite earlier charge (Displace named by v) = charge ≡ neg_ℤ (species_at earlier named).kind.charge

-- a species after earlier ones is filled so, and has so many particles and such a charge
pub record IsFilledFrom (t : TermsView) (earlier : List Species) (s : Species) : Type 0 where
  pub fill : IsFill t earlier s.fill
  pub count : s.count ≡ filled_count earlier s.fill
  pub opposite : IsOpposite earlier s.kind.charge s.fill

-- a species that may come next: its name is new, its particles are within their limits, and with
-- them there are not too many
pub record IsNext (t : TermsView) (earlier : List Species) (s : Species) : Type 0 where
  pub name : IsNewName earlier s.name
  pub kind : IsKind s.kind
  pub filled : IsFilledFrom t earlier s
  pub few : particles_of earlier + s.count ≤ (allowance_of t.version).particles

-- each species is filled so, after those before it
pub record AreFilled (t : TermsView) (ss : List Species) : Type 0 where
  pub each : (i : ℕ) → i < length ss → IsFilledFrom t (take i ss) (species_at ss i)
