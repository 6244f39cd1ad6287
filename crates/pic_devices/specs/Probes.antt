-- The probes that watch a run, as a deck says them: places of the fields, and particles by their
-- identities. Their limits and the walk of the table `probe`, this project's profile.
use Rattle.std.specs.Prelude.{ℕ, ℤ, pos, ◌-ℤ◌, ◌<◌, ◌≤◌, List, [], ◌∷◌, All, length, codes, Ok}
use Rattle.toml.specs.Data.{Data}
use Rattle.pic_num.specs.Space.{Triple, triple}
use Rattle.pic_block.specs.Cells.{IsWithin, axis_of}
use Rattle.pic_walk.specs.declared.limits.Limits.{Limits}
use Rattle.pic_walk.specs.Limits.{from_to}
use Rattle.pic_walk.specs.Walk.{Walked, ◌>>=◌, whole, numbers, natural_at, table_of, optional}
use Rattle.pic_devices.specs.declared.place.Place.{Place}
use Rattle.pic_devices.specs.declared.probes.Probes.{Probes}
use Rattle.pic_devices.specs.Drive.{axis_limits, cell_limits}
use Rattle.pic_devices.specs.Lists.{list_within}

-- a run is watched at so many places at most
abbrev pub most_places : ℕ
most_places = 64

-- and so many of its particles are followed at most
abbrev pub most_ids : ℕ
most_ids = 64

-- E is the field 0, and B the field 1
abbrev pub most_field : ℕ
most_field = 1

-- a place of E or B, at one of the n cells
pub record IsPlace (n : Triple) (p : Place) : Type 0 where
  pub field : p.field ≤ most_field
  pub within : IsWithin (triple p.cell) n

-- probes of a run with n cells and so many particles: not too many places, and not too many identities, each of
-- a particle
pub record AreProbes (n : Triple) (particles : ℕ) (probes : Probes) : Type 0 where
  pub few_places : length probes.places ≤ most_places
  pub places : All (IsPlace n) probes.places
  pub few_ids : length probes.ids ≤ most_ids
  pub ids : All (λ i. i < particles) probes.ids

-- a run that isn't watched
abbrev pub no_probes : Probes
no_probes = record { places = []; ids = [] }

-- the keys of `probe`
abbrev pub probe_keys : List (List ℕ)
probe_keys = codes "places" ∷ codes "ids" ∷ []

-- the limits of a place [field, axis, i, j, k]
abbrev pub place_limits : Triple → List Limits
place_limits n = from_to (pos 0) (pos most_field) ∷ axis_limits ∷ cell_limits n

-- the identities of so many particles; without particles there is none, and the limits are 0 and -1
abbrev pub id_limits : ℕ → Limits
id_limits particles = from_to (pos 0) (pos particles -ℤ pos 1)

-- the place of five numbers
abbrev pub place_from : List ℤ → Place
place_from zs = record {
  field = natural_at zs 0;
  axis = axis_of (natural_at zs 1);
  cell = natural_at zs 2 ∷ natural_at zs 3 ∷ natural_at zs 4 ∷ [];
}

-- the next place
unfoldable pub place : Triple → List Place → List ℕ → Data → Walked Place
place n done path d = numbers (place_limits n) path d >>= (λ zs. Ok (place_from zs))

-- the places, and then how many there are
unfoldable pub place_list : Triple → List ℕ → Data → Walked (List Place)
place_list n path d = list_within (from_to (pos 0) (pos most_places)) (place n) path d

-- the next identity
unfoldable pub id : ℕ → List ℕ → List ℕ → Data → Walked ℕ
id particles done path d = whole (id_limits particles) path d

-- the identities, and then how many there are
unfoldable pub id_list : ℕ → List ℕ → Data → Walked (List ℕ)
id_list particles path d = list_within (from_to (pos 0) (pos most_ids)) (id particles) path d

-- the probes of a run with n cells and so many particles
unfoldable pub probes : Triple → ℕ → List ℕ → Data → Walked Probes
probes n particles path d =
    table_of probe_keys path d
    >>= (λ t. optional [] (place_list n) (codes "places") path t
    >>= (λ places. optional [] (id_list particles) (codes "ids") path t
    >>= (λ ids. Ok (record { places = places; ids = ids }))))
