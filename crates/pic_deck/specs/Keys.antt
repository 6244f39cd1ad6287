-- The walk of a deck, this project's profile: the keys of each table in their order, the kind of
-- each value and its limits. Which table a text is, is `toml`'s definition.
use Rattle.std.specs.Prelude.{ℤ, pos, neg_ℤ, ℕ, ◌==◌, ◌+◌, Bool, false, List, [], ◌∷◌, codes, if◌then◌else◌, Option, Some, None, Ok, Err}
use Rattle.std.specs.Ordering.{int_eq}
use Rattle.toml.specs.Data.{Data, Members, get_member, as_integer}
use Rattle.pic_num.specs.declared.motion.Kind.{Kind}
use Rattle.pic_num.specs.Limits.{allowance_of, most_species, most_mass, most_force, least_charge, greatest_charge}
use Rattle.pic_num.specs.Space.{Triple, spot}
use Rattle.pic_walk.specs.declared.fault.Fault.TheVariants.{Limit, Name}
use Rattle.pic_walk.specs.Terms.{TermsView}
use Rattle.pic_walk.specs.Path.{key_at}
use Rattle.pic_walk.specs.Limits.{from_to}
use Rattle.pic_walk.specs.Rows.{row_list}
use Rattle.pic_walk.specs.Walk.{Walked, ◌>>=◌, within, limited, whole, text, elements, count_of_items, each}
use Rattle.pic_walk.specs.Walk.{numbers, any_three, multiplier, listed, table_of, need, optional}
use Rattle.pic_devices.specs.declared.devices.Devices.{Devices}
use Rattle.pic_devices.specs.Devices.{no_devices}
use Rattle.pic_devices.specs.Drive.{drive_list}
use Rattle.pic_devices.specs.Probes.{no_probes, probes}
use Rattle.pic_settings.specs.declared.settings.Settings.{Settings}
pub use Rattle.pic_settings.specs.Keys.{steps_fit}
use Rattle.pic_settings.specs.Keys.{settings}
use Rattle.pic_deck.specs.declared.fields.InitialFields.{InitialFields}
use Rattle.pic_deck.specs.declared.species.Fill.{Fill}
use Rattle.pic_deck.specs.declared.species.Species.{Species}
use Rattle.pic_deck.specs.Deck.{DeckView, deck_view, terms_of}
use Rattle.pic_deck.specs.Species.{is_new_name, filled_count, particles_of}
use Rattle.pic_deck.specs.Initial.{set_up, first_strong}
use Rattle.pic_deck.specs.Fill.{species_fill}

-- whether a number is 1, where there is one
abbrev pub is_one : Option ℤ → Bool
is_one None = false
is_one (Some z) = int_eq z (pos 1)

-- whether a table says that it is a deck of version 1
abbrev pub says_first : Option Data → Bool
says_first None = false
says_first (Some d) = is_one (as_integer d)

-- the keys of the document's own table: one that says version 1 has no loops and no probes
abbrev pub deck_keys : Members → List (List ℕ)
deck_keys ms =
    if says_first (get_member (codes "version") ms) then codes "version" ∷ codes "grid" ∷ codes "run" ∷ codes "scale" ∷ codes "field" ∷ codes "species" ∷ []
    else codes "version" ∷ codes "grid" ∷ codes "run" ∷ codes "scale" ∷ codes "field" ∷ codes "species" ∷ codes "drive" ∷ codes "probe" ∷ []

-- the keys of `field`
abbrev pub field_keys : List (List ℕ)
field_keys = codes "e" ∷ codes "b" ∷ codes "edges" ∷ codes "faces" ∷ []

-- a field of zeros
abbrev pub zeros : List ℤ
zeros = pos 0 ∷ pos 0 ∷ pos 0 ∷ []

abbrev pub no_field : InitialFields
no_field = record { e = zeros; b = zeros; edges = []; faces = [] }

-- the fields: the uniform parts and the rows
unfoldable pub fields : Triple → List ℕ → Data → Walked InitialFields
fields n path d =
    table_of field_keys path d
    >>= (λ t. optional zeros (numbers any_three) (codes "e") path t
    >>= (λ e. optional zeros (numbers any_three) (codes "b") path t
    >>= (λ b. optional [] (row_list n) (codes "edges") path t
    >>= (λ edges. optional [] (row_list n) (codes "faces") path t
    >>= (λ faces. Ok (record { e = e; b = b; edges = edges; faces = faces }))))))

-- the keys of a species: a deck of version 1 displaces none
abbrev pub species_keys : ℕ → List (List ℕ)
species_keys version =
    if version == 1
    then codes "name" ∷ codes "charge" ∷ codes "mass" ∷ codes "kick" ∷ codes "turn" ∷ codes "points" ∷ codes "lattice" ∷ codes "random" ∷ codes "pair" ∷ []
    else codes "name" ∷ codes "charge" ∷ codes "mass" ∷ codes "kick" ∷ codes "turn" ∷ codes "points" ∷ codes "lattice" ∷ codes "random" ∷ codes "pair" ∷ codes
    "displace" ∷ []

-- a name that no earlier species has
unfoldable pub species_name : List Species → List ℕ → Data → Walked (List ℕ)
species_name done path d =
    text path d >>= (λ s. if is_new_name done s then Ok s else Err (Name path))

-- what the particles of a species have in common
unfoldable pub species_kind : List ℕ → Members → Walked Kind
species_kind path t =
    need (limited (from_to least_charge greatest_charge)) (codes "charge") path t
    >>= (λ charge. need (whole (from_to (pos 1) (pos most_mass))) (codes "mass") path t
    >>= (λ mass. need multiplier (codes "kick") path t
    >>= (λ kick. need multiplier (codes "turn") path t
    >>= (λ turn. Ok (record { charge = charge; mass = mass; kick = kick; turn = turn })))))

-- how many particles a species has after earlier ones, which all together are not too many
unfoldable pub counted : ℕ → List Species → List ℕ → Fill → Walked ℕ
counted version done path fill =
    within (from_to (pos 0) (pos (allowance_of version).particles)) path (pos (particles_of done + filled_count done fill))
    >>= (λ _. Ok (filled_count done fill))

-- the species that a table is, after earlier ones
unfoldable pub species_in : TermsView → List Species → List ℕ → Members → Walked Species
species_in t done path ms =
    need (species_name done) (codes "name") path ms
    >>= (λ named. species_kind path ms
    >>= (λ k. species_fill t done path k.charge ms
    >>= (λ f. counted t.version done path f
    >>= (λ count. Ok (record { name = named; kind = k; count = count; fill = f })))))

-- the next species
unfoldable pub one_species : TermsView → List Species → List ℕ → Data → Walked Species
one_species t done path d = table_of (species_keys t.version) path d >>= species_in t done path

-- all species, not too many
unfoldable pub species_list : TermsView → List ℕ → Data → Walked (List Species)
species_list t path d =
    elements path d
    >>= (λ ds. within (from_to (pos 0) (pos most_species)) path (pos (count_of_items ds))
    >>= (λ _. each (one_species t) path [] ds))

-- no force value is too large, or that of the least place which has one is refused
unfoldable pub force_allowed : List ℕ → Option ℤ → Walked (Unit {0})
force_allowed path None = Ok tt
force_allowed path (Some f) = Err (Limit path f (neg_ℤ (pos most_force)) (pos most_force))

-- the force values of E, and then those of B
unfoldable pub forces : Settings → InitialFields → Walked (Unit {0})
forces s f =
    force_allowed (key_at (codes "scale") (codes "e_force")) (first_strong s.cells.n s.scales.e_force (set_up (spot f.e) f.edges))
    >>= (λ _. force_allowed (key_at (codes "scale") (codes "b_force")) (first_strong s.cells.n s.scales.b_force (set_up (spot f.b) f.faces)))

-- the loops and the probes of a run with so many particles: none in version 1
unfoldable pub devices : TermsView → ℕ → Members → Walked Devices
devices t particles ms =
    if t.version == 1 then Ok no_devices
    else optional [] (drive_list t.grid.n) (codes "drive") [] ms
    >>= (λ loops. optional no_probes (probes t.grid.n particles) (codes "probe") [] ms
    >>= (λ watched. Ok (record { loops = loops; probes = watched })))

-- the deck that a table is
unfoldable pub deck : Members → Walked DeckView
deck ms =
    listed (deck_keys ms) [] ms
    >>= (λ t. settings t
    >>= (λ s. optional no_field (fields s.cells.n) (codes "field") [] t
    >>= (λ f. optional [] (species_list (terms_of s)) (codes "species") [] t
    >>= (λ ss. devices (terms_of s) (particles_of ss) t
    >>= (λ ds. forces s f
    >>= (λ _. Ok (deck_view s f ss ds)))))))
