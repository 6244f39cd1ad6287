-- The line of a state that a run's probes show, this project's profile: columns of plain decimal numbers.
use Rattle.std.specs.Prelude.{ℤ, ℕ, ◌==◌, List, [], ◌∷◌, ◌++◌, codes, map, flat_map, find, unwrap_or, if◌then◌else◌}
use Rattle.std.specs.Fmt.{decimal, signed_decimal}
use Rattle.std.specs.List.{join_by}
use Rattle.pic_num.specs.declared.axis.Axis.{Axis}
use Rattle.pic_num.specs.declared.motion.Particle.{Particle}
use Rattle.pic_num.specs.NoParticle.{no_particle}
use Rattle.pic_num.specs.Space.{Triple, triple, spot}
use Rattle.pic_devices.specs.declared.place.Place.{Place}
use Rattle.pic_devices.specs.declared.probes.Probes.{Probes}

-- the value of a place: of E where its field is 0, and else of B
unfoldable pub value_of : (Axis → Triple → ℤ) → (Axis → Triple → ℤ) → Place → ℤ
value_of e b p = if p.field == 0 then e p.axis (triple p.cell) else b p.axis (triple p.cell)

-- the particle with an identity
unfoldable pub particle_with : List Particle → ℕ → Particle
particle_with particles id = unwrap_or (find (λ p. p.id == id) particles) no_particle

-- what a particle shows: its position, and its velocity
abbrev pub track_of : Particle → List (List ℕ)
track_of p =
    decimal (triple p.x).x ∷ decimal (triple p.x).y ∷ decimal (triple p.x).z ∷ signed_decimal (spot p.v).x ∷ signed_decimal (spot p.v).y ∷ signed_decimal
    (spot p.v).z ∷ []

-- the columns of a state: its step, the value of each place, and what the particle of each identity shows
unfoldable pub columns : Probes → ℕ → (Axis → Triple → ℤ) → (Axis → Triple → ℤ) → List Particle → List (List ℕ)
columns probes step e b particles =
    decimal step
    ∷ (map (λ p. signed_decimal (value_of e b p)) probes.places ++ flat_map (λ id. track_of (particle_with particles id)) probes.ids)

-- the line of a state: its columns with a space between, and a line feed
unfoldable pub probe_line : Probes → ℕ → (Axis → Triple → ℤ) → (Axis → Triple → ℤ) → List Particle → List ℕ
probe_line probes step e b particles =
    join_by (λ column. column) (codes " ") (columns probes step e b particles) ++ codes "\n"
