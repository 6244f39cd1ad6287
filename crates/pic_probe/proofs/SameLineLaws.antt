-- Two states have one line where they agree on what the probes see.
use Rattle.std.proofs.Common.{◌≡◌, ℤ, ℕ, ◌<◌, ◌==◌, if◌then◌else◌, List, [], ◌∷◌, ◌++◌, length, get_or, map, codes, refl, sym, ◌∙◌, subst}
use Rattle.std.specs.Prelude.{flat_map, All}
use Rattle.std.specs.Fmt.{decimal, signed_decimal}
use Rattle.std.specs.List.{join_by, range_with_len}
use Rattle.std.proofs.lemmas.List.Elements.{All-head, All-tail}
use Rattle.pic_num.specs.declared.axis.Axis.{Axis}
use Rattle.pic_num.specs.declared.motion.Particle.{Particle}
use Rattle.pic_num.specs.NoParticle.{no_particle}
use Rattle.pic_num.specs.Space.{Triple, triple}
use Rattle.pic_devices.specs.declared.place.Place.{Place}
use Rattle.pic_devices.specs.declared.probes.Probes.{Probes}
use Rattle.pic_probe.specs.ProbeLine.{value_of, particle_with, track_of, columns, probe_line}
use Rattle.pic_probe.proofs.LineLaws.{particle_stands}

-- functions that agree on each element
map_same : {X Y : Type 0} (f g : X → Y) (xs : List X) → All (λ x. f x ≡ g x) xs → map f xs ≡ map g xs
map_same f g [] all = refl
map_same f g (x ∷ xs) all = λ i. All-head (λ x. f x ≡ g x) x xs all i ∷ map_same f g xs (All-tail (λ x. f x ≡ g x) x xs all) i

flat_map_same : {X Y : Type 0} (f g : X → List Y) (xs : List X) → All (λ x. f x ≡ g x) xs → flat_map f xs ≡ flat_map g xs
flat_map_same f g [] all = refl
flat_map_same f g (x ∷ xs) all =
    λ i. All-head (λ x. f x ≡ g x) x xs all i ++ flat_map_same f g xs (All-tail (λ x. f x ≡ g x) x xs all) i

-- the values of both fields at a place
same_value : (e b e' b' : Axis → Triple → ℤ) (p : Place) → e p.axis (triple p.cell) ≡ e' p.axis (triple p.cell)
    → b p.axis (triple p.cell) ≡ b' p.axis (triple p.cell) → value_of e b p ≡ value_of e' b' p
unfolding value_of
same_value e b e' b' p of_e of_b = λ i. if p.field == 0 then of_e i else of_b i

-- the particle of an identity, in lists in order
same_particle : (ps qs : List Particle) (id : ℕ) → map (λ (p : Particle). p.id) ps ≡ range_with_len 0 (length ps) → map (λ (p : Particle). p.id) qs
    ≡ range_with_len 0 (length qs)
    → id < length ps → id < length qs → get_or ps id no_particle ≡ get_or qs id no_particle → particle_with ps id ≡ particle_with qs id
same_particle ps qs id in_ps in_qs below inside same = particle_stands ps id in_ps below ∙ same ∙ sym (particle_stands qs id in_qs inside)

pub same_line : (probes : Probes) (step : ℕ) (e b e' b' : Axis → Triple → ℤ) (ps qs : List Particle)
    → All (λ (p : Place). e p.axis (triple p.cell) ≡ e' p.axis (triple p.cell)) probes.places
    → All (λ (p : Place). b p.axis (triple p.cell) ≡ b' p.axis (triple p.cell)) probes.places
    → map (λ (p : Particle). p.id) ps ≡ range_with_len 0 (length ps) → map (λ (p : Particle). p.id) qs ≡ range_with_len 0 (length qs) → length ps ≡ length qs
    → All (λ (id : ℕ). id < length qs) probes.ids → All (λ (id : ℕ). get_or ps id no_particle ≡ get_or qs id no_particle) probes.ids
    → probe_line probes step e b ps ≡ probe_line probes step e' b' qs
unfolding probe_line columns
same_line probes step e b e' b' ps qs of_e of_b in_ps in_qs long below same =
    let values = map_same (λ (p : Place). signed_decimal (value_of e b p)) (λ (p : Place). signed_decimal (value_of e' b' p)) probes.places
    (λ k d inside. λ i. signed_decimal (same_value e b e' b' (get_or probes.places k d) (of_e k d inside) (of_b k d inside) i)) in
    let tracks = flat_map_same (λ (id : ℕ). track_of (particle_with ps id)) (λ (id : ℕ). track_of (particle_with qs id)) probes.ids
    (λ k d inside. λ i. track_of (same_particle ps qs (get_or probes.ids k d) in_ps in_qs
    (subst (λ (n : ℕ). get_or probes.ids k d < n) (sym long) (below k d inside)) (below k d inside) (same k d inside) i)) in
    λ i. join_by (λ column. column) (codes " ") (decimal step ∷ (values i ++ tracks i)) ++ codes "\n"
