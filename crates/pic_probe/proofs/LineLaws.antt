-- The line of a state, part by part, and the particle that stands at its identity's place.
use Rattle.std.proofs.Common.{◌≡◌, ℤ, ℕ, zero, suc, ◌+◌, ◌<◌, ◌==◌, true, false, List, [], ◌∷◌, ◌++◌, length, get_or}
use Rattle.std.proofs.Common.{take, map, find, unwrap_or, codes, refl, sym, ap, ◌∙◌, append_assoc, append-nil, arith}
use Rattle.std.specs.Prelude.{flat_map}
use Rattle.std.specs.Fmt.{decimal, signed_decimal}
use Rattle.std.specs.List.{range_with_len}
use Rattle.std.proofs.lemmas.Grind.{flat_map-append}
use Rattle.std.proofs.lemmas.Bool.Decides.{nat_tests}
use Rattle.std.proofs.lemmas.List.{take_more, get_or-map}
use Rattle.std.proofs.lemmas.List.FromFn.{get_or-range_with_len}
use Rattle.std.proofs.lemmas.List.Folds.{flat_map-map}
use Rattle.pic_num.specs.declared.axis.Axis.{Axis}
use Rattle.pic_num.specs.declared.motion.Particle.{Particle}
use Rattle.pic_num.specs.NoParticle.{no_particle}
use Rattle.pic_num.specs.Space.{Triple}
use Rattle.pic_devices.specs.declared.probes.Probes.{Probes}
use Rattle.pic_probe.specs.ProbeLine.{value_of, particle_with, track_of, columns, probe_line}

-- a column behind a space
abbrev pub spaced : List ℕ → List ℕ
spaced column = codes " " ++ column

-- pieces of pieces
pub flat_map-flat_map : {A B C : Type 0} (f : B → List C) (g : A → List B) (xs : List A) → flat_map f (flat_map g xs) ≡ flat_map (λ x. flat_map f (g x)) xs
flat_map-flat_map f g [] = refl
flat_map-flat_map f g (x ∷ xs) =
    flat_map-append f (g x) (flat_map g xs) ∙ ap (λ l. flat_map f (g x) ++ l) (flat_map-flat_map f g xs)

-- the pieces so far, and one more
pub pieces_more : {A : Type 0} (f : A → List ℕ) (front : List ℕ) (xs : List A) (i : ℕ) (d : A) → i < length xs
    → (front ++ flat_map f (take i xs)) ++ f (get_or xs i d) ≡ front ++ flat_map f (take (i + 1) xs)
pieces_more f front xs i d below =
    append_assoc front (flat_map f (take i xs)) (f (get_or xs i d))
    ∙ ap (λ l. front ++ l)
    (ap (λ l. flat_map f (take i xs) ++ l) (sym (append-nil (f (get_or xs i d))))
    ∙ sym (flat_map-append f (take i xs) (get_or xs i d ∷ []))
    ∙ ap (flat_map f) (sym (take_more xs i d below)))

-- the line of a state: the step, the places, the tracks, and the line feed
pub line_parts : (probes : Probes) (step : ℕ) (e b : Axis → Triple → ℤ) (particles : List Particle)
    → ((decimal step ++ flat_map (λ p. spaced (signed_decimal (value_of e b p))) probes.places)
    ++ flat_map (λ id. flat_map spaced (track_of (particle_with particles id))) probes.ids) ++ codes "\n"
    ≡ probe_line probes step e b particles
unfolding probe_line columns
line_parts probes step e b particles =
    let values = map (λ p. signed_decimal (value_of e b p)) probes.places in
    let tracks = flat_map (λ id. track_of (particle_with particles id)) probes.ids in
    let places_is = flat_map-map spaced (λ p. signed_decimal (value_of e b p)) probes.places in
    let tracks_is = flat_map-flat_map spaced (λ id. track_of (particle_with particles id)) probes.ids in
    let both = flat_map-append spaced values tracks in
    ap (λ l. l ++ codes "\n")
    (append_assoc (decimal step) _ _
    ∙ ap (λ l. decimal step ++ l) (λ i. sym places_is i ++ sym tracks_is i)
    ∙ ap (λ l. decimal step ++ l) (sym both))

-- the first particle with an identity, where each has the number of its place
found_at : (ps : List Particle) (a i k : ℕ) → ((j : ℕ) → j < length ps → (get_or ps j no_particle).id ≡ a + j) → i < length ps → k ≡ a + i
    → unwrap_or (find (λ p. p.id == k) ps) no_particle ≡ get_or ps i no_particle
found_at [] a i k at below is = absurd (omega (arith, below))
found_at (p ∷ ps) a zero k at below is =
    let here : p.id ≡ a + 0 = at 0 (omega arith) in
    let same : (p.id == k) ≡ true = grind (arith, nat_tests) in
    rw same
found_at (p ∷ ps) a (suc i) k at below is =
    let here : p.id ≡ a + 0 = at 0 (omega arith) in
    let other : (p.id == k) ≡ false = grind (arith, nat_tests) in
    let later = (λ (j : ℕ) (h : j < length ps). let next : (get_or ps j no_particle).id ≡ a + suc j = at (suc j) (omega (arith, h)) in
    let e : (get_or ps j no_particle).id ≡ suc a + j = omega (arith, next) in e) in
    rw other (found_at ps (suc a) i k later (omega (arith, below)) (omega (arith, is)))

-- the particle with an identity stands at its place, where the identities are 0, 1 and so on
pub particle_stands : (ps : List Particle) (i : ℕ) → map (λ p. p.id) ps ≡ range_with_len 0 (length ps) → i < length ps
    → particle_with ps i ≡ get_or ps i no_particle
unfolding particle_with
particle_stands ps i ids below =
    found_at ps 0 i i
    (λ j h. sym (get_or-map (λ p. p.id) ps j no_particle 0 h) ∙ ap (λ (l : List ℕ). get_or l j 0) ids ∙ get_or-range_with_len 0 (length ps) j 0 h)
    below (omega arith)

-- six pieces behind a text, one after another
pub six_pieces : (t p q r s u v : List ℕ) → (((((t ++ p) ++ q) ++ r) ++ s) ++ u) ++ v ≡ t ++ (p ++ (q ++ (r ++ (s ++ (u ++ (v ++ []))))))
six_pieces t p q r s u v = simp (append_assoc, append-nil) refl
