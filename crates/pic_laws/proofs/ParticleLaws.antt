-- The particles of a deck are those of its species: what is loaded up to a species stays where it is.
use Rattle.std.proofs.Common.{◌≡◌, ℕ, zero, suc, ◌+◌, ◌*◌, ◌<◌, ◌≤◌, List, [], ◌++◌, length, take}
use Rattle.std.proofs.Common.{drop, get_or, Some, refl, ap, sym, subst, ◌∙◌, inl, inr, arith}
use Rattle.std.specs.Prelude.{slice_get}
use Rattle.std.proofs.lemmas.Bool.{cases_lt}
use Rattle.std.proofs.lemmas.List.{take_all, drop_all, take-take, length-append, length-take-le, get_or-append-add, get_or_append_left}
use Rattle.std.proofs.lemmas.List.FromFn.{get_or-map-range_with_len}
use Rattle.std.proofs.lemmas.Option.{slice_get-get_or}
use Rattle.pic_num.specs.declared.motion.Particle.{Particle}
use Rattle.pic_deck.specs.declared.species.Fill.{Fill}
use Rattle.pic_deck.specs.declared.species.Fill.TheVariants.{Points, Lattice, Random, Pair, Displace}
use Rattle.pic_deck.specs.declared.species.Species.{Species}
use Rattle.pic_deck.specs.Deck.{deck_terms}
use Rattle.pic_deck.specs.Species.{TermsView, AreFilled, IsFill, filled_count, no_species, species_at, particles_of}
use Rattle.pic_load.specs.Loading.{no_particle, loaded_particle, beside, displaced, id_of, point_in, particles_in, loaded_after, loaded}
use Rattle.pic_load.specs.Generator.{generator, after}
use Rattle.pic_load.proofs.LoadLaws.{within_earlier, species_more, count_more, length-particles_in}
use Rattle.pic_laws.specs.ParticlesOfSpecies.{ParticlesAreThoseOfTheirSpecies}

module _ (t : TermsView) (ss : List Species) where
  -- the particles of the first n species
  front : ℕ → List Particle
  front zero = []
  front (suc n) = front n ++ particles_in t.grid (take n ss) (front n) (species_at ss n)

  -- the walk with n species behind it
  walked : (n : ℕ) → n ≤ length ss → loaded_after t.grid [] [] ss ≡ loaded_after t.grid (take n ss) (front n) (drop n ss)
  unfolding front
  walked zero most = refl
  walked (suc n) most =
      let more : n + 1 ≡ suc n = omega arith in
      walked n (omega (arith, most))
      ∙ species_more t.grid ss (front n) (front (suc n)) n no_species (omega (arith, most)) refl
      ∙ ap (λ k. loaded_after t.grid (take k ss) (front (suc n)) (drop k ss)) more

  -- as many as these species have
  length-front : (n : ℕ) → n ≤ length ss → length (front n) ≡ particles_of (take n ss)
  unfolding front
  length-front zero most = refl
  length-front (suc n) most =
      let more : n + 1 ≡ suc n = omega arith in
      length-append (front n) (particles_in t.grid (take n ss) (front n) (species_at ss n))
      ∙ (λ i. length-front n (omega (arith, most)) i + length-particles_in t.grid (take n ss) (front n) (species_at ss n) i)
      ∙ sym (count_more ss n no_species (omega (arith, most)))
      ∙ ap (λ k. particles_of (take k ss)) more

  -- a particle of the first m species stays where it is
  stays : (m n k : ℕ) → m ≤ n → k < length (front m) → (k < length (front n)) × (get_or (front n) k no_particle ≡ get_or (front m) k no_particle)
  unfolding front
  stays m zero k most below =
      let none : m ≡ 0 = omega (arith, most) in
      (subst (λ j. k < length (front j)) none below, ap (λ j. get_or (front j) k no_particle) (sym none))
  stays m (suc n) k most below = elim (cases_lt n m) [
    | inl behind ↦
        let same : m ≡ suc n = omega (arith, most, behind) in
        (subst (λ j. k < length (front j)) same below, ap (λ j. get_or (front j) k no_particle) (sym same))
    | inr least ↦
        let before = stays m n k least below in
        let new = particles_in t.grid (take n ss) (front n) (species_at ss n) in
        (omega (arith, before.0, length-append (front n) new), get_or_append_left (front n) new no_particle k before.0 ∙ before.1)
  ]

  -- a particle of an earlier species is the same among all particles as among those of the earlier species
  same_other : (n named i : ℕ) → n ≤ length ss → named < length (take n ss) → i < (species_at (take n ss) named).count
      → get_or (front n) (id_of (take n ss) named i) no_particle ≡ get_or (front (length ss)) (id_of ss named i) no_particle
  same_other n named i most is below =
      let earlier : named < n = omega (arith, is, length-take-le n ss most) in
      let same : id_of (take n ss) named i ≡ id_of ss named i =
      ap (λ (os : List Species). particles_of os + i) (take-take named n ss (omega (arith, earlier))) in
      let room = within_earlier (take n ss) named no_species is in
      let there : id_of (take n ss) named i < length (front n) = omega (arith, room, below, length-front n most) in
      sym (stays n (length ss) (id_of (take n ss) named i) most there).1
      ∙ ap (λ k. get_or (front (length ss)) k no_particle) same

  -- the point of a particle is the same beside all particles as beside those of the earlier species
  same_point : (n i : ℕ) (f : Fill) → n ≤ length ss → IsFill t (take n ss) f → i < filled_count (take n ss) f
      → point_in t.grid (take n ss) (front n) f i ≡ point_in t.grid ss (front (length ss)) f i
  same_point n i (Points points) most is below = refl
  same_point n i (Lattice first gap count v) most is below = refl
  same_point n i (Random count seed stream drift spread) most is below = refl
  same_point n i (Pair named seed stream drift spread) most is below =
      ap (λ (p : Particle). beside p drift spread (after (36 * i) (generator seed stream))) (same_other n named i most is.0 below)
  same_point n i (Displace named by v) most is below =
      ap (λ (p : Particle). displaced t.grid p by v) (same_other n named i most is.0 below)

  -- a particle of the species behind the first n
  of_next : (n i : ℕ) → n < length ss → i < (species_at ss n).count
      → get_or (front (suc n)) (id_of ss n i) no_particle
      ≡ loaded_particle (id_of ss n i) n (point_in t.grid (take n ss) (front n) (species_at ss n).fill i)
  unfolding front particles_in
  of_next n i few below =
      let s = species_at ss n in
      let most : n ≤ length ss = omega (arith, few) in
      let new = particles_in t.grid (take n ss) (front n) s in
      let start = length-front n most in
      ap (λ k. get_or (front n ++ new) (k + i) no_particle) (sym start)
      ∙ get_or-append-add (front n) new i no_particle
      ∙ get_or-map-range_with_len (λ j. loaded_particle (length (front n) + j) (length (take n ss)) (point_in t.grid (take n ss) (front n) s.fill j))
      0 s.count i i no_particle below (omega arith)
      ∙ (λ k. loaded_particle (start k + i) (length-take-le n ss most k) (point_in t.grid (take n ss) (front n) s.fill i))

  -- with all species behind it the walk has them all
  all_of : loaded_after t.grid [] [] ss ≡ front (length ss)
  unfolding loaded_after
  all_of =
      walked (length ss) (omega arith)
      ∙ ap (loaded_after t.grid (take (length ss) ss) (front (length ss))) (drop_all (length ss) ss (omega arith))

  all_count : length (front (length ss)) ≡ particles_of ss
  all_count = length-front (length ss) (omega arith) ∙ ap particles_of (take_all (length ss) ss (omega arith))

  -- each stands at the place of its identity
  each_of : AreFilled t ss → (n i : ℕ) → n < length ss → i < (species_at ss n).count
      → slice_get (front (length ss)) (id_of ss n i)
      ≡ Some (loaded_particle (id_of ss n i) n (point_in t.grid ss (front (length ss)) (species_at ss n).fill i))
  each_of are n i few below =
      let filled = are.each n few in
      let more : n + 1 ≡ suc n = omega arith in
      let within : id_of ss n i < length (front (suc n)) =
      omega (arith, below, length-front (suc n) (omega (arith, few)), count_more ss n no_species few, ap (λ k. particles_of (take k ss)) more) in
      let there = stays (suc n) (length ss) (id_of ss n i) (omega (arith, few)) within in
      let same = same_point n i (species_at ss n).fill (omega (arith, few)) filled.fill (omega (arith, below, filled.count)) in
      slice_get-get_or (front (length ss)) (id_of ss n i) no_particle there.0
      ∙ ap (λ (p : Particle). Some p) (there.1 ∙ of_next n i few below)
      ∙ ap (λ p. Some (loaded_particle (id_of ss n i) n p)) same

-- the law
pub particles_are_those_of_their_species : ParticlesAreThoseOfTheirSpecies
unfolding loaded
particles_are_those_of_their_species d are =
    let t = deck_terms d in
    let all = all_of t d.species in
    record {
      each = λ number i few below. subst (λ (ps : List Particle). slice_get ps (id_of d.species number i)
          ≡ Some (loaded_particle (id_of d.species number i) number (point_in t.grid d.species ps (species_at d.species number).fill i)))
          (sym all) (each_of t d.species are number i few below);
      all = ap length all ∙ all_count t d.species;
    }
