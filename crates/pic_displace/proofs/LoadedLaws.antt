-- The particles of a deck: where each stands in the list, and what it is.
use Rattle.std.proofs.Common.{◌≡◌, ℕ, ◌+◌, ◌-◌, ◌<◌, ◌≤◌, List, [], ◌∷◌, ◌++◌, length, take, get_or, inl, inr, refl, sym, ap, subst, ◌∙◌, arith}
use Rattle.std.proofs.lemmas.Bool.{cases_lt}
use Rattle.std.proofs.lemmas.List.{append-nil, append_assoc, length-append, get_or_append_left, get_or-append_right, take-append-le, take_all}
use Rattle.std.proofs.lemmas.List.FromFn.{get_or-map-range_with_len}
use Rattle.std.proofs.lemmas.List.Sums.{sum_by_push}
use Rattle.pic_num.specs.declared.motion.Particle.{Particle}
use Rattle.pic_block.specs.Cells.{Grid}
use Rattle.pic_deck.specs.declared.species.Species.{Species}
use Rattle.pic_deck.specs.Species.{particles_of, species_at, no_species}
use Rattle.pic_load.specs.Loading.{loaded_particle, no_particle, point_in, particles_in, loaded_after}
use Rattle.pic_load.proofs.LoadLaws.{length-particles_in}

-- the species of a particle, how many particles come before that species, and which one of it it is
pub record IsLoadedAt (grid : Grid) (ss : List Species) (particles : List Particle) (i : ℕ) (x : Particle) : Type 0 where
  pub species : x.species < length ss
  pub start : particles_of (take x.species ss) ≤ i
  pub end : i < particles_of (take x.species ss) + (species_at ss x.species).count
  pub is : x ≡ loaded_particle i x.species (point_in grid (take x.species ss) (take (particles_of (take x.species ss)) particles)
      (species_at ss x.species).fill (i - particles_of (take x.species ss)))

-- so stand all particles of some species
pub record AreLoadedAt (grid : Grid) (ss : List Species) (particles : List Particle) : Type 0 where
  pub count : length particles ≡ particles_of ss
  pub each : (i : ℕ) → i < length particles → IsLoadedAt grid ss particles i (get_or particles i no_particle)

none_at : (grid : Grid) → AreLoadedAt grid [] []
none_at grid = record { count = refl; each = λ i below. absurd (omega (arith, below)) }

-- the next species
module _ (grid : Grid) (ss : List Species) (done : List Particle) (s : Species) (at : AreLoadedAt grid ss done) where
  abbrev new : List Particle
  new = particles_in grid ss done s

  long : length (done ++ new) ≡ length done + s.count
  long = length-append done new ∙ ap (λ (n : ℕ). length done + n) (length-particles_in grid ss done s)

  -- an earlier species is still at its place
  same_species : (k : ℕ) → k < length ss → species_at (ss ++ s ∷ []) k ≡ species_at ss k
  same_species k below = get_or_append_left ss (s ∷ []) no_species k below

  same_take : (k : ℕ) → k ≤ length ss → take k (ss ++ s ∷ []) ≡ take k ss
  same_take k below = take-append-le k ss (s ∷ []) below

  same_done : (k : ℕ) → k ≤ length done → take k (done ++ new) ≡ take k done
  same_done k below = take-append-le k done new below

  before : (i : ℕ) (x : Particle) → i < length done → IsLoadedAt grid ss done i x → IsLoadedAt grid (ss ++ s ∷ []) (done ++ new) i x
  before i x below h =
      let number = x.species in
      let species = same_species number h.species in
      let earlier = same_take number (let b = h.species in omega (arith, b)) in
      let few : particles_of (take number ss) ≤ length done = (let b = h.start in omega (arith, b, below)) in
      let front = same_done (particles_of (take number ss)) few in
      let length_more = length-append ss (s ∷ []) in
      record {
        species = (let b = h.species in omega (arith, b, length_more));
        start = subst (λ (ts : List Species). particles_of ts ≤ i) (sym earlier) h.start;
        end = subst (λ (ts : List Species). i < particles_of ts + (species_at (ss ++ s ∷ []) number).count) (sym earlier)
            (subst (λ (t : Species). i < particles_of (take number ss) + t.count) (sym species) h.end);
        is = h.is ∙ (λ t. loaded_particle i number (point_in grid (sym earlier t) (sym front t) (sym species t).fill (i - particles_of (take number ss))))
            ∙ (λ t. loaded_particle i number (point_in grid (take number (ss ++ s ∷ [])) (take (particles_of (sym earlier t)) (done ++ new))
            (species_at (ss ++ s ∷ []) number).fill (i - particles_of (sym earlier t))));
      }

  here : (i : ℕ) → length done ≤ i → i < length done + s.count → IsLoadedAt grid (ss ++ s ∷ []) (done ++ new) i (get_or new (i - length done) no_particle)
  unfolding particles_in
  here i least below =
      let j : ℕ = i - length done in
      let number : ℕ = length ss in
      let few : j < s.count = omega (arith, least, below) in
      let whole : length done + j ≡ i = omega (arith, least) in
      let x_is : get_or new j no_particle ≡ loaded_particle i number (point_in grid ss done s.fill j) =
      get_or-map-range_with_len (λ k. loaded_particle (length done + k) number (point_in grid ss done s.fill k)) 0 s.count j j no_particle few
      (let z : 0 + j ≡ j = omega arith in z)
      ∙ (λ t. loaded_particle (whole t) number (point_in grid ss done s.fill j)) in
      let earlier : take number (ss ++ s ∷ []) ≡ ss = same_take number (omega arith) ∙ take_all number ss (omega arith) in
      let count : particles_of (take number (ss ++ s ∷ [])) ≡ length done = ap particles_of earlier ∙ sym at.count in
      let species : species_at (ss ++ s ∷ []) number ≡ s =
      get_or-append_right ss (s ∷ []) number number no_species refl (omega arith) ∙ ap (λ (k : ℕ). get_or (s ∷ []) k no_species)
      (let z : number - number ≡ 0 = omega arith in z) in
      let front : take (particles_of (take number (ss ++ s ∷ []))) (done ++ new) ≡ done =
      ap (λ (k : ℕ). take k (done ++ new)) count ∙ same_done (length done) (omega arith) ∙ take_all (length done) done (omega arith) in
      let length_more = length-append ss (s ∷ []) in
      subst (λ (x : Particle). IsLoadedAt grid (ss ++ s ∷ []) (done ++ new) i x) (sym x_is) (record {
        species = omega (arith, length_more);
        start = omega (arith, count, least);
        end = subst (λ (t : Species). i < particles_of (take number (ss ++ s ∷ [])) + t.count) (sym species) (omega (arith, count, below));
        is = λ t. loaded_particle i number (point_in grid (sym earlier t) (sym front t) (sym species t).fill (i - sym count t));
      })

  pub species_more : AreLoadedAt grid (ss ++ s ∷ []) (done ++ new)
  species_more = record {
    count = long ∙ (λ t. at.count t + s.count) ∙ sym (sum_by_push (λ (t : Species). t.count) ss s);
    each = λ i below. elim (cases_lt i (length done)) [
      | inl less ↦ subst (λ (x : Particle). IsLoadedAt grid (ss ++ s ∷ []) (done ++ new) i x) (sym (get_or_append_left done new no_particle i less))
          (before i (get_or done i no_particle) less (at.each i less))
      | inr least ↦ subst (λ (x : Particle). IsLoadedAt grid (ss ++ s ∷ []) (done ++ new) i x)
          (sym (get_or-append_right done new (length done) i no_particle refl least)) (here i least (omega (arith, below, long)))
    ];
  }

-- all species
pub all_species : (grid : Grid) (earlier : List Species) (done : List Particle) (ss : List Species) → AreLoadedAt grid earlier done
    → AreLoadedAt grid (earlier ++ ss) (loaded_after grid earlier done ss)
unfolding loaded_after
all_species grid earlier done [] at = subst (λ (ts : List Species). AreLoadedAt grid ts done) (sym (append-nil earlier)) at
all_species grid earlier done (s ∷ ss) at =
    subst (λ (ts : List Species). AreLoadedAt grid ts (loaded_after grid (earlier ++ s ∷ []) (done ++ particles_in grid earlier done s) ss))
    (append_assoc earlier (s ∷ []) ss)
    (all_species grid (earlier ++ s ∷ []) (done ++ particles_in grid earlier done s) ss (species_more grid earlier done s at))

pub all_loaded : (grid : Grid) (ss : List Species) → AreLoadedAt grid ss (loaded_after grid [] [] ss)
all_loaded grid ss = all_species grid [] [] ss (none_at grid)
