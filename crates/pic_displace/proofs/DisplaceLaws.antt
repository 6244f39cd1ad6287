-- Displaced particles of a deck have come by their ways; and so the displaced start keeps Gauss's law.
use Rattle.std.proofs.Common.{◌≡◌, ℕ, ◌+◌, ◌-◌, ◌<◌, ◌≤◌, List, length, take, get_or, Option, Some, None, sym, ap, subst, ◌∙◌, arith}
use Rattle.std.proofs.Math.Seq.{take-take}
use Rattle.std.specs.Prelude.{All}
use Rattle.std.proofs.lemmas.List.{get_or-map, get_or-take, length-map, length-take-le, get_or_default}
use Rattle.std.proofs.lemmas.List.Elements.{All-get_or}
use Rattle.std.proofs.lemmas.List.Sums.{sum_by_more_le}
use Rattle.pic_num.specs.declared.axis.Axis.TheVariants.{X, Y, Z}
use Rattle.pic_num.specs.declared.motion.Particle.{Particle}
use Rattle.pic_num.specs.declared.motion.Kind.{Kind}
use Rattle.pic_num.specs.Limits.{most_particles}
use Rattle.pic_num.specs.Space.{Triple, triple, spot}
use Rattle.pic_num.proofs.VersionLaws.{side_least, within_scheme}
use Rattle.pic_block.specs.Cells.{Grid}
use Rattle.pic_grid.specs.Hat.{HasTwo}
use Rattle.pic_grid.specs.Lattice.{value_at, field_of}
use Rattle.pic_grid.specs.PushPhase.{kind_of, no_kind}
use Rattle.pic_grid.specs.Species.{IsKind, no_head}
use Rattle.pic_grid.proofs.LatticeLaws.{value_at-field_of}
use Rattle.pic_grid.proofs.SpeciesLaws.{kind_most}
use Rattle.pic_split.proofs.ImageLaws.{div_e_same}
use Rattle.pic_deck.specs.declared.species.Fill.{Fill}
use Rattle.pic_deck.specs.declared.species.Fill.TheVariants.{Points, Lattice, Random, Pair, Displace}
use Rattle.pic_deck.specs.declared.species.Species.{Species}
use Rattle.pic_deck.specs.Deck.{DeckView, IsWithinLimits, deck_grid, deck_terms, initial_e}
use Rattle.pic_deck.specs.Species.{particles_of, species_at, no_species, head_of, filled_count, IsFill}
use Rattle.pic_deck.proofs.HeadLaws.{particles_of-heads}
use Rattle.pic_load.specs.Loading.{IsParticleOf, AreLoaded, id_of, loaded, loaded_particle, moved, no_particle, point_in}
use Rattle.pic_ways.specs.declared.way.Way.{Way}
use Rattle.pic_ways.specs.Way.{HasCome, IsWithinLimits as IsWayWithinLimits}
use Rattle.pic_ways.proofs.WayLaws.{gauss_by_ways}
use Rattle.pic_displace.specs.Displace.{HasNamed, IsOfSpecies, index_of_particle, way_by, way_of, displaced_e, kinds_of, DisplacedStartKeepsGauss}
use Rattle.pic_displace.proofs.LoadedLaws.{IsLoadedAt, AreLoadedAt, all_loaded}

module _ (d : DeckView) (limits : IsWithinLimits d) (are : AreLoaded d (loaded d)) where
  abbrev ss : List Species
  ss = d.species

  abbrev ps : List Particle
  ps = loaded d

  laid : AreLoadedAt (deck_grid d) ss ps
  unfolding loaded
  laid = all_loaded (deck_grid d) ss

  -- the kind of a species
  kind_at : (k : ℕ) → k < length ss → IsKind (species_at ss k).kind
  kind_at k below =
      let same = get_or-map head_of ss k no_species no_head below in
      let count = length-map ss head_of in
      subst (λ h. IsKind h.kind) same (limits.heads.kinds k (omega (arith, count, below)))

  -- a particle of a deck
  module _ (i : ℕ) (below : i < length ps) where
    abbrev x : Particle
    x = get_or ps i no_particle

    at : IsLoadedAt (deck_grid d) ss ps i x
    at = laid.each i below

    abbrev earlier : List Species
    earlier = take x.species ss

    abbrev start : ℕ
    start = particles_of earlier

    id_is : x.id ≡ i
    id_is = ap (λ (y : Particle). y.id) at.is

    kind_is : (species_at ss x.species).kind ≡ (kind_of (kinds_of d) x)
    kind_is = sym (get_or-map (λ (s : Species). s.kind) ss x.species no_species no_kind at.species)

    -- what is so of a particle whose species is filled so
    pub record Fits (f : Fill) : Type 0 where
      pub named : HasNamed ss ps x f
      pub come : HasCome d.side d.cells (kinds_of d) x (way_by ss ps x f)

    fits : (f : Fill) → IsFill (deck_terms d) earlier f → (species_at ss x.species).count ≡ filled_count earlier f
        → x ≡ loaded_particle i x.species (point_in (deck_grid d) earlier (take start ps) f (i - start)) → Fits f
    unfolding moved
    fits (Points points) good count is = record { named = tt; come = tt }
    fits (Lattice first gap number v) good count is = record { named = tt; come = tt }
    fits (Random number seed stream drift spread) good count is = record { named = tt; come = tt }
    fits (Pair named seed stream drift spread) good count is = record { named = tt; come = tt }
    fits (Displace named by v) good count is =
        let number = x.species in
        let whole_list : number ≤ length ss = (let n = at.species in omega (arith, n)) in
        let few = length-take-le number ss whole_list in
        let less : named < number = (let b = good.0 in omega (arith, b, few)) in
        let j : ℕ = i - start in
        let own = at.end in
        let begin = at.start in
        let inner : take named earlier ≡ take named ss = take-take named number ss (omega (arith, less)) in
        let index : id_of earlier named j ≡ id_of ss named j = ap (λ ts. particles_of ts + j) inner in
        let room = sum_by_more_le (λ (s : Species). s.count) earlier named no_species good.0 in
        let front : id_of earlier named j < start = omega (arith, room, count, own, begin) in
        let index_is : index_of_particle ss x ≡ j = ap (λ (k : ℕ). k - start) id_is in
        let there : id_of ss named (index_of_particle ss x) ≡ id_of earlier named j = ap (λ (k : ℕ). id_of ss named k) index_is ∙ sym index in
        let within : id_of ss named (index_of_particle ss x) < length ps = omega (arith, there, front, begin, below) in
        let other : get_or (take start ps) (id_of earlier named j) no_particle ≡ get_or ps (id_of ss named (index_of_particle ss x)) no_particle =
        get_or-take start ps (id_of earlier named j) no_particle front ∙ ap (λ (k : ℕ). get_or ps k no_particle) (sym there) in
        record {
          named = ((let n = at.species in omega (arith, n, less)), within);
          come = record {
            way = record {
              from = (All-get_or (IsParticleOf d) ps (id_of ss named (index_of_particle ss x)) no_particle within are.each).place;
              by = record { x = good.1.way X; y = good.1.way Y; z = good.1.way Z };
              charge = record { size = kind_most (species_at ss number).kind (kind_at number at.species) };
            };
            charge = ap (λ (k : Kind). k.charge) kind_is;
            place = ap (λ (y : Particle). triple y.x) is ∙ ap (λ (o : Particle). triple (moved (deck_grid d) (triple o.x) (spot by))) other;
          };
        }

    whole : Fits (species_at ss x.species).fill
    whole =
        let good = limits.filled.each x.species at.species in
        fits (species_at ss x.species).fill good.fill good.count at.is

  pub of_species : All (IsOfSpecies ss ps) ps
  of_species i z below = subst (IsOfSpecies ss ps) (sym (get_or-same i z below)) (record {
    species = (at i below).species;
    start = (let s = (at i below).start in let e = id_is i below in omega (arith, s, e));
    named = (whole i below).named;
  })
    where
      get_or-same : (i : ℕ) (z : Particle) → i < length ps → get_or ps i z ≡ get_or ps i no_particle
      get_or-same i z below = get_or_default ps i z no_particle below

  pub have_come : All (λ y. HasCome d.side d.cells (kinds_of d) y (way_of ss ps y)) ps
  unfolding way_of
  have_come i z below =
      subst (λ (y : Particle). HasCome d.side d.cells (kinds_of d) y (way_of ss ps y)) (sym (get_or_default ps i z no_particle below)) (whole i below).come

pub displaced_start_keeps_gauss : DisplacedStartKeepsGauss
unfolding displaced_e
displaced_start_keeps_gauss d parts limits are meets = record {
  at_node = λ p within.
      let least = side_least d.version d.side limits.settings.allowed.sides in
      let cells = limits.settings.cells in
      let two : HasTwo d.cells = record { x = cells.x_least; y = cells.y_least; z = cells.z_least } in
      div_e_same d.cells (value_at (field_of d.side d.cells parts (displaced_e d (loaded d)))) (displaced_e d (loaded d)) p within
      (λ a q h. value_at-field_of d.side d.cells parts (displaced_e d (loaded d)) a q h)
      ∙ gauss_by_ways d.side d.filter d.cells (kinds_of d) (way_of d.species (loaded d)) (loaded d) (initial_e d) p
      (omega (arith, least)) two within (have_come d limits are)
      (sym (div_e_same d.cells (value_at (field_of d.side d.cells parts (initial_e d))) (initial_e d) p within
      (λ a q h. value_at-field_of d.side d.cells parts (initial_e d) a q h)) ∙ meets.at_node p within);
}

-- a way by which a particle has come is within its limits
come_within : (side : ℕ) (n : Triple) (kinds : List Kind) (x : Particle) (o : Option Way) → HasCome side n kinds x o → IsWayWithinLimits side n o
come_within side n kinds x None come = tt
come_within side n kinds x (Some w) come = come.way

pub ways_within : (d : DeckView) → IsWithinLimits d → AreLoaded d (loaded d)
    → All (λ x. IsWayWithinLimits d.side d.cells (way_of d.species (loaded d) x)) (loaded d)
ways_within d limits are i x below = come_within d.side d.cells (kinds_of d) _ (way_of d.species (loaded d) _) (have_come d limits are i x below)

-- The conditions of the code, for a list that is known to be the deck's.

pub few_species : (d : DeckView) → IsWithinLimits d → particles_of d.species ≤ most_particles
few_species d limits =
    let total = limits.heads.total in
    let same = particles_of-heads d.species in
    let scheme = (within_scheme d.version).particles in
    omega (arith, total, same, scheme)

pub few_particles : (d : DeckView) (ps : List Particle) → AreLoaded d ps → length ps ≤ most_particles
few_particles d ps are = let few = are.few in let scheme = (within_scheme d.version).particles in omega (arith, few, scheme)

pub all_of_species : (d : DeckView) (species : List Species) (ps : List Particle) → species ≡ d.species → ps ≡ loaded d → IsWithinLimits d → AreLoaded d ps
    → All (IsOfSpecies species ps) ps
all_of_species d species ps s p limits are =
    subst (λ (ts : List Species). All (IsOfSpecies ts ps) ps) (sym s)
    (subst (λ (qs : List Particle). All (IsOfSpecies d.species qs) qs) (sym p) (of_species d limits (subst (AreLoaded d) p are)))

pub all_ways_within : (d : DeckView) (g : Grid) (species : List Species) (ps : List Particle) → g ≡ deck_grid d → species ≡ d.species → ps ≡ loaded d
    → IsWithinLimits d
    → AreLoaded d ps → All (λ x. IsWayWithinLimits g.side g.n (way_of species ps x)) ps
all_ways_within d g species ps is s p limits are =
    subst (λ (h : Grid). All (λ x. IsWayWithinLimits h.side h.n (way_of species ps x)) ps) (sym is)
    (subst (λ (ts : List Species). All (λ x. IsWayWithinLimits d.side d.cells (way_of ts ps x)) ps) (sym s)
    (subst (λ (qs : List Particle). All (λ x. IsWayWithinLimits d.side d.cells (way_of d.species qs x)) qs) (sym p)
    (ways_within d limits (subst (AreLoaded d) p are))))
