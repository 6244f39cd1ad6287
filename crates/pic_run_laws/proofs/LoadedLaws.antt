-- The particles of a deck that its type keeps: they are within their limits, and as its dump lists them.
use Rattle.std.proofs.Common.{◌≡◌, ℕ, zero, suc, ◌+◌, ◌-◌, ◌*◌, ◌<◌, ◌≤◌, List, [], ◌∷◌, ◌++◌, length, map, take, drop, sum, All}
use Rattle.std.proofs.Common.{refl, sym, ap, ◌∙◌, subst, arith}
use Rattle.std.specs.List.{range_with_len}
use Rattle.std.proofs.lemmas.Bool.{lt-ltb, le-ltb}
use Rattle.std.proofs.lemmas.List.{take_all, drop_all, length-append, length-map, length-take-le}
use Rattle.std.proofs.lemmas.List.Elements.{All-append, All-from_get_or, All-nil}
use Rattle.std.proofs.lemmas.List.FromFn.{get_or-map-range_with_len, length-map-range_with_len}
use Rattle.std.proofs.lemmas.List.Sums.{sum-map, sum_by-cons}
use Rattle.std.proofs.lemmas.Nat.{mod_below}
use Rattle.std.proofs.Math.Nat.{mul-le-mul}
use Rattle.pic_num.specs.declared.axis.Axis.{Axis}
use Rattle.pic_num.specs.declared.motion.Particle.{Particle}
use Rattle.pic_num.specs.Sizes.{IsAtMost}
use Rattle.pic_num.specs.Space.{triple, spot, along}
use Rattle.pic_num.proofs.RoundingLaws.{residue-is}
use Rattle.pic_num.proofs.VersionLaws.{side_least}
use Rattle.pic_block.specs.Cells.{Grid}
use Rattle.pic_grid.specs.Hat.{IsInBox}
use Rattle.pic_deck.specs.declared.species.Fill.{Fill}
use Rattle.pic_deck.specs.declared.species.Fill.TheVariants.{Points, Lattice, Random, Pair, Displace}
use Rattle.pic_deck.specs.declared.species.Species.{Species}
use Rattle.pic_deck.specs.Deck.{DeckView, deck_grid, deck_terms, heads_of}
use Rattle.pic_grid.specs.Species.{HeadView}
use Rattle.pic_deck.specs.Species.{TermsView, Point6, head_of, no_point, no_species, fastest, particles_of, IsFill, filled_count, species_at}
use Rattle.pic_deck.proofs.HeadLaws.{particles_of-heads}
use Rattle.pic_load.specs.Loading.{no_particle, loaded_particle, point_in, site, moved, id_of, particles_in, loaded_after, loaded, IsPlaced, AreLoaded}
use Rattle.pic_load.specs.Drawing.{drawn_place, drawn_velocity}
use Rattle.pic_load.specs.Generator.{generator, after}
use Rattle.pic_load.proofs.LoadLaws.{within_earlier, species_more, count_more, length-particles_in, identities_more}
use Rattle.pic_record.specs.Layout.{species_of}
use Rattle.pic_run_laws.specs.KeptDecks.{IsSixfold, IsByThrees, IsKeptDeck}
use Rattle.pic_run_laws.proofs.Listed.{IsListed}
use Rattle.pic_load.proofs.DrawnSizes.{drawn_in_box, drawn_slow}

-- the species of an identity: behind those of the species before it come its own
species_of-after : (before after : List ℕ) (count i : ℕ) → i < count → species_of (before ++ count ∷ after) (sum before + i) ≡ length before
species_of-after [] after count i below = rw (let e : 0 + i ≡ i = omega arith in e, lt-ltb i count below) refl
species_of-after (c ∷ before) after count i below =
    let first : sum (c ∷ before) ≡ c + sum before = sum_by-cons (λ x. x) c before in
    let past : c ≤ sum (c ∷ before) + i = omega (arith, first) in
    let left : sum (c ∷ before) + i - c ≡ sum before + i = omega (arith, first) in
    rw (le-ltb (sum (c ∷ before) + i) c past, left) (ap suc (species_of-after before after count i below))

-- a particle of a deck, and as a dump lists it
record IsOfDeck (grid : Grid) (kinds : ℕ) (counts : List ℕ) (particle : Particle) : Type 0 where
  placed : IsPlaced grid kinds particle
  listed : IsListed counts particle

-- a point of what fills a species
record IsGoodPoint (grid : Grid) (point : Point6) : Type 0 where
  six : IsSixfold point
  place : IsInBox grid.side grid.n (triple point.x)
  speed : (a : Axis) → IsAtMost (along a (spot point.v)) (fastest grid.side)

-- a box that has some extent
record IsWide (grid : Grid) : Type 0 where
  x : 0 < grid.n.x * grid.side
  y : 0 < grid.n.y * grid.side
  z : 0 < grid.n.z * grid.side

-- each point of what fills a species, after earlier ones
point_is : (t : TermsView) (kinds : ℕ) (counts : List ℕ) (earlier : List Species) (done : List Particle) (f : Fill) (i : ℕ) → IsWide t.grid
    → length done ≡ particles_of earlier → All (IsOfDeck t.grid kinds counts) done → IsFill t earlier f → IsByThrees f → i < filled_count earlier f
    → IsGoodPoint t.grid (point_in t.grid earlier done f i)
unfolding site moved drawn_place drawn_velocity
point_is t kinds counts earlier done (Points points) i wide count all fill six below = record {
  six = six i no_point below;
  place = (fill.each i below).place;
  speed = (fill.each i below).speed;
}
point_is t kinds counts earlier done (Lattice first gap many v) i wide count all fill six below = record {
  six = record { place = refl; speed = six };
  place = record {
    x = mod_below _ (t.grid.n.x * t.grid.side) wide.x;
    y = mod_below _ (t.grid.n.y * t.grid.side) wide.y;
    z = mod_below _ (t.grid.n.z * t.grid.side) wide.z;
  };
  speed = fill.speed;
}
point_is t kinds counts earlier done (Random many seed stream drift spread) i wide count all fill six below =
    let g = after (39 * i) (generator seed stream) in
    record {
      six = record { place = refl; speed = refl };
      place = drawn_in_box t.grid g wide.x wide.y wide.z;
      speed = drawn_slow t.grid.side (after 3 g) drift spread (record { mean = fill.1.drift; width = fill.1.spread });
    }
point_is t kinds counts earlier done (Pair named seed stream drift spread) i wide count all fill six below =
    let g = after (36 * i) (generator seed stream) in
    let room = within_earlier earlier named no_species fill.0 in
    let at = id_of earlier named i in
    let inside : at < length done = omega (arith, room, below, count) in
    let other = all at no_particle inside in
    record {
      six = record { place = other.listed.axes; speed = refl };
      place = other.placed.place;
      speed = drawn_slow t.grid.side g drift spread (record { mean = fill.1.drift; width = fill.1.spread });
    }
point_is t kinds counts earlier done (Displace named by v) i wide count all fill six below = record {
  six = record { place = refl; speed = six };
  place = record {
    x = (residue-is _ (t.grid.n.x * t.grid.side) wide.x).below;
    y = (residue-is _ (t.grid.n.y * t.grid.side) wide.y).below;
    z = (residue-is _ (t.grid.n.z * t.grid.side) wide.z).below;
  };
  speed = fill.1.speed;
}

-- the deck's species, those before one of them, and the particles of these
record IsLoadedTo (d : DeckView) (counts : List ℕ) (i : ℕ) (done : List Particle) : Type 0 where
  count : length done ≡ particles_of (take i d.species)
  identities : map (λ particle. particle.id) done ≡ range_with_len 0 (length done)
  each : All (IsOfDeck (deck_grid d) (length d.species) counts) done

-- the numbers of particles of the species, around one of them
counts_split : (ss : List Species) (i : ℕ) → i < length ss
    → map (λ s. s.count) (map head_of ss) ≡ map (λ s. s.count) (map head_of (take i ss))
    ++ (species_at ss i).count ∷ map (λ s. s.count) (map head_of (drop (suc i) ss))
counts_split [] i below = absurd (omega (arith, below))
counts_split (s ∷ ss) zero below = refl
counts_split (s ∷ ss) (suc i) below = ap (λ t. s.count ∷ t) (counts_split ss i (omega (arith, below)))

-- the species of the identities of one of them
species_is : (ss : List Species) (i k : ℕ) → i < length ss → k < (species_at ss i).count
    → species_of (map (λ s. s.count) (map head_of ss)) (particles_of (take i ss) + k) ≡ i
species_is ss i k below inside =
    let before = take i ss in
    let size = length-take-le i ss (omega (arith, below)) in
    let heads = length-map before head_of in
    let counts = length-map (map head_of before) (λ s. s.count) in
    let total : sum (map (λ s. s.count) (map head_of before)) ≡ particles_of before =
    sum-map (λ (h : HeadView). h.count) (map head_of before) ∙ particles_of-heads before in
    (λ j. species_of (counts_split ss i below j) (sym total j + k))
    ∙ species_of-after (map (λ s. s.count) (map head_of before)) _ (species_at ss i).count k inside
    ∙ counts ∙ heads ∙ size

-- one species more
module _ (d : DeckView) (kept : IsKeptDeck d)
  where
    wide : IsWide (deck_grid d)
    wide =
        let cells = kept.limits.settings.cells in
        let side = side_least d.version d.side kept.limits.settings.allowed.sides in
        record { x = product d.cells.x cells.x_least side; y = product d.cells.y cells.y_least side; z = product d.cells.z cells.z_least side }
      where
        product : (n : ℕ) → 2 ≤ n → 256 ≤ d.side → 0 < n * d.side
        product n two side = omega (arith, mul-le-mul two side)

    more_each : (i : ℕ) (done : List Particle) → i < length d.species → IsLoadedTo d (map (λ s. s.count) (heads_of d)) i done
        → All (IsOfDeck (deck_grid d) (length d.species) (map (λ s. s.count) (heads_of d)))
        (particles_in (deck_grid d) (take i d.species) done (species_at d.species i))
    unfolding particles_in
    more_each i done below to =
        let counts = map (λ s. s.count) (heads_of d) in
        let grid = deck_grid d in
        let ss = d.species in
        let earlier = take i ss in
        let s = species_at ss i in
        let filled = kept.limits.filled.each i below in
        let threes = kept.fills i no_species below in
        let number = length-take-le i ss (omega (arith, below)) in
        let f = point_in grid earlier done s.fill in
        let make : ℕ → Particle = λ j. loaded_particle (length done + j) (length earlier) (f j) in
        All-from_get_or (IsOfDeck grid (length ss) counts) (map make (range_with_len 0 s.count)) no_particle (λ k under.
        let size = length-map-range_with_len make 0 s.count in
        let inside : k < s.count = omega (arith, under, size) in
        let count = filled.count in
        let point = point_is (deck_terms d) (length ss) counts earlier done s.fill k wide to.count to.each filled.fill threes (omega (arith, inside, count)) in
        let is = get_or-map-range_with_len make 0 s.count k k no_particle inside (let e : 0 + k ≡ k = omega arith in e) in
        subst (IsOfDeck grid (length ss) counts) (sym is) (record {
          placed = record { species = omega (arith, number, below); place = point.place; speed = point.speed };
          listed = record {
            axes = point.six.place;
            speeds = point.six.speed;
            species = number ∙ sym (species_is ss i k below inside) ∙ ap (λ (n : ℕ). species_of counts (n + k)) (sym to.count);
          };
        }))

    more_loaded : (i : ℕ) (done : List Particle) → i < length d.species → IsLoadedTo d (map (λ s. s.count) (heads_of d)) i done
        → IsLoadedTo d (map (λ s. s.count) (heads_of d)) (i + 1) (done ++ particles_in (deck_grid d) (take i d.species) done (species_at d.species i))
    more_loaded i done below to =
        let grid = deck_grid d in
        let ss = d.species in
        let s = species_at ss i in
        let new = particles_in grid (take i ss) done s in
        record {
          count = length-append done new ∙ (λ j. to.count j + length-particles_in grid (take i ss) done s j) ∙ sym (count_more ss i no_species below);
          identities = identities_more grid (take i ss) done (done ++ new) s refl to.identities;
          each = All-append (IsOfDeck grid (length ss) (map (λ s. s.count) (heads_of d))) done new to.each (more_each i done below to);
        }

    all_loaded : (n i : ℕ) (done : List Particle) → i + n ≡ length d.species → IsLoadedTo d (map (λ s. s.count) (heads_of d)) i done
        → IsLoadedTo d (map (λ s. s.count) (heads_of d)) (length d.species) (loaded_after (deck_grid d) (take i d.species) done (drop i d.species))
    unfolding loaded_after
    all_loaded zero i done all to =
        let ss = d.species in
        let last : i ≡ length ss = omega (arith, all) in
        let end : done ≡ loaded_after (deck_grid d) (take i ss) done (drop i ss) =
        sym (ap (loaded_after (deck_grid d) (take i ss) done) (drop_all i ss (omega (arith, last)))) in
        subst (IsLoadedTo d (map (λ s. s.count) (heads_of d)) (length ss)) end
        (subst (λ (k : ℕ). IsLoadedTo d (map (λ s. s.count) (heads_of d)) k done) last to)
    all_loaded (suc n) i done all to =
        let ss = d.species in
        let below : i < length ss = omega (arith, all) in
        let next = done ++ particles_in (deck_grid d) (take i ss) done (species_at ss i) in
        subst (IsLoadedTo d (map (λ s. s.count) (heads_of d)) (length ss)) (sym (species_more (deck_grid d) ss done next i no_species below refl))
        (all_loaded n (i + 1) next (omega (arith, all)) (more_loaded i done below to))

    loaded_whole : IsLoadedTo d (map (λ s. s.count) (heads_of d)) (length d.species) (loaded d)
    unfolding loaded
    loaded_whole = all_loaded (length d.species) 0 [] (let e : 0 + length d.species ≡ length d.species = omega arith in e) (record {
      count = refl;
      identities = refl;
      each = All-nil (IsOfDeck (deck_grid d) (length d.species) (map (λ s. s.count) (heads_of d)));
    })

    pub are_loaded : AreLoaded d (loaded d)
    are_loaded =
        let whole = loaded_whole in
        let count = whole.count ∙ ap particles_of (take_all (length d.species) d.species (omega arith)) in
        let total = particles_of-heads d.species in
        let few = kept.limits.heads.total in
        record {
          count = count;
          few = omega (arith, count, total, few);
          identities = whole.identities;
          each = λ i x below. (whole.each i x below).placed;
        }

    pub are_listed : All (IsListed (map (λ s. s.count) (heads_of d))) (loaded d)
    are_listed = λ i x below. (loaded_whole.each i x below).listed
