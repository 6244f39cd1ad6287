-- A deck without E whose species come in couples: before the displaced ones have gone their ways every node is
-- neutral, and so the displaced start meets Gauss's law.
use Rattle.std.proofs.Common.{◌≡◌, ℕ, zero, suc, ◌+◌, ◌<◌, ◌≤◌, Bool, false, cond, if◌then◌else◌, List, [], ◌∷◌, length, take, get_or, Option}
use Rattle.std.proofs.Common.{inl, inr, refl, sym, ap, subst, ◌∙◌, arith}
use Rattle.std.proofs.Math.IntN.{ℤ, pos, neg_ℤ, ◌+ℤ◌, ◌*ℤ◌}
use Rattle.std.proofs.Math.Seq.{take-take}
use Rattle.std.proofs.lemmas.Bool.{cases_Bool, cases_lt, eq-eqb}
use Rattle.std.proofs.lemmas.List.{get_or-map, get_or-take, length-take-le, take_all}
use Rattle.std.proofs.lemmas.List.Sums.{sum_by_more_le, get_or-le-sum_by}
use Rattle.pic_num.specs.declared.motion.Kind.{Kind}
use Rattle.pic_num.specs.declared.motion.Particle.{Particle}
use Rattle.pic_num.specs.Space.{Triple, triple}
use Rattle.pic_num.proofs.Ring.{ring, reads}
use Rattle.pic_grid.specs.Hat.{weight}
use Rattle.pic_grid.specs.Lattice.{value_at, field_of}
use Rattle.pic_grid.specs.PushPhase.{kind_of, no_kind}
use Rattle.pic_grid.specs.Sums.{sum_below}
use Rattle.pic_grid.proofs.LatticeLaws.{value_at-field_of}
use Rattle.pic_grid.proofs.SumLaws.{sum_same}
use Rattle.pic_filter.specs.Smoothing.{filtered}
use Rattle.pic_charge.specs.Charge.{share, charge_of, rho_of}
use Rattle.pic_split.proofs.ImageLaws.{div_e_same, div_e-zero}
use Rattle.pic_deck.specs.declared.species.Fill.{Fill}
use Rattle.pic_deck.specs.declared.species.Fill.TheVariants.{Points, Lattice, Random, Pair, Displace}
use Rattle.pic_deck.specs.declared.species.Species.{Species}
use Rattle.pic_deck.specs.Deck.{DeckView, IsWithinLimits, deck_grid, deck_terms, initial_e}
use Rattle.pic_deck.specs.Species.{particles_of, species_at, no_species, filled_count, IsFill, IsOpposite}
use Rattle.pic_load.specs.Loading.{id_of, loaded, no_particle}
use Rattle.pic_load.proofs.LoadLaws.{within_earlier, count_more}
use Rattle.pic_ways.specs.declared.way.Way.{Way}
use Rattle.pic_ways.specs.Way.{at_start}
use Rattle.pic_displace.specs.Displace.{is_displacement, index_of_particle, way_by, way_of, undisplaced, kinds_of}
use Rattle.pic_displace.specs.Couples.{is_displaced_from, displaced_from, InCouples, CouplesMeetGauss}
use Rattle.pic_displace.proofs.LoadedLaws.{AreLoadedAt, all_loaded}
use Rattle.pic_displace.proofs.DisplaceLaws.{displaced_start_keeps_gauss}
use Rattle.pic_displace.proofs.NoneLaws.{no_way_by, filtered_zero}
use Rattle.pic_displace.proofs.CoupleSums.{sum_parts, sum_minus, sum_by_index, sum_over-map, Cancels, couples_cancel}

-- a share of the opposite charge
opposite_share : (q r w : ℤ) → r ≡ neg_ℤ q → pos 12 *ℤ q *ℤ w ≡ neg_ℤ (pos 12 *ℤ r *ℤ w)
opposite_share q r w opposite = turned q w ∙ ap (λ (z : ℤ). neg_ℤ (pos 12 *ℤ z *ℤ w)) (sym opposite)
  where
    turned : (z v : ℤ) → pos 12 *ℤ z *ℤ v ≡ neg_ℤ (pos 12 *ℤ neg_ℤ z *ℤ v)
    turned z v = ring (z ∷ v ∷ []) (search reads depth 40 fits 9000) tt

-- an identity of one species isn't one of a later species
apart : (ss : List Species) (a b k : ℕ) → a < b → b < length ss → k < particles_of (take a ss) + (species_at ss a).count → particles_of (take b ss) ≤ k → ⊥
apart ss a b k less below under least =
    let whole_list : b ≤ length ss = omega (arith, below) in
    let few = length-take-le b ss whole_list in
    let room = sum_by_more_le (λ (s : Species). s.count) (take b ss) a no_species (omega (arith, few, less)) in
    let before : a ≤ b = omega (arith, less) in
    let front : particles_of (take a (take b ss)) ≡ particles_of (take a ss) = ap particles_of (take-take a b ss before) in
    let own : (species_at (take b ss) a).count ≡ (species_at ss a).count = ap (λ (s : Species). s.count) (get_or-take b ss a no_species less) in
    omega (arith, room, front, own, under, least)

-- it is one of one species only
one_species : (ss : List Species) (a b k : ℕ) → a < length ss → b < length ss
    → particles_of (take a ss) ≤ k → k < particles_of (take a ss) + (species_at ss a).count
    → particles_of (take b ss) ≤ k → k < particles_of (take b ss) + (species_at ss b).count → a ≡ b
one_species ss a b k a_in b_in a_start a_end b_start b_end = elim (cases_lt a b) [
  | inl less ↦ absurd (apart ss a b k less b_in a_end b_start)
  | inr least ↦ elim (cases_lt b a) [
    | inl more ↦ absurd (apart ss b a k more a_in b_end a_start)
    | inr most ↦ omega (arith, least, most)
  ]
]

-- a sum over all identities, species by species
by_species : (ss : List Species) (g : ℕ → ℤ) (m : ℕ) → m ≤ length ss
    → sum_below (particles_of (take m ss)) g ≡ sum_below m (λ i. sum_below (species_at ss i).count (λ j. g (id_of ss i j)))
unfolding sum_below
by_species ss g zero most = refl
by_species ss g (suc m) most =
    let more : suc m ≡ m + 1 = omega arith in
    let below : m < length ss = omega (arith, most) in
    ap (λ (k : ℕ). sum_below (particles_of (take k ss)) g) more
    ∙ ap (λ (k : ℕ). sum_below k g) (count_more ss m no_species below)
    ∙ sum_parts (particles_of (take m ss)) (species_at ss m).count g
    ∙ ap (λ (t : ℤ). t +ℤ sum_below (species_at ss m).count (λ j. g (id_of ss m j))) (by_species ss g m (omega (arith, most)))

module _ (d : DeckView) (limits : IsWithinLimits d) (couples : InCouples d.species) where
  abbrev ss : List Species
  ss = d.species

  abbrev ps : List Particle
  ps = loaded d

  laid : AreLoadedAt (deck_grid d) ss ps
  unfolding loaded
  laid = all_loaded (deck_grid d) ss

  -- the particle of an index of a species
  abbrev particle : ℕ → ℕ → Particle
  particle i j = get_or ps (id_of ss i j) no_particle

  -- it is of that species, and has that index and that charge
  record IsOf (i j : ℕ) : Type 0 where
    species : (particle i j).species ≡ i
    index : index_of_particle ss (particle i j) ≡ j
    charge : (kind_of (kinds_of d) (particle i j)).charge ≡ (species_at ss i).kind.charge

  is_of : (i j : ℕ) → i < length ss → j < (species_at ss i).count → IsOf i j
  is_of i j few below =
      let room = within_earlier ss i no_species few in
      let count = laid.count in
      let inside : id_of ss i j < length ps = omega (arith, room, below, count) in
      let at = laid.each (id_of ss i j) inside in
      let same : (particle i j).species ≡ i =
      one_species ss (particle i j).species i (id_of ss i j) at.species few at.start at.end (omega arith) (omega (arith, below)) in
      let id : (particle i j).id ≡ id_of ss i j = ap (λ (y : Particle). y.id) at.is in
      let front : particles_of (take (particle i j).species ss) ≡ particles_of (take i ss) = ap (λ (k : ℕ). particles_of (take k ss)) same in
      record {
        species = same;
        index = omega (arith, id, front);
        charge = ap (λ (k : Kind). k.charge) (get_or-map (λ (s : Species). s.kind) ss (particle i j).species no_species no_kind at.species)
            ∙ ap (λ (k : ℕ). (species_at ss k).kind.charge) same;
      }

  -- from which a species is displaced, none is: it has one that is displaced from it
  plain : (number named : ℕ) (by v : List ℤ) → number < length ss → named < length ss → (species_at ss number).fill ≡ Displace named by v
      → is_displacement (species_at ss named).fill ≡ false
  plain number named by v few within filled = elim (cases_Bool (is_displacement (species_at ss named).fill)) [
    | inl displaced ↦
        let none_or_one : Bool → ℕ = λ b. if b then 0 else 1 in
        let one_or_none : Bool → ℕ = λ b. cond b 1 0 in
        let none : displaced_from ss named ≡ 0 = couples.each named within ∙ ap none_or_one displaced in
        let one = get_or-le-sum_by (λ (s : Species). one_or_none (is_displaced_from named s.fill)) ss number no_species few in
        let own : one_or_none (is_displaced_from named (species_at ss number).fill) ≡ 1 =
        ap (λ (f : Fill). one_or_none (is_displaced_from named f)) filled ∙ ap one_or_none (eq-eqb named named refl) in
        absurd (omega (arith, none, one, own))
    | inr stays ↦ stays
  ]

  -- What a node has of the particles before the displaced ones have gone their ways.
  module _ (node : Triple) where
    -- what it has of one
    abbrev before : Particle → ℤ
    before x = share d.side d.cells (kinds_of d) (at_start x (way_of ss ps x)) node

    -- what a charge at a place adds
    abbrev adds : ℤ → List ℕ → ℤ
    adds charge place = pos 12 *ℤ charge *ℤ pos (weight d.side d.cells (triple place) node)

    -- a particle of a species that isn't displaced
    of_plain : (i j : ℕ) → i < length ss → j < (species_at ss i).count → is_displacement (species_at ss i).fill ≡ false
        → before (particle i j) ≡ adds (species_at ss i).kind.charge (particle i j).x
    unfolding share way_of
    of_plain i j few below stays =
        let x = particle i j in
        let is = is_of i j few below in
        let still : is_displacement (species_at ss x.species).fill ≡ false =
        ap (λ (k : ℕ). is_displacement (species_at ss k).fill) is.species ∙ stays in
        ap (λ (o : Option Way). share d.side d.cells (kinds_of d) (at_start x o) node) (no_way_by ss ps x (species_at ss x.species).fill still)
        ∙ ap (λ (q : ℤ). adds q x.x) is.charge

    -- a particle of one that is: it stands where the named one does
    of_displaced : (i j named : ℕ) (by v : List ℤ) → i < length ss → j < (species_at ss i).count → (species_at ss i).fill ≡ Displace named by v
        → before (particle i j) ≡ adds (species_at ss i).kind.charge (particle named j).x
    unfolding share way_of
    of_displaced i j named by v few below filled =
        let x = particle i j in
        let is = is_of i j few below in
        let fill : (species_at ss x.species).fill ≡ Displace named by v = ap (λ (k : ℕ). (species_at ss k).fill) is.species ∙ filled in
        ap (λ (f : Fill). share d.side d.cells (kinds_of d) (at_start x (way_by ss ps x f)) node) fill
        ∙ (λ t. adds (is.charge t) (particle named (is.index t)).x)

    -- what it has of a species
    abbrev of_species : ℕ → ℤ
    of_species i = sum_below (species_at ss i).count (λ j. before (particle i j))

    -- those of a couple cancel
    cancels : (number : ℕ) → number < length ss → Cancels (length ss) of_species number (species_at ss number).fill
    cancels number few = go (species_at ss number).fill refl
      where
        go : (f : Fill) → (species_at ss number).fill ≡ f → Cancels (length ss) of_species number f
        go (Points points) is = tt
        go (Lattice first gap count v) is = tt
        go (Random count seed stream drift spread) is = tt
        go (Pair named seed stream drift spread) is = tt
        go (Displace named by v) is =
            let filled = limits.filled.each number few in
            let good : IsFill (deck_terms d) (take number ss) (Displace named by v) = subst (IsFill (deck_terms d) (take number ss)) is filled.fill in
            let whole_list : number ≤ length ss = omega (arith, few) in
            let size = length-take-le number ss whole_list in
            let less : named < number = (let b = good.0 in omega (arith, b, size)) in
            let within : named < length ss = omega (arith, less, few) in
            let other : species_at (take number ss) named ≡ species_at ss named = get_or-take number ss named no_species less in
            let count : (species_at ss number).count ≡ (species_at ss named).count =
            filled.count ∙ ap (filled_count (take number ss)) is ∙ ap (λ (s : Species). s.count) other in
            let charge : (species_at ss number).kind.charge ≡ neg_ℤ (species_at ss named).kind.charge =
            subst (IsOpposite (take number ss) (species_at ss number).kind.charge) is filled.opposite
            ∙ ap (λ (s : Species). neg_ℤ s.kind.charge) other in
            let each : (j : ℕ) → j < (species_at ss named).count → before (particle named j) ≡ neg_ℤ (before (particle number j)) =
            (λ j below.
            of_plain named j within below (plain number named by v few within is)
            ∙ opposite_share (species_at ss named).kind.charge (species_at ss number).kind.charge
            (pos (weight d.side d.cells (triple (particle named j).x) node)) charge
            ∙ ap neg_ℤ (sym (of_displaced number j named by v few (omega (arith, below, count)) is))) in (
              within,
              sum_same (species_at ss named).count (λ j. before (particle named j)) (λ j. neg_ℤ (before (particle number j))) each
                  ∙ sum_minus (species_at ss named).count (λ j. before (particle number j))
                  ∙ ap (λ (k : ℕ). neg_ℤ (sum_below k (λ j. before (particle number j)))) (sym count),
            )

    -- the node is neutral
    pub neutral : charge_of d.side d.cells (kinds_of d) (undisplaced d ps) node ≡ pos 0
    unfolding charge_of
    neutral =
        let at : ℕ → ℤ = λ k. before (get_or ps k no_particle) in
        sum_over-map (λ (x : Particle). share d.side d.cells (kinds_of d) x node) (λ (x : Particle). at_start x (way_of ss ps x)) ps
        ∙ sum_by_index before ps no_particle
        ∙ ap (λ (k : ℕ). sum_below k at) (laid.count ∙ ap particles_of (sym (take_all (length ss) ss (omega arith))))
        ∙ by_species ss at (length ss) (omega arith)
        ∙ couples_cancel ss of_species cancels couples

pub couples_meet_gauss : CouplesMeetGauss
unfolding rho_of
couples_meet_gauss d parts limits are no_e couples = displaced_start_keeps_gauss d parts limits are (record {
  at_node = λ p within.
      div_e_same d.cells (value_at (field_of d.side d.cells parts (initial_e d))) (λ a q. pos 0) p within
      (λ a q h. value_at-field_of d.side d.cells parts (initial_e d) a q h ∙ no_e.none a q h)
      ∙ div_e-zero d.cells p
      ∙ sym ((λ t. filtered d.filter d.cells (λ q. neutral d limits couples q t) p) ∙ filtered_zero d.filter d.cells p);
})
