-- The particles of a deck, one by one and species by species.
use Rattle.std.proofs.Common.{◌≡◌, ℕ, zero, suc, ◌+◌, ◌<◌, ◌≤◌, List, []}
use Rattle.std.proofs.Common.{◌∷◌, ◌++◌, length, map, take, drop, get_or, refl, ap, sym, ◌∙◌, arith}
use Rattle.std.specs.List.{All, range_with_len}
use Rattle.std.proofs.Math.Seq.{drop-cons}
use Rattle.std.proofs.lemmas.List.{append-nil, append_assoc, length-append, map-append, take_more, get_or_append_left}
use Rattle.std.proofs.lemmas.List.Elements.{All-push}
use Rattle.std.proofs.lemmas.List.FromFn.{map-range_with_len_more, length-map-range_with_len}
use Rattle.std.proofs.lemmas.List.Sums.{sum_by_push, sum_by_more_le}
use Rattle.pic_num.specs.declared.axis.Axis.{Axis}
use Rattle.pic_num.specs.declared.motion.Particle.{Particle}
use Rattle.pic_num.specs.Sizes.{IsAtMost}
use Rattle.pic_num.specs.Space.{triple, spot, along}
use Rattle.pic_block.specs.Cells.{Grid}
use Rattle.pic_grid.specs.Hat.{IsInBox}
use Rattle.pic_deck.specs.declared.species.Fill.{Fill}
use Rattle.pic_deck.specs.declared.species.Species.{Species}
use Rattle.pic_deck.specs.Species.{Point6, fastest, particles_of}
use Rattle.pic_load.specs.Loading.{loaded_particle, first_of_species, point_in, particles_in, loaded_after, IsPlaced}

-- so many more
pub so_far : (old now : List Particle) (species k : ℕ) (f : ℕ → Point6) → now ≡ old ++ first_of_species (length old) species f k → length now ≡ length old + k
so_far old now species k f e =
    ap length e ∙ length-append old (first_of_species (length old) species f k)
    ∙ ap (λ n. length old + n) (length-map-range_with_len (λ i. loaded_particle (length old + i) species (f i)) 0 k)

-- one more
pub one_more : (old now next : List Particle) (species k : ℕ) (f : ℕ → Point6) (p : Point6) → now ≡ old ++ first_of_species (length old) species f k
    → next ≡ now ++ loaded_particle (length now) species p ∷ [] → p ≡ f k → next ≡ old ++ first_of_species (length old) species f (k + 1)
one_more old now next species k f p e add is =
    let first = first_of_species (length old) species f k in
    let same : loaded_particle (length now) species p ≡ loaded_particle (length old + k) species (f k) =
    (λ i. loaded_particle (so_far old now species k f e i) species (is i)) in
    let more = map-range_with_len_more (λ i. loaded_particle (length old + i) species (f i)) 0 k k (let z : 0 + k ≡ k = omega arith in z) in
    add ∙ (λ i. e i ++ same i ∷ []) ∙ append_assoc old first (loaded_particle (length old + k) species (f k) ∷ [])
    ∙ ap (λ (ps : List Particle). old ++ ps) (sym more)

-- none yet
pub none_yet : (old : List Particle) (species : ℕ) (f : ℕ → Point6) → old ≡ old ++ first_of_species (length old) species f 0
none_yet old species f = sym (append-nil old)

-- a particle that is added
pub placed_more : (grid : Grid) (m : ℕ) (now next : List Particle) (id species : ℕ) (p : Point6) → species < m → IsInBox grid.side grid.n (triple p.x)
    → ((a : Axis) → IsAtMost (along a (spot p.v)) (fastest grid.side))
    → next ≡ now ++ loaded_particle id species p ∷ [] → All (IsPlaced grid m) now → All (IsPlaced grid m) next
placed_more grid m now next id species p below place speed e placed =
    rw e (All-push (IsPlaced grid m) now (loaded_particle id species p) placed (record { species = below; place = place; speed = speed }))

-- an earlier particle is still where it was
pub still : (old now : List Particle) (species k : ℕ) (f : ℕ → Point6) (i : ℕ) (d : Particle) → now ≡ old ++ first_of_species (length old) species f k
    → i < length old → get_or now i d ≡ get_or old i d
still old now species k f i d e below = ap (λ (ps : List Particle). get_or ps i d) e
    ∙ get_or_append_left old (first_of_species (length old) species f k) d i below

-- what fills a species, told
pub filled_by : (grid : Grid) (earlier : List Species) (done : List Particle) (s : Species) (f : Fill) (k : ℕ) → s.fill ≡ f → s.count ≡ k
    → particles_in grid earlier done s ≡ first_of_species (length done) (length earlier) (point_in grid earlier done f) k
unfolding particles_in
filled_by grid earlier done s f k e h = (λ i. first_of_species (length done) (length earlier) (point_in grid earlier done (e i)) (h i))

-- there is room in what the earlier species left for the particles of one of them
pub within_earlier : (ss : List Species) (number : ℕ) (d : Species) → number < length ss
    → particles_of (take number ss) + (get_or ss number d).count ≤ particles_of ss
within_earlier ss number d below = sum_by_more_le (λ (s : Species). s.count) ss number d below

-- the next species of those that are left
pub species_more : (grid : Grid) (ss : List Species) (done next : List Particle) (i : ℕ) (d : Species) → i < length ss
    → next ≡ done ++ particles_in grid (take i ss) done (get_or ss i d)
    → loaded_after grid (take i ss) done (drop i ss) ≡ loaded_after grid (take (i + 1) ss) next (drop (i + 1) ss)
unfolding loaded_after
species_more grid ss done next i d below e =
    let more : suc i ≡ i + 1 = omega arith in
    ap (loaded_after grid (take i ss) done) (drop-cons ss i d below)
    ∙ (λ j. loaded_after grid (sym (take_more ss i d below) j) (sym e j) (drop (more j) ss))

pub count_more : (ss : List Species) (i : ℕ) (d : Species) → i < length ss → particles_of (take (i + 1) ss) ≡ particles_of (take i ss) + (get_or ss i d).count
count_more ss i d below = ap particles_of (take_more ss i d below) ∙ sum_by_push (λ (s : Species). s.count) (take i ss) (get_or ss i d)

-- as many particles as the species says
pub length-particles_in : (grid : Grid) (earlier : List Species) (done : List Particle) (s : Species) → length (particles_in grid earlier done s) ≡ s.count
unfolding particles_in
length-particles_in grid earlier done s = length-map-range_with_len
    (λ i. loaded_particle (length done + i) (length earlier) (point_in grid earlier done s.fill i)) 0 s.count

range_append : (a m n : ℕ) → range_with_len a (m + n) ≡ range_with_len a m ++ range_with_len (a + m) n
range_append a zero n =
    ap (range_with_len a) (let e : 0 + n ≡ n = omega arith in e) ∙ ap (λ k. range_with_len k n) (let e : a ≡ a + 0 = omega arith in e)
range_append a (suc m) n =
    ap (range_with_len a) (let e : suc m + n ≡ suc (m + n) = omega arith in e)
    ∙ ap (λ xs. a ∷ xs) (range_append (a + 1) m n ∙ ap (λ k. range_with_len (a + 1) m ++ range_with_len k n) (let e : a + 1 + m ≡ a + suc m = omega arith in e))

ids_of : (start species : ℕ) (f : ℕ → Point6) (j k : ℕ)
    → map (λ (p : Particle). p.id) (map (λ i. loaded_particle (start + i) species (f i)) (range_with_len j k)) ≡ range_with_len (start + j) k
ids_of start species f j zero = refl
ids_of start species f j (suc k) =
    ap (λ xs. (start + j) ∷ xs) (ids_of start species f (j + 1) k ∙ ap (λ i. range_with_len i k) (let e : start + (j + 1) ≡ start + j + 1 = omega arith in e))

-- identities go on counting up
pub identities_more : (grid : Grid) (earlier : List Species) (done next : List Particle) (s : Species) → next ≡ done ++ particles_in grid earlier done s
    → map (λ (p : Particle). p.id) done ≡ range_with_len 0 (length done) → map (λ (p : Particle). p.id) next ≡ range_with_len 0 (length next)
unfolding particles_in
identities_more grid earlier done next s e before =
    let f = point_in grid earlier done s.fill in
    let new = first_of_species (length done) (length earlier) f s.count in
    let start : length done + 0 ≡ 0 + length done = omega arith in
    let size : length next ≡ length done + s.count = so_far done next (length earlier) s.count f e in
    ap (map (λ (p : Particle). p.id)) e ∙ map-append (λ (p : Particle). p.id) done new
    ∙ (λ i. before i ++ (ids_of (length done) (length earlier) f 0 s.count ∙ ap (λ k. range_with_len k s.count) start) i)
    ∙ sym (range_append 0 (length done) s.count) ∙ ap (range_with_len 0) (sym size)
