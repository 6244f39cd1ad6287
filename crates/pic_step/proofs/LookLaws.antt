-- What is written into a snapshot where probes look: there it has the values of the state.
use Rattle.std.proofs.Common.{◌≡◌, ℕ, ◌+◌, ◌<◌, List, [], ◌∷◌, length, get_or, take, set, All, sym, ap, ◌∙◌, subst}
use Rattle.std.proofs.Math.Decide.{ℕ_discrete}
use Rattle.std.proofs.Math.IntN.{ℤ, pos}
use Rattle.std.proofs.lemmas.List.{get_or-set_same, get_or-set_other, length-set, take_more}
use Rattle.std.proofs.lemmas.List.Elements.{All-head, All-tail, All-nil, All-cons, All-more, All-weaker}
use Rattle.std.proofs.Math.Seq.{map-set_same}
use Rattle.std.specs.List.{range_with_len}
use Rattle.pic_num.specs.declared.axis.Axis.{Axis}
use Rattle.pic_num.specs.declared.axis.Axis.TheVariants.{X}
use Rattle.pic_num.specs.declared.motion.Particle.{Particle}
use Rattle.pic_num.specs.NoParticle.{no_particle}
use Rattle.pic_num.specs.Space.{Triple, triple}
use Rattle.pic_block.specs.Cells.{place_of}
use Rattle.pic_grid.specs.Lattice.{Field, value_at, with_value}
use Rattle.pic_devices.specs.declared.place.Place.{Place}
use Rattle.pic_tile.specs.InOrder.{AreOrdered, written}
use Rattle.pic_tile.proofs.InOrderLaws.{written_push}
use Rattle.pic_step.specs.Shown.{HaveSameAt}
use Rattle.pic_step.specs.Tracers.{IsOf, identities}
use Rattle.pic_tile.specs.Tiling.{Tiling}
use Rattle.pic_step.specs.Kept.{IsCut}
use Rattle.pic_step.proofs.OnePartLaws.{whole, whole_is}
use Rattle.pic_step.proofs.TracerLaws.{identity_at}

-- a place that isn't there
abbrev pub no_place : Place
no_place = record { field = 0; axis = X; cell = [] }

-- a value of g, written into a lattice of as many cells, leaves it with those of g that it has
pub same_kept : (f g : Field) (a : Axis) (p : Triple) (v : ℤ) (q : Place) → f.cells ≡ g.cells → v ≡ value_at g a p
    → value_at (with_value f a p v) a p ≡ v → HaveSameAt f g q → HaveSameAt (with_value f a p v) g q
same_kept f g a p v q cells is stored same =
    let n = place_of f.cells a p in
    let i = place_of f.cells q.axis (triple q.cell) in
    elim (ℕ_discrete i n) [
      | yes here ↦ (
          ap (λ (k : ℕ). get_or (set f.values n v) k (pos 0)) here ∙ stored ∙ is
          ∙ ap (λ (m : Triple). get_or g.values (place_of m a p) (pos 0)) (sym cells)
          ∙ ap (λ (k : ℕ). get_or g.values k (pos 0)) (sym here)
          ∙ ap (λ (m : Triple). get_or g.values (place_of m q.axis (triple q.cell)) (pos 0)) cells
          )
      | no other ↦ get_or-set_other f.values n i v (pos 0) other ∙ same
    ]

-- at all places
pub all_kept : (f g : Field) (a : Axis) (p : Triple) (v : ℤ) (qs : List Place) → f.cells ≡ g.cells → v ≡ value_at g a p
    → value_at (with_value f a p v) a p ≡ v → All (HaveSameAt f g) qs → All (HaveSameAt (with_value f a p v) g) qs
all_kept f g a p v qs cells is stored all =
    All-weaker (HaveSameAt f g) (HaveSameAt (with_value f a p v) g) (λ q same. same_kept f g a p v q cells is stored same) qs all

-- a loop's step: one place more,
pub place_more : (f g h : Field) (qs : List Place) (i : ℕ) (d : Place) (v : ℤ) → i < length qs → f.cells ≡ g.cells
    → v ≡ value_at g (get_or qs i d).axis (triple (get_or qs i d).cell) → h ≡ with_value f (get_or qs i d).axis (triple (get_or qs i d).cell) v
    → value_at h (get_or qs i d).axis (triple (get_or qs i d).cell) ≡ v → All (HaveSameAt f g) (take i qs) → All (HaveSameAt h g) (take (i + 1) qs)
place_more f g h qs i d v below cells is after stored all =
    let q = get_or qs i d in
    let now = sym (ap (λ (k : Field). value_at k q.axis (triple q.cell)) after) ∙ stored in
    All-more (HaveSameAt h g) qs i d below
    (subst (λ (k : Field). All (HaveSameAt k g) (take i qs)) (sym after) (all_kept f g q.axis (triple q.cell) v (take i qs) cells is now all)) (stored ∙ is)

-- and the lattice is as it was but for its values
pub shape_kept : (o f h : Field) (a : Axis) (p : Triple) (v : ℤ) → h ≡ with_value f a p v → f ≡ record o { values = f.values } → h ≡ record o
    { values = h.values }
shape_kept o f h a p v after shape =
    after ∙ (λ i. record (shape i) { values = set f.values (place_of f.cells a p) v }) ∙ (λ i. record o { values = (sym after i).values })

-- one particle more
pub each_more : (ps list now : List Particle) (i : ℕ) (d : Particle) → i < length ps → now ≡ written (take i ps) list
    → set now (get_or ps i d).id (get_or ps i d) ≡ written (take (i + 1) ps) list
each_more ps list now i d below so_far =
    let x = get_or ps i d in
    ap (λ (xs : List Particle). set xs x.id x) so_far ∙ sym (written_push (take i ps) x list)
    ∙ ap (λ (xs : List Particle). written xs list) (sym (take_more ps i d below))

-- a particle of the list in order, written at its identity, keeps the identities
set_ordered : (x : Particle) (list : List Particle) → AreOrdered list → x.id < length list → AreOrdered (set list x.id x)
set_ordered x list o below = record {
  identities = map-set_same (λ (p : Particle). p.id) list x.id x x (sym (identity_at list x.id x o below)) ∙ o.identities
      ∙ ap (range_with_len 0) (sym (length-set list x.id x));
}

pub written_ordered : (ps xs list : List Particle) → length list ≡ length ps → All (IsOf ps) xs → AreOrdered list → AreOrdered (written xs list)
unfolding written
written_ordered ps [] list long of o = o
written_ordered ps (x ∷ xs) list long of o =
    let below : x.id < length list = subst (λ (n : ℕ). x.id < n) (sym long) (All-head (IsOf ps) x xs of).below in
    written_ordered ps xs (set list x.id x) (length-set list x.id x ∙ long) (All-tail (IsOf ps) x xs of) (set_ordered x list o below)

-- and the particles that are there already
set_keeps : (ps : List Particle) (x : Particle) (list : List Particle) (i : ℕ) → length list ≡ length ps → IsOf ps x
    → get_or list i no_particle ≡ get_or ps i no_particle → get_or (set list x.id x) i no_particle ≡ get_or ps i no_particle
set_keeps ps x list i long of same =
    let below : x.id < length list = subst (λ (n : ℕ). x.id < n) (sym long) of.below in
    elim (ℕ_discrete i x.id) [
      | yes here ↦ (
          ap (λ (k : ℕ). get_or (set list x.id x) k no_particle) here ∙ get_or-set_same list x.id x no_particle below ∙ sym of.is
          ∙ ap (λ (k : ℕ). get_or ps k no_particle) (sym here)
          )
      | no other ↦ get_or-set_other list x.id i x no_particle other ∙ same
    ]

written_keeps : (ps xs list : List Particle) (i : ℕ) → length list ≡ length ps → All (IsOf ps) xs
    → get_or list i no_particle ≡ get_or ps i no_particle → get_or (written xs list) i no_particle ≡ get_or ps i no_particle
unfolding written
written_keeps ps [] list i long of same = same
written_keeps ps (x ∷ xs) list i long of same =
    written_keeps ps xs (set list x.id x) i (length-set list x.id x ∙ long) (All-tail (IsOf ps) x xs of)
    (set_keeps ps x list i long (All-head (IsOf ps) x xs of) same)

-- each that is written is where it stands in the list
abbrev pub IsSame : List Particle → List Particle → ℕ → Type 0
IsSame list ps id = get_or list id no_particle ≡ get_or ps id no_particle

pub written_shows : (ps xs list : List Particle) → length list ≡ length ps → All (IsOf ps) xs → All (IsSame (written xs list) ps) (identities xs)
unfolding written
written_shows ps [] list long of = All-nil (IsSame list ps)
written_shows ps (x ∷ xs) list long of =
    let one = All-head (IsOf ps) x xs of in
    let rest = All-tail (IsOf ps) x xs of in
    let next = length-set list x.id x ∙ long in
    let below : x.id < length list = subst (λ (n : ℕ). x.id < n) (sym long) one.below in
    All-cons (IsSame (written xs (set list x.id x)) ps) x.id (identities xs)
    (written_keeps ps xs (set list x.id x) x.id next rest (get_or-set_same list x.id x no_particle below ∙ sym one.is))
    (written_shows ps xs (set list x.id x) next rest)

-- so are those of these identities
pub shown_tracers : (ps xs list to : List Particle) (ids : List ℕ) → length list ≡ length ps → All (IsOf ps) xs → identities xs ≡ ids → to ≡ written xs list
    → All (IsSame to ps) ids
shown_tracers ps xs list to ids long of is done =
    subst (All (IsSame to ps)) is (subst (λ (ys : List Particle). All (IsSame ys ps) (identities xs)) (sym done) (written_shows ps xs list long of))

-- a lattice that is cut has the values of the state's field
pub same_whole : (m : Tiling) (to f : Field) (qs : List Place) → IsCut m f → All (HaveSameAt to f) qs
    → All (HaveSameAt to (whole m f.values)) qs
same_whole m to f qs cut all = subst (λ (g : Field). All (HaveSameAt to g) qs) (whole_is m f cut) all
