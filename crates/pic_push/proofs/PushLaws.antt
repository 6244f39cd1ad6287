-- What one push leaves: a move of at most a side, the identity, the species, a place in the box.
use Rattle.std.proofs.Common.{◌≡◌, ℕ, suc, ◌*◌, ◌<◌, ◌≤◌, false, List, []}
use Rattle.std.proofs.Common.{◌∷◌, length, map, None, Result, Ok, Err, refl, sym, ap, subst, arith}
use Rattle.std.specs.Prelude.{unsigned_abs, nat_lt, slice_index_or, All}
use Rattle.std.proofs.lemmas.List.Elements.{All-map}
use Rattle.pic_num.specs.declared.motion.Particle.{Particle}
use Rattle.pic_num.specs.declared.motion.What.{What}
use Rattle.pic_num.specs.declared.motion.What.TheVariants.{Far}
use Rattle.pic_num.specs.declared.axis.Axis.{Axis}
use Rattle.pic_num.specs.declared.axis.Axis.TheVariants.{X, Y, Z}
use Rattle.pic_num.specs.First.{first_of}
use Rattle.pic_num.proofs.FirstLaws.{left_none, right_none, none_unless}
pub use Rattle.pic_num.proofs.FirstLaws.{unless_ok}
use Rattle.pic_num.specs.Multiplier.{Multiplier}
use Rattle.pic_num.specs.Push.{Shift, Halting, pushed, first_above, plus}
use Rattle.pic_num.specs.Space.{Triple, Spot, triple, along, unwrapped, AreAtMost}
use Rattle.pic_grid.specs.Hat.{HasTwo, IsInBox}
use Rattle.pic_num.proofs.RoundingLaws.{residue-is}
use Rattle.std.proofs.lemmas.Bool.Decides.{nat_tests}
use Rattle.pic_grid.specs.PushPhase.{Surroundings, push_of, after_push, moved, moved_all}
use Rattle.pic_grid.specs.PushPhase.{CanShare}
use Rattle.pic_split.specs.Move.{wrapped_point}

not_above : (most n : ℕ) → nat_lt most n ≡ false → n ≤ most
not_above most n h = grind (arith, nat_tests)

-- a test that fails on no axis
pub none_above : (what : What) (most : ℕ) (p : Spot) → first_above what most p ≡ None → (a : Axis) → unsigned_abs (along a p) ≤ most
unfolding first_above first_of
none_above what most p none X = not_above most (unsigned_abs p.x) (none_unless _ _ (left_none _ _ none))
none_above what most p none Y = not_above most (unsigned_abs p.y) (none_unless _ _ (left_none _ _ (right_none _ _ none)))
none_above what most p none Z = not_above most (unsigned_abs p.z) (none_unless _ _ (left_none _ _ (right_none _ _ (right_none _ _ none))))

-- a push that doesn't halt moves by at most a side
pub pushed_move : (side : ℕ) (v e b : Spot) (kick turn : Multiplier) (s : Shift) → pushed side v e b kick turn ≡ Ok s → AreAtMost s.d side
unfolding pushed
pushed_move side v e b kick turn s h =
    let both = unless_ok _ _ s h in
    let far = none_above Far side _ (right_none _ _ (right_none _ _ both.0)) in
    subst (λ (t : Shift). AreAtMost t.d side) both.1
    (record { x = record { size = far X }; y = record { size = far Y }; z = record { size = far Z } })

-- the push of a particle that doesn't halt
pub push_move : (w : Surroundings) (particle : Particle) (s : Shift) → push_of w particle ≡ Ok s → AreAtMost s.d w.side
unfolding push_of
push_move w particle s h = pushed_move w.side _ _ _ _ _ s h

-- a push keeps the identity
pub id_kept : (side : ℕ) (n : Triple) (particle : Particle) (r : Result Shift Halting) → (after_push side n particle r).id ≡ particle.id
unfolding after_push moved
id_kept side n particle (Ok s) = refl
id_kept side n particle (Err h) = refl

-- a push keeps the species
pub species_kept : (side : ℕ) (n : Triple) (particle : Particle) (r : Result Shift Halting) → (after_push side n particle r).species ≡ particle.species
unfolding after_push moved
species_kept side n particle (Ok s) = refl
species_kept side n particle (Err h) = refl

-- a particle that moved stands where its path wraps to
pub moved_place : (side : ℕ) (n : Triple) (particle : Particle) (s : Shift)
    → triple (moved side n particle s).x ≡ wrapped_point side n (plus (unwrapped (triple particle.x)) s.d)
unfolding moved
moved_place side n particle s = refl

above_zero : (a b : ℕ) → 2 ≤ a → 0 < b → 0 < a * b
above_zero a b h k = grind arith

-- a wrapped point lies in the box
pub wrapped_in_box : (side : ℕ) (n : Triple) (p : Spot) → 0 < side → HasTwo n → IsInBox side n (wrapped_point side n p)
wrapped_in_box side n p above two = record {
  x = (residue-is p.x (n.x * side) (above_zero n.x side two.x above)).below;
  y = (residue-is p.y (n.y * side) (above_zero n.y side two.y above)).below;
  z = (residue-is p.z (n.z * side) (above_zero n.z side two.z above)).below;
}

-- a push keeps a particle in the box
pub box_kept : (side : ℕ) (n : Triple) (particle : Particle) (r : Result Shift Halting) → 0 < side → HasTwo n → IsInBox side n (triple particle.x)
    → IsInBox side n (triple (after_push side n particle r).x)
unfolding after_push
box_kept side n particle (Ok s) above two h = subst (IsInBox side n) (sym (moved_place side n particle s))
    (wrapped_in_box side n (plus (unwrapped (triple particle.x)) s.d) above two)
box_kept side n particle (Err halt) above two h = h

-- the push keeps the identities of all particles
pub ids_kept : (w : Surroundings) (particles : List Particle) → map (λ particle. particle.id) (moved_all w particles) ≡ map (λ particle. particle.id) particles
unfolding moved_all
ids_kept w [] = refl
ids_kept w (particle ∷ particles) = λ i. id_kept w.side w.cells particle (push_of w particle) i ∷ ids_kept w particles i

-- and their number
pub length-moved_all : (w : Surroundings) (particles : List Particle) → length (moved_all w particles) ≡ length particles
unfolding moved_all
length-moved_all w [] = refl
length-moved_all w (particle ∷ particles) = ap suc (length-moved_all w particles)

-- what a push keeps of a particle it keeps of all particles
pub all_kept : (w : Surroundings) (P : Particle → Type 0) (particles : List Particle)
    → ((particle : Particle) → P particle → P (after_push w.side w.cells particle (push_of w particle))) → All P particles → All P (moved_all w particles)
unfolding moved_all
all_kept w P particles keeps all =
    let f : Particle → Particle = λ particle. after_push w.side w.cells particle (push_of w particle) in
    All-map P f particles (λ i d below. keeps (slice_index_or particles i d) (all i d below))

-- after the push each particle's species is still one of the kinds, and its position lies in the box
pub share_kept : (w : Surroundings) (particles : List Particle) → 0 < w.side → HasTwo w.cells
    → All (CanShare w.side w.cells w.kinds) particles → All (CanShare w.side w.cells w.kinds) (moved_all w particles)
share_kept w particles above two = all_kept w (CanShare w.side w.cells w.kinds) particles (λ particle can. record {
  species = subst (λ (n : ℕ). n < length w.kinds) (sym (species_kept w.side w.cells particle (push_of w particle))) can.species;
  place = box_kept w.side w.cells particle (push_of w particle) above two can.place;
})
