-- The push phase of a step (leapfrog: Birdsall and Langdon, "Plasma Physics via Computer
-- Simulation"): every particle is pushed by the fields gathered at its position. One that halts
-- stands still, keeps its velocity and carries no current; the least identity that halts is the stop.
use Rattle.std.specs.Prelude.{ℤ, pos, ℕ, ◌*◌, ◌<◌, ◌+ℤ◌, List, [], ◌∷◌, map, Option, Some, None, Result, Ok, Err, length, slice_index_or}
use Rattle.pic_num.specs.declared.axis.Axis.{Axis}
use Rattle.pic_num.specs.declared.motion.Particle.{Particle}
use Rattle.pic_num.specs.declared.motion.Kind.{Kind}
use Rattle.pic_num.specs.First.{first_of}
use Rattle.pic_num.specs.Push.{Shift, Halting, pushed}
use Rattle.pic_num.specs.Rounding.{residue}
use Rattle.pic_num.specs.Space.{Triple, triple, spot}
use Rattle.pic_grid.specs.declared.stop.Stop.{Stop}
use Rattle.pic_grid.specs.declared.stop.Stop.TheVariants.{Push}
use Rattle.pic_grid.specs.Gather.{gathered_e, gathered_b}
use Rattle.pic_grid.specs.Hat.{IsInBox}

-- what surrounds a particle in its push: the side of a cell, the numbers of cells, the species, and
-- the force values of E and B
pub record Surroundings : Type 0 where
  pub side : ℕ
  pub cells : Triple
  pub kinds : List Kind
  pub of_e : Axis → Triple → ℤ
  pub of_b : Axis → Triple → ℤ

-- a species that no particle has
abbrev pub no_kind : Kind
no_kind = record { charge = pos 0; mass = 0; kick = record { n = pos 0; k = 0 }; turn = record { n = pos 0; k = 0 } }

abbrev pub kind_of : List Kind → Particle → Kind
kind_of kinds particle = slice_index_or kinds particle.species no_kind

-- a particle that has a share of the charge: its species is one of the kinds, and its position lies in
-- the box
pub record CanShare (side : ℕ) (n : Triple) (kinds : List Kind) (particle : Particle) : Type 0 where
  pub species : particle.species < length kinds
  pub place : IsInBox side n (triple particle.x)

-- one particle's push by the fields at its position: its new velocity and its move, or what halts it
unfoldable pub push_of : Surroundings → Particle → Result Shift Halting
push_of w particle =
    pushed w.side (spot particle.v)
    (gathered_e w.side w.cells w.of_e (triple particle.x))
    (gathered_b w.side w.cells w.of_b (triple particle.x))
    (kind_of w.kinds particle).kick (kind_of w.kinds particle).turn

-- a particle after its move, wrapped into the box
unfoldable pub moved : ℕ → Triple → Particle → Shift → Particle
moved side n particle s =
    let at = triple particle.x in
    record particle {
      x = residue (pos at.x +ℤ s.d.x) (n.x * side) ∷ residue (pos at.y +ℤ s.d.y) (n.y * side) ∷ residue (pos at.z +ℤ s.d.z) (n.z * side) ∷ [];
      v = s.v.x ∷ s.v.y ∷ s.v.z ∷ [];
    }

-- a particle after its push: moved, or as it was where it halts
unfoldable pub after_push : ℕ → Triple → Particle → Result Shift Halting → Particle
after_push side n particle (Ok s) = moved side n particle s
after_push side n particle (Err h) = particle

-- all particles after the push
unfoldable pub moved_all : Surroundings → List Particle → List Particle
moved_all w particles = map (λ particle. after_push w.side w.cells particle (push_of w particle)) particles

-- the stop of a particle that halts
unfoldable pub halt_of : Particle → Result Shift Halting → Option Stop
halt_of particle (Ok s) = None
halt_of particle (Err h) = Some (Push particle.id h.what h.axis h.value)

-- the stop of the push phase: that of the least identity, which is the first of the list, since the
-- list is in the order of identities
unfoldable pub push_stop : Surroundings → List Particle → Option Stop
push_stop w particles = first_of (λ particle. halt_of particle (push_of w particle)) particles
