-- Particles feel the lattices of force values as the definition's force values.
use Rattle.std.proofs.Common.{◌≡◌, ℕ, List, [], ◌∷◌, Option, refl, ◌∙◌}
use Rattle.std.proofs.Math.IntN.{ℤ, ◌+ℤ◌}
use Rattle.std.specs.Option.{option_or}
use Rattle.pic_num.specs.declared.motion.Kind.{Kind}
use Rattle.pic_num.specs.declared.motion.Particle.{Particle}
use Rattle.pic_num.specs.declared.axis.Axis.{Axis}
use Rattle.pic_num.specs.First.{first_of}
use Rattle.pic_num.specs.Push.{pushed}
use Rattle.pic_num.specs.Space.{Triple, triple, spot}
use Rattle.pic_grid.specs.Lattice.{value_at, field_of}
use Rattle.pic_grid.specs.PushPhase.{Surroundings, kind_of, push_of, after_push, moved_all, halt_of, push_stop}
use Rattle.pic_grid.specs.Sums.{sum_over}
use Rattle.pic_grid.proofs.LatticeLaws.{value_at-field_of}
use Rattle.pic_gather.proofs.SameLaws.{gathered_e_same, gathered_b_same}
use Rattle.pic_grid.specs.Felt.{felt}
use Rattle.pic_grid.specs.Parts.{layered}
use Rattle.pic_grid.specs.declared.stop.Stop.{Stop}
use Rattle.pic_grid.specs.Current.{flux_after, current}
use Rattle.pic_tile.specs.Tile.{TileValue}
use Rattle.pic_tile.specs.Tiling.{Tiling}
use Rattle.pic_step.specs.PushOn.{ArePushed}

-- what is around the particles, by functions
abbrev pub around_by : ℕ → List Kind → Triple → (Axis → Triple → ℤ) → (Axis → Triple → ℤ) → Surroundings
around_by side kinds n f g = record { side = side; cells = n; kinds = kinds; of_e = f; of_b = g }

-- the same by lattices of these functions' values, with a part for each layer of z
abbrev pub around_lattices : ℕ → List Kind → Triple → (Axis → Triple → ℤ) → (Axis → Triple → ℤ) → Surroundings
around_lattices side kinds n f g = felt kinds (field_of side n (layered n) f) (field_of side n (layered n) g)

push_same : (side : ℕ) (kinds : List Kind) (n : Triple) (f g : Axis → Triple → ℤ) (particle : Particle)
    → push_of (around_lattices side kinds n f g) particle ≡ push_of (around_by side kinds n f g) particle
unfolding push_of
push_same side kinds n f g particle =
    let e = gathered_e_same side n (value_at (field_of side n (layered n) f)) f (triple particle.x)
    (λ a p within. value_at-field_of side n (layered n) f a p within) in
    let b = gathered_b_same side n (value_at (field_of side n (layered n) g)) g (triple particle.x)
    (λ a p within. value_at-field_of side n (layered n) g a p within) in
    λ i. pushed side (spot particle.v) (e i) (b i) (kind_of kinds particle).kick (kind_of kinds particle).turn

pub moved_same : (side : ℕ) (kinds : List Kind) (n : Triple) (f g : Axis → Triple → ℤ) (particles : List Particle)
    → moved_all (around_lattices side kinds n f g) particles ≡ moved_all (around_by side kinds n f g) particles
unfolding moved_all
moved_same side kinds n f g [] = refl
moved_same side kinds n f g (particle ∷ particles) = λ i.
    after_push side n particle (push_same side kinds n f g particle i) ∷ moved_same side kinds n f g particles i

pub stop_same : (side : ℕ) (kinds : List Kind) (n : Triple) (f g : Axis → Triple → ℤ) (particles : List Particle)
    → push_stop (around_lattices side kinds n f g) particles ≡ push_stop (around_by side kinds n f g) particles
unfolding push_stop first_of
stop_same side kinds n f g [] = refl
stop_same side kinds n f g (particle ∷ particles) = λ i.
    option_or (halt_of particle (push_same side kinds n f g particle i)) (stop_same side kinds n f g particles i)

pub current_same : (side : ℕ) (kinds : List Kind) (n : Triple) (f g : Axis → Triple → ℤ) (particles : List Particle) (a : Axis) (p : Triple)
    → current (around_lattices side kinds n f g) particles a p ≡ current (around_by side kinds n f g) particles a p
unfolding current sum_over
current_same side kinds n f g [] a p = refl
current_same side kinds n f g (particle ∷ particles) a p = λ i. flux_after side n kinds particle a p
    (push_same side kinds n f g particle i) +ℤ current_same side kinds n f g particles a p i

pub pushed_same : (side : ℕ) (kinds : List Kind) (n : Triple) (f g : Axis → Triple → ℤ) (m : Tiling) (old : List Particle) (tiles : List TileValue)
    (stop : Option Stop) → ArePushed (around_lattices side kinds n f g) m old tiles stop → ArePushed (around_by side kinds n f g) m old tiles stop
pushed_same side kinds n f g m old tiles stop pushed = record {
  particles = pushed.particles ∙ moved_same side kinds n f g old;
  stop_is = pushed.stop_is ∙ stop_same side kinds n f g old;
  current_is = λ a p within. pushed.current_is a p within ∙ current_same side kinds n f g old a p;
}
