-- The first state of a run is sound where its deck is within the limits and meets Gauss's law.
use Rattle.std.proofs.Common.{◌≡◌, ℕ, ◌<◌, ◌≤◌, ◌==◌, inl, inr, List, length, get_or, lit≤, None, refl, sym, subst, arith}
use Rattle.std.proofs.Math.IntN.{ℤ}
use Rattle.std.specs.Prelude.{All}
use Rattle.std.proofs.lemmas.Bool.{cases_Bool}
use Rattle.std.proofs.lemmas.Int.{ints}
use Rattle.std.proofs.lemmas.List.{length-map}
use Rattle.std.proofs.lemmas.List.Elements.{All-get_or}
use Rattle.std.proofs.Math.Nat.{le_trans}
use Rattle.pic_num.specs.declared.axis.Axis.{Axis}
use Rattle.pic_num.specs.declared.motion.Particle.{Particle}
use Rattle.pic_num.specs.Limits.{allowance_of, most_loops}
use Rattle.pic_num.specs.Multiplier.{Multiplier}
use Rattle.pic_num.specs.Sizes.{IsAtMost}
use Rattle.pic_num.specs.Space.{Triple, Spot, spot, along}
use Rattle.pic_num.specs.Velocity.{IsKeptVelocity}
use Rattle.pic_num.proofs.VersionLaws.{within_scheme, side_least, side_most}
use Rattle.pic_grid.specs.Lattice.{field_of}
use Rattle.pic_grid.specs.declared.loops.Loop.{Loop}
use Rattle.pic_grid.specs.Loops.{AreLoops}
use Rattle.pic_grid.specs.PushPhase.{CanShare}
use Rattle.pic_grid.proofs.LatticeLaws.{value_at-field_of}
use Rattle.pic_charge.specs.Charge.{rho_of}
use Rattle.pic_charge.proofs.BreakLaws.{meets_gauss}
use Rattle.pic_field.specs.FieldPhases.{IsBounded}
use Rattle.pic_deck.specs.declared.species.Species.{Species}
use Rattle.pic_deck.specs.Deck.{DeckView, IsWithinLimits, initial_b}
use Rattle.pic_deck.specs.Species.{fastest}
use Rattle.pic_deck.specs.Initial.{IsMild}
use Rattle.pic_load.specs.Loading.{IsParticleOf, AreLoaded}
use Rattle.pic_step.specs.SerialStep.{World, e_of}
use Rattle.pic_grid.specs.Parts.{one_part}
use Rattle.pic_step.specs.Sound.{IsSafe, IsSound}
use Rattle.pic_step.specs.SerialRun.{kinds_of}
use Rattle.pic_step.proofs.StartLaws.{are_kinds}
use Rattle.pic_open.specs.Starting.{displaced_start, state_break}
use Rattle.pic_charge.specs.Gauss.{MeetsGauss}

-- no break is Gauss's law
pub gauss_of : (w : World) → state_break w ≡ None → MeetsGauss w.side w.filter w.cells w.kinds w.particles (e_of w)
unfolding state_break
gauss_of w none = meets_gauss w.side w.filter w.cells w.kinds w.particles (e_of w) (rho_of w.side w.filter w.cells w.kinds w.particles) (λ p within. refl) none

-- a mild field is safe
safe_of : (side : ℕ) (n : Triple) (by : Multiplier) (g : Axis → Triple → ℤ) → IsMild n by g → IsSafe by (field_of side n one_part g)
safe_of side n by g mild = record {
  bounded = λ a p within. subst (IsBounded by) (sym (value_at-field_of side n one_part g a p within))
      (let small = mild.values a p within in record { value = record { size = le_trans small.size (lit≤ tt) }; force = mild.forces a p within });
}

-- each particle of the deck has a share
share_at : (d : DeckView) (particles : List Particle) → AreLoaded d particles → (i : ℕ) (x : Particle) → i < length particles
    → CanShare d.side d.cells (kinds_of d) (get_or particles i x)
share_at d particles loaded i x below =
    let h = All-get_or (IsParticleOf d) particles i x below loaded.each in
    record {
      species = let count = length-map d.species (λ (s : Species). s.kind) in let k = h.species in omega (arith, count, k);
      place = h.place;
    }

pub shares_are : (d : DeckView) (particles : List Particle) → AreLoaded d particles → All (CanShare d.side d.cells (kinds_of d)) particles
shares_are d particles loaded = share_at d particles loaded

-- and a velocity that a push could have left
kept_at : (side : ℕ) (v : Spot) → ((a : Axis) → IsAtMost (along a v) (fastest side)) → IsKeptVelocity side v
kept_at side v speed = record {
  least = λ a. let s = speed a in omega (arith, ints, s.size);
  most = λ a. let s = speed a in omega (arith, ints, s.size);
}

speeds_are : (d : DeckView) (particles : List Particle) → AreLoaded d particles
    → All (λ particle. IsKeptVelocity d.side (spot particle.v)) particles
speeds_are d particles loaded i x below =
    let h = All-get_or (IsParticleOf d) particles i x below loaded.each in
    kept_at d.side (spot (get_or particles i x).v) h.speed

-- no version allows more loops than the scheme does
loops_few : (version : ℕ) → (allowance_of version).loops ≤ most_loops
loops_few version = elim (cases_Bool (version == 1)) [
  | inl is ↦ rw is (omega arith)
  | inr other ↦ rw other (omega arith)
]

-- so loops that a version allows are within the limits of the scheme
pub loops_within : (version : ℕ) (n : Triple) (loops : List Loop) → AreLoops n (allowance_of version).loops loops → AreLoops n most_loops loops
loops_within version n loops are = record { few = le_trans are.few (loops_few version); each = are.each }

-- the first state of a run
pub sound_start : (d : DeckView) (particles : List Particle) → IsWithinLimits d → AreLoaded d particles
    → IsSafe d.scales.e_force (e_of (displaced_start d particles))
    → state_break (displaced_start d particles) ≡ None → IsSound (displaced_start d particles)
sound_start d particles limits loaded safe none = record {
  reached = omega arith;
  side_least = side_least d.version d.side limits.settings.allowed.sides;
  side_most = side_most d.version d.side limits.settings.allowed.sides;
  cells = limits.settings.cells;
  filter = le_trans limits.settings.filter (within_scheme d.version).filter;
  loops = loops_within d.version d.cells d.loops limits.loops;
  e = safe;
  b = safe_of d.side d.cells d.scales.b_force (initial_b d) limits.b;
  kinds = are_kinds d limits.heads;
  few = le_trans loaded.few (within_scheme d.version).particles;
  ordered = record { identities = loaded.identities };
  places = shares_are d particles loaded;
  velocities = speeds_are d particles loaded;
  gauss = gauss_of (displaced_start d particles) none;
}
