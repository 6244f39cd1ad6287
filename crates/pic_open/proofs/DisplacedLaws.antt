-- The E of a displaced start: within the bounds of a run's, and cut as a state's.
use Rattle.std.proofs.Common.{◌≡◌, ℕ, ◌*◌, leb, List, inl, inr, Option, Some, None, Ok, refl, sym, ap, ◌∙◌, subst, arith}
use Rattle.std.proofs.Math.IntN.{ℤ}
use Rattle.std.specs.Prelude.{unsigned_abs, codes}
use Rattle.std.proofs.lemmas.Bool.{cases_Bool, leb-true}
use Rattle.std.proofs.Math.Nat.{le_trans}
use Rattle.pic_num.specs.declared.axis.Axis.{Axis}
use Rattle.pic_num.specs.declared.motion.Particle.{Particle}
use Rattle.pic_num.specs.Limits.{most_force, most_value}
use Rattle.pic_num.specs.Multiplier.{Multiplier}
use Rattle.pic_num.specs.Rounding.{scaled}
use Rattle.pic_num.specs.Sizes.{IsAtMost}
use Rattle.pic_num.specs.Space.{Triple}
use Rattle.pic_num.proofs.FirstLaws.{first_of_none}
use Rattle.pic_num.proofs.VersionLaws.{within_scheme, side_least, side_most}
use Rattle.pic_block.specs.Cells.{IsWithin, count_of, place_of}
use Rattle.pic_block.proofs.CellLaws.{place_of_below}
use Rattle.pic_grid.specs.Lattice.{Field, field_of}
use Rattle.pic_grid.specs.Parts.{one_part}
use Rattle.pic_grid.proofs.LatticeLaws.{value_at-field_of}
use Rattle.pic_field.specs.FieldPhases.{IsBounded}
use Rattle.pic_walk.specs.Path.{key_at}
use Rattle.pic_deck.specs.Deck.{DeckView, IsWithinLimits, initial_e}
use Rattle.pic_deck.specs.Initial.{strong, first_strong}
use Rattle.pic_deck.specs.Keys.{force_allowed}
use Rattle.pic_deck.specs.Reading.{as_read}
use Rattle.pic_deck.proofs.ForceLaws.{strong_at, strong_at-place}
use Rattle.pic_load.specs.Loading.{loaded, AreLoaded}
use Rattle.pic_ways.specs.declared.way.Way.{Way}
use Rattle.pic_ways.specs.Way.{HasCome, IsWithinLimits as IsWayWithinLimits}
use Rattle.pic_displace.specs.Displace.{displaced_e, displaced_allowed, kinds_of, BecomesDisplaced}
use Rattle.pic_displace.proofs.DisplaceLaws.{have_come}
use Rattle.pic_displace.proofs.StartLaws.{displaced_small}
use Rattle.pic_step.specs.declared.start.Start.{Start}
use Rattle.pic_step.specs.Kept.{AreCut}
use Rattle.pic_step.specs.SerialStep.{World, e_of}
use Rattle.pic_step.specs.SerialRun.{start_of}
use Rattle.pic_step.specs.Sound.{IsSafe}
use Rattle.pic_step.specs.Start.{begun}
use Rattle.pic_open.specs.Starting.{displaced_start}

-- a way that was come by is within the limits
within_limits : (d : DeckView) (x : Particle) (o : Option Way) → HasCome d.side d.cells (kinds_of d) x o → IsWayWithinLimits d.side d.cells o
within_limits d x None come = tt
within_limits d x (Some w) come = come.way

-- the E of a displaced start is small enough for the sums of Gauss's law
displaced_most : (d : DeckView) → IsWithinLimits d → AreLoaded d (loaded d) → (a : Axis) (p : Triple) → IsWithin p d.cells
    → IsAtMost (displaced_e d (loaded d) a p) most_value
displaced_most d limits are =
    let least = side_least d.version d.side limits.settings.allowed.sides in
    let cells = limits.settings.cells in
    displaced_small d (loaded d) limits (omega (arith, least)) (side_most d.version d.side limits.settings.allowed.sides)
    (record { x = cells.x_least; y = cells.y_least; z = cells.z_least }) (λ k x below. within_limits d _ _ (have_come d limits are k x below))
    (le_trans are.few (within_scheme d.version).particles)

-- a force value that isn't too large
weak : (by : Multiplier) (v : ℤ) → strong by v ≡ None → IsAtMost (scaled v by) most_force
unfolding strong
weak by v none =
    elim (cases_Bool (leb (unsigned_abs (scaled v by)) most_force)) [
      | inl small ↦ record { size = leb-true _ _ small }
      | inr large ↦ absurd (let e : Some (scaled v by) ≡ None = rw large at none in cc e)
    ]

forces_weak : (n : Triple) (by : Multiplier) (g : Axis → Triple → ℤ) → first_strong n by g ≡ None → (a : Axis) (p : Triple) → IsWithin p n
    → IsAtMost (scaled (g a p) by) most_force
unfolding first_strong
forces_weak n by g none a p within =
    let below = place_of_below n a p within in
    let here = first_of_none (strong_at n by g) 0 (3 * count_of n) none (place_of n a p) (omega arith) (omega (arith, below)) in
    weak by (g a p) (sym (strong_at-place n by g a p (place_of n a p) within refl) ∙ here)

-- nothing is refused where no force value is
none_strong : (path : List ℕ) (o : Option ℤ) → as_read (force_allowed path o) ≡ Ok tt → o ≡ None
unfolding as_read force_allowed
none_strong path None is = refl
none_strong path (Some f) is = absurd cc

-- so the E of a displaced start that isn't refused is safe
pub displaced_safe : (d : DeckView) → IsWithinLimits d → AreLoaded d (loaded d) → displaced_allowed d (loaded d) ≡ Ok tt
    → IsSafe d.scales.e_force (e_of (displaced_start d (loaded d)))
displaced_safe d limits are allowed =
    let g = displaced_e d (loaded d) in
    let none = none_strong (key_at (codes "scale") (codes "e_force")) (first_strong d.cells d.scales.e_force g) allowed in
    record {
      bounded = λ a p within. subst (IsBounded d.scales.e_force) (sym (value_at-field_of d.side d.cells one_part g a p within))
          (record { value = displaced_most d limits are a p within; force = forces_weak d.cells d.scales.e_force g none a p within });
    }

-- the E that a deck begins with, as a start has it
pub begun_initial : (start : Start) (d : DeckView) (particles : List Particle) → AreCut start.setup.map start.e start.b → begun start ≡ start_of d particles
    → start.e ≡ field_of start.e.side d.cells start.e.parts (initial_e d)
begun_initial start d particles cut is =
    let cells = cut.of_e.cells ∙ ap (λ (w : World). w.cells) is in
    let values = ap (λ (w : World). w.e) is in
    λ i. record { cells = cells i; side = start.e.side; parts = start.e.parts; values = values i }

-- a start whose E became that of its displaced start
pub begun_displaced : (start : Start) (d : DeckView) (particles : List Particle) (new : Field) → begun start ≡ start_of d particles
    → BecomesDisplaced d particles start.e new → begun (record start { e = new }) ≡ displaced_start d particles
begun_displaced start d particles new is becomes =
    let values = ap (λ (f : Field). f.values) becomes.is in
    λ i. record (is i) { e = values i }

pub cut_displaced : (start : Start) (d : DeckView) (particles : List Particle) (new : Field) → AreCut start.setup.map start.e start.b
    → begun start ≡ start_of d particles → BecomesDisplaced d particles start.e new → AreCut start.setup.map new start.b
cut_displaced start d particles new cut is becomes = record {
  of_e = record {
    cells = ap (λ (f : Field). f.cells) becomes.is ∙ sym (ap (λ (w : World). w.cells) is);
    side = ap (λ (f : Field). f.side) becomes.is ∙ cut.of_e.side;
    parts = ap (λ (f : Field). f.parts) becomes.is ∙ cut.of_e.parts;
  };
  of_b = cut.of_b;
}
