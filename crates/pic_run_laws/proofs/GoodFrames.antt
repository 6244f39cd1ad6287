-- The frame of a good state can be read, and meets Gauss's law.
use Rattle.std.proofs.Common.{◌≡◌, ℕ, suc, pos, ◌*◌, ◌/◌, ◌%◌, ◌<◌, List, [], ◌∷◌, ◌++◌, length, get_or, map, All, refl, sym, ap, ◌∙◌, subst, arith}
use Rattle.std.specs.List.{flat_map, range_with_len}
use Rattle.std.proofs.lemmas.List.Elements.{All-from_get_or}
use Rattle.pic_io.specs.Sinks.{outs}
use Rattle.pic_num.specs.declared.motion.Kind.{Kind}
use Rattle.pic_num.specs.declared.motion.Particle.{Particle}
use Rattle.pic_num.specs.declared.mult.Scales.{Scales}
use Rattle.pic_num.specs.Multiplier.{Multiplier}
use Rattle.pic_num.specs.Space.{Triple, triple, spot}
use Rattle.pic_num.specs.Velocity.{IsKeptVelocity}
use Rattle.pic_block.specs.Cells.{count_of, axis_of, cell_of}
use Rattle.pic_block.proofs.CellLaws.{place_of-number, place_within}
use Rattle.pic_grid.specs.Hat.{IsInBox}
use Rattle.pic_grid.specs.Lattice.{Field}
use Rattle.pic_charge.specs.Gauss.{MeetsGauss}
use Rattle.pic_energy.specs.Energies.{energies_of}
use Rattle.pic_record.specs.RecordText.{frame_bytes}
use Rattle.pic_record.specs.FrameFields.{IsModerate, field_with}
use Rattle.pic_record.specs.Layout.{LayoutView}
use Rattle.pic_record.specs.Records.{AFrame}
use Rattle.pic_record.specs.Spelling.{record_bytes}
use Rattle.pic_states.specs.declared.output.Output.TheVariants.{Dump}
use Rattle.pic_states.specs.Frames.{energies_in, frame_piece}
use Rattle.pic_step.specs.SerialStep.{World, e_of, b_of}
use Rattle.pic_step.specs.Sound.{IsSafe}
use Rattle.pic_record.specs.Readable.{IsReadableField, IsReadableParticle, IsReadableFrame}
use Rattle.pic_verify.specs.Verified.{ObeysGauss}
use Rattle.pic_states.specs.FrameStates.{frame_in}
use Rattle.pic_run_laws.proofs.StateFits.{IsOfLayout, IsGoodState}

-- a safe field with as many values as it has places
readable_field : (by : Multiplier) (f : Field) → IsSafe by f → length f.values ≡ 3 * count_of f.cells → IsReadableField f.cells by f.values
readable_field by f safe count = record {
  count = count;
  moderate = All-from_get_or (IsModerate by) f.values (pos 0) (λ i below.
      let n = f.cells in
      let inside : i < 3 * count_of n = omega (arith, below, count) in
      let a = axis_of (i / count_of n) in
      let p = cell_of n (i % count_of n) in
      let bounded = safe.bounded a p (place_within n i inside) in
      subst (λ (j : ℕ). IsModerate by (get_or f.values j (pos 0))) (place_of-number n i inside) (record { value = bounded.value; force = bounded.force }));
}

-- its fields under the numbers of the layout
pub e_is : (l : LayoutView) (w : World) → IsOfLayout l w → field_with l w.e ≡ e_of w
e_is l w of = λ i. record (e_of w) { cells = sym of.cells i; side = sym of.side i }

pub b_is : (l : LayoutView) (w : World) → IsOfLayout l w → field_with l w.b ≡ b_of w
b_is l w of = λ i. record (b_of w) { cells = sym of.cells i; side = sym of.side i }

-- a particle
readable_particle : (l : LayoutView) (w : World) → IsGoodState l w → (i : ℕ) (d : Particle) → i < length w.particles
    → IsReadableParticle l (get_or w.particles i d)
readable_particle l w good i d below =
    let particle = get_or w.particles i d in
    let of = good.of in
    let listed = of.listed i d below in
    let place = (good.sound.places i d below).place in
    record {
      axes = listed.axes;
      place = subst (λ (s : ℕ). IsInBox s l.cells (triple particle.x)) of.side (subst (λ (n : Triple). IsInBox w.side n (triple particle.x)) of.cells place);
      speeds = listed.speeds;
      velocity = subst (λ (s : ℕ). IsKeptVelocity s (spot particle.v)) of.side (good.sound.velocities i d below);
      species = listed.species;
    }

pub readable_frame : (l : LayoutView) (w : World) → IsGoodState l w → IsReadableFrame l (frame_in w)
readable_frame l w good =
    let of = good.of in
    let sound = good.sound in
    record {
      e = subst (λ (s : Scales). IsReadableField l.cells s.e_force w.e) of.scales (subst (λ (n : Triple). IsReadableField n w.scales.e_force w.e)
          of.cells (readable_field w.scales.e_force (e_of w) sound.e of.e_count));
      b = subst (λ (s : Scales). IsReadableField l.cells s.b_force w.b) of.scales (subst (λ (n : Triple). IsReadableField n w.scales.b_force w.b)
          of.cells (readable_field w.scales.b_force (b_of w) sound.b of.b_count));
      identities = sound.ordered.identities ∙ ap (range_with_len 0) of.count;
      particles = readable_particle l w good;
      energies = λ i. energies_of (of.scales i) (of.kinds i) (sym (e_is l w of) i) (sym (b_is l w of) i) w.particles;
    }

-- it meets Gauss's law
pub obeys_gauss : (l : LayoutView) (w : World) → IsGoodState l w → ObeysGauss l (frame_in w)
obeys_gauss l w good =
    let of = good.of in
    subst (λ (s : ℕ). MeetsGauss s l.filter l.cells l.kinds w.particles (field_with l w.e)) of.side
    (subst (λ (k : ℕ). MeetsGauss w.side k l.cells l.kinds w.particles (field_with l w.e)) of.filter
    (subst (λ (n : Triple). MeetsGauss w.side w.filter n l.kinds w.particles (field_with l w.e)) of.cells
    (subst (λ (ks : List Kind). MeetsGauss w.side w.filter w.cells ks w.particles (field_with l w.e)) of.kinds
    (subst (λ (f : Field). MeetsGauss w.side w.filter w.cells w.kinds w.particles f) (sym (e_is l w of)) good.sound.gauss))))

-- its text is what the run puts of the state
pub frame_text : (l : LayoutView) (w : World) → IsOfLayout l w → (frame_piece Dump w).out ≡ record_bytes l (AFrame (frame_in w))
unfolding frame_piece
frame_text l w of = λ i. frame_bytes w.step (sym (e_is l w of) i) (sym (b_is l w of) i) w.particles (energies_in w)

-- so is that of the frames of states
pub frames_text : (l : LayoutView) (ws : List World) → All (IsGoodState l) ws
    → outs (map (frame_piece Dump) ws) ≡ flat_map (λ f. record_bytes l (AFrame f)) (map frame_in ws)
frames_text l [] good = refl
frames_text l (w ∷ ws) good = λ i. frame_text l w (good 0 w (omega arith)).of i ++ frames_text l ws (λ j d below. good (suc j) d (omega (arith, below))) i
