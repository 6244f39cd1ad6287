-- The state that is carried of a dump: it is sound, and what is carried stands for it.
use Rattle.std.proofs.Common.{◌≡◌, ℤ, ℕ, ◌+◌, ◌-◌, ◌<◌, inl, inr, List, [], ◌∷◌, length, get_or, map, sym, ap, ◌∙◌, arith}
use Rattle.std.specs.Prelude.{sum, pos}
use Rattle.std.specs.List.{range_with_len}
use Rattle.std.proofs.lemmas.Bool.{lt-ltb, le-ltb}
use Rattle.std.proofs.lemmas.Bool.Decides.{leb_tells}
use Rattle.std.proofs.lemmas.List.{length-map}
use Rattle.std.proofs.lemmas.List.Sums.{sum_by-cons}
use Rattle.std.proofs.lemmas.List.Elements.{All-map, All-from_get_or}
use Rattle.pic_num.specs.Multiplier.{Multiplier}
use Rattle.pic_num.specs.Space.{spot}
use Rattle.pic_num.specs.Velocity.{IsKeptVelocity}
use Rattle.pic_block.specs.Cells.{place_of}
use Rattle.pic_block.proofs.CellLaws.{place_of_below}
use Rattle.pic_grid.specs.Lattice.{Field}
use Rattle.pic_grid.specs.PushPhase.{CanShare}
use Rattle.pic_grid.specs.Species.{HeadView, IsKind, no_head}
use Rattle.pic_header.specs.Header.{HeaderView, IsHeader}
use Rattle.pic_record.specs.FrameFields.{FrameView, field_with}
use Rattle.pic_record.specs.Layout.{LayoutView, layout_of, species_of}
use Rattle.pic_record.specs.Readable.{IsReadableField, IsReadableFrame}
use Rattle.pic_record.proofs.LayoutLaws.{layout_fits}
use Rattle.pic_record.proofs.ReadableFrame.{no_particle, how_many, identity_is}
use Rattle.pic_resume.specs.declared.carried.Carried.{Carried}
use Rattle.pic_resume.specs.Carry.{GoesOn}
use Rattle.pic_resume.specs.Carries.{CanGoOn, IsCarried}
use Rattle.pic_step.specs.Sound.{IsSafe, IsSound}
use Rattle.pic_tile.specs.Frame.{AreKinds}
use Rattle.pic_states.specs.FrameStates.{world_in}
use Rattle.pic_on_dump.specs.Resume.{resumed_state, carried_state}
use Rattle.pic_states.specs.Rooms.{HasShape}
use Rattle.pic_open.proofs.StartLaws.{loops_within}

-- the species of an identity is one of those that there are
species_below : (counts : List ℕ) (i : ℕ) → i < sum counts → species_of counts i < length counts
species_below [] i below = absurd (omega (arith, below))
species_below (count ∷ counts) i below = elim (leb_tells count i) [
  | inl past ↦
      (let behind = past.1 in
      let total : sum (count ∷ counts) ≡ count + sum counts = sum_by-cons (λ x. x) count counts in
      let more = species_below counts (i - count) (omega (arith, total, below, behind)) in
      rw (le-ltb i count behind) (omega (arith, more)))
  | inr here ↦ rw (lt-ltb i count here.1) (omega arith)
]

-- a field that can be read is safe
safe_field : (l : LayoutView) (by : Multiplier) (values : List ℤ) → IsReadableField l.cells by values → IsSafe by (field_with l values)
safe_field l by values is = record {
  bounded = λ a p within.
      let moderate = is.moderate (place_of l.cells a p) (pos 0) (let below = place_of_below l.cells a p within in omega (arith, below, is.count)) in
      record { value = moderate.value; force = moderate.force };
}

-- the kinds of a header are within the limits of a run's
kinds_kept : (h : HeaderView) → IsHeader h → AreKinds (map (λ s. s.kind) h.species)
kinds_kept h are = record {
  few = let count = length-map h.species (λ (s : HeadView). s.kind) in let few = are.limits.heads.few in omega (arith, count, few);
  limits = All-map IsKind (λ (s : HeadView). s.kind) h.species
      (All-from_get_or (λ (s : HeadView). IsKind s.kind) h.species no_head are.limits.heads.kinds);
}

-- each particle of a frame has a share
share_at : (h : HeaderView) (f : FrameView) → IsHeader h → IsReadableFrame (layout_of h) f → (i : ℕ) → i < length f.particles
    → CanShare h.side h.cells (layout_of h).kinds (get_or f.particles i no_particle)
share_at h f are is i below =
    let l = layout_of h in
    let count = how_many l f is in
    let inside : i < sum l.counts = omega (arith, below, count) in
    let particle = is.particles i no_particle below in
    let species = particle.species ∙ ap (species_of l.counts) (identity_is l f i is inside) in
    let most = species_below l.counts i inside in
    let kinds = (layout_fits h are).species in
    record { species = omega (arith, species, most, kinds); place = particle.place }

-- the state of a frame from which a run can go on
pub frame_sound : (h : HeaderView) (f : FrameView) → IsHeader h → CanGoOn (layout_of h) f → IsSound (world_in h f)
frame_sound h f are can =
    let l = layout_of h in
    let fits = layout_fits h are in
    let readable = can.readable in
    let count = how_many l f readable in
    record {
      reached = let step = can.step in let most = fits.steps in omega (arith, step, most);
      side_least = fits.side_least;
      side_most = fits.side_most;
      cells = fits.cells;
      filter = fits.filter;
      loops = loops_within h.version h.cells h.loops are.limits.loops;
      e = safe_field l l.scales.e_force f.e readable.e;
      b = safe_field l l.scales.b_force f.b readable.b;
      kinds = kinds_kept h are;
      few = let total = fits.total in omega (arith, count, total);
      ordered = record { identities = readable.identities ∙ ap (range_with_len 0) (sym count) };
      places = All-from_get_or (CanShare h.side h.cells l.kinds) f.particles no_particle (share_at h f are readable);
      velocities = All-from_get_or (λ particle. IsKeptVelocity h.side (spot particle.v)) f.particles no_particle
          (λ i below. (readable.particles i no_particle below).velocity);
      gauss = can.gauss;
    }

-- what is carried stands for the state that a run goes on from
pub carried_is : (g : GoesOn) (c : Carried) → IsCarried g c → carried_state c ≡ resumed_state g
carried_is g c is =
    let held = is.last in
    λ i. record {
      step = held.step i;
      side = (is.header i).side;
      cells = (is.header i).cells;
      filter = (is.header i).filter;
      loops = (is.header i).loops;
      scales = (is.header i).scales;
      kinds = (layout_of (is.header i)).kinds;
      e = (held.e i).values;
      b = (held.b i).values;
      particles = held.particles i;
    }

-- and its frame is room for it
pub carried_room : (g : GoesOn) (c : Carried) → IsCarried g c → HasShape c.last (resumed_state g)
carried_room g c is =
    let held = is.last in
    record {
      e_cells = ap (λ (f : Field). f.cells) held.e;
      e_side = ap (λ (f : Field). f.side) held.e;
      e_parts = ap (λ (f : Field). f.parts) held.e;
      b_cells = ap (λ (f : Field). f.cells) held.b;
      b_side = ap (λ (f : Field). f.side) held.b;
      b_parts = ap (λ (f : Field). f.parts) held.b;
      count = ap length held.particles;
    }
