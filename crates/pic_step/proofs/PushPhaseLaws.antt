-- The force values of safe fields, and the push of the particles that feel them.
use Rattle.std.proofs.Common.{◌≡◌, ◌≤◌, List, Vec, Global, length, All, Option, refl, sym, ap, ◌∙◌, subst}
use Rattle.std.specs.Option.{IfSome}
use Rattle.std.proofs.Math.IntN.{ℤ}
use Rattle.pic_num.specs.Limits.{most_force, most_particles}
use Rattle.pic_num.specs.declared.axis.Axis.{Axis}
use Rattle.pic_num.specs.declared.motion.Kind.{Kind}
use Rattle.pic_num.specs.declared.motion.Particle.{Particle}
use Rattle.pic_num.specs.declared.mult.Scales.{Scales}
use Rattle.pic_num.specs.Multiplier.{Multiplier}
use Rattle.pic_num.specs.Sizes.{IsAtMost}
use Rattle.pic_block.specs.Cells.{IsWithin, count_of}
use Rattle.pic_grid.specs.declared.stop.Stop.{Stop}
use Rattle.pic_grid.specs.Gather.{force_of}
use Rattle.pic_grid.specs.Lattice.{Field, value_at, field_of}
use Rattle.pic_grid.specs.Parts.{layered}
use Rattle.pic_num.specs.Space.{Triple}
use Rattle.pic_grid.specs.PushPhase.{Surroundings, CanShare, moved_all}
use Rattle.pic_grid.proofs.LatticeLaws.{value_at-field_of}
use Rattle.pic_tile.specs.InOrder.{AreOrdered}
use Rattle.pic_tile.specs.CoreState.{all_particles, IsOpening}
use Rattle.pic_tile.specs.Frame.{FrameValue, IsForceField, felt_in}
use Rattle.pic_tile.specs.Parcels.{AreFreshTiles}
use Rattle.pic_tile.specs.Tile.{TileValue}
use Rattle.pic_tile.specs.Tiling.{Tiling, cells_of, grid_of_tiling}
use Rattle.pic_core.specs.AtStart.{IsScratch}
use Rattle.pic_advance.specs.Current.{LiesOn}
use Rattle.pic_step.specs.declared.plasma.Plasma.{Plasma}
use Rattle.pic_step.specs.Kept.{IsCut}
use Rattle.pic_step.specs.Plasma.{IsPlasma}
use Rattle.pic_step.specs.PushOn.{around_fields, ArePushed, HasPushed}
use Rattle.pic_step.specs.Sound.{IsSafe}
use Rattle.pic_step.proofs.FeltLaws.{around_by, moved_same, pushed_same}

-- the force values of a field, on the cells of a map
pub forced : (m : Tiling) (by : Multiplier) (f r : Field) (parts : Triple) → IsCut m f → parts ≡ layered (cells_of m)
    → r ≡ field_of f.side f.cells parts (force_of by (value_at f)) → r ≡ field_of m.side (cells_of m) (layered (cells_of m)) (force_of by (value_at f))
forced m by f r parts cut same is = is ∙ (λ i. field_of (cut.side i) (cut.cells i) (same i) (force_of by (value_at f)))

-- where the field is safe, they are small enough to be gathered
pub force_field : (m : Tiling) (by : Multiplier) (f r : Field) → IsCut m f → IsSafe by f
    → r ≡ field_of m.side (cells_of m) (layered (cells_of m)) (force_of by (value_at f)) → IsForceField (grid_of_tiling m) r
force_field m by f r cut safe is = subst (IsForceField (grid_of_tiling m)) (sym is) (record {
  cells_are = refl;
  side = refl;
  small = record {
    at_most = λ a p within.
        subst (λ (v : ℤ). IsAtMost v most_force) (sym (value_at-field_of m.side (cells_of m) (layered (cells_of m)) (force_of by (value_at f)) a p within))
        (safe.bounded a p (subst (IsWithin p) (sym cut.cells) within)).force;
  };
})

-- the frame with the force values of E, those of B as they are,
abbrev pub with_force_e : FrameValue → Scales → Field → FrameValue
with_force_e f scales e = record {
  cells = grid_of_tiling f.map;
  map = f.map;
  kinds = f.kinds;
  force_e = field_of f.map.side (cells_of f.map) (layered (cells_of f.map)) (force_of scales.e_force (value_at e));
  force_b = f.force_b;
}

-- and with those of a lattice
abbrev pub with_forces_of : Tiling → List Kind → Scales → Field → Field → FrameValue
with_forces_of m kinds scales e b = record {
  cells = grid_of_tiling m;
  map = m;
  kinds = kinds;
  force_e = field_of m.side (cells_of m) (layered (cells_of m)) (force_of scales.e_force (value_at e));
  force_b = field_of m.side (cells_of m) (layered (cells_of m)) (force_of scales.b_force (value_at b));
}

-- tiles can be pushed in a frame as in one of the same map and kinds
pub opening_moves : (f g : FrameValue) (ts us : List TileValue) → g.map ≡ f.map → g.kinds ≡ f.kinds → us ≡ ts → IsOpening f ts → IsOpening g us
opening_moves f g ts us map kinds same open' = record {
  fresh = subst (λ (xs : List TileValue). AreFreshTiles g.map (all_particles xs) xs) (sym same)
      (subst (λ (m : Tiling). AreFreshTiles m (all_particles ts) ts) (sym map) open'.fresh);
  ordered = subst (λ (xs : List TileValue). AreOrdered (all_particles xs)) (sym same) open'.ordered;
  can = subst (λ (xs : List TileValue). All (CanShare g.map.side (cells_of g.map) g.kinds) (all_particles xs)) (sym same)
      (subst (λ (ks : List Kind). All (CanShare g.map.side (cells_of g.map) ks) (all_particles ts)) (sym kinds)
      (subst (λ (m : Tiling). All (CanShare m.side (cells_of m) f.kinds) (all_particles ts)) (sym map) open'.can));
  few = subst (λ (xs : List TileValue). length (all_particles xs) ≤ most_particles) (sym same) open'.few;
}

-- pushed in that frame, they are pushed by the fields
pub pushed_by_fields : (p q : Plasma) (scales : Scales) (e b : Field) (f : FrameValue) (ts : Vec Particle Global) (stop : Option Stop)
    → IsCut p.frame.map e → f ≡ with_forces_of p.frame.map p.frame.kinds scales e b
    → HasPushed (felt_in f) (record p { frame = f; tracers = ts }) q stop → HasPushed (around_fields scales p.frame.kinds e b) p q stop
pushed_by_fields p q scales e b f ts stop cut is h =
    let m = p.frame.map in
    let kinds = p.frame.kinds in
    let xs = all_particles p.tiles.items in
    let us = q.tiles.items in
    let of_e : Axis → Triple → ℤ = force_of scales.e_force (value_at e) in
    let of_b : Axis → Triple → ℤ = force_of scales.b_force (value_at b) in
    let here : ArePushed (felt_in (with_forces_of m kinds scales e b)) q.frame.map xs us stop =
    subst (λ (g : FrameValue). ArePushed (felt_in g) q.frame.map xs us stop) is h.pushed in
    let by : ArePushed (around_by m.side kinds (cells_of m) of_e of_b) q.frame.map xs us stop =
    pushed_same m.side kinds (cells_of m) of_e of_b q.frame.map xs us stop here in
    record {
      map = h.map ∙ ap (λ (g : FrameValue). g.map) is;
      kinds = h.kinds ∙ ap (λ (g : FrameValue). g.kinds) is;
      smooth = h.smooth;
      flux = h.flux;
      pushed = subst (λ (w : Surroundings). ArePushed w q.frame.map xs us stop)
          (λ i. around_by (sym cut.side i) kinds (sym cut.cells i) of_e of_b) by;
    }

-- and each is moved as by these
pub moved_by_fields : (p : Plasma) (scales : Scales) (e b : Field) (f : FrameValue) (xs : List Particle) → IsCut p.frame.map e
    → f ≡ with_forces_of p.frame.map p.frame.kinds scales e b → moved_all (felt_in f) xs ≡ moved_all (around_fields scales p.frame.kinds e b) xs
moved_by_fields p scales e b f xs cut is =
    let m = p.frame.map in
    let kinds = p.frame.kinds in
    let of_e : Axis → Triple → ℤ = force_of scales.e_force (value_at e) in
    let of_b : Axis → Triple → ℤ = force_of scales.b_force (value_at b) in
    ap (λ (g : FrameValue). moved_all (felt_in g) xs) is ∙ moved_same m.side kinds (cells_of m) of_e of_b xs
    ∙ (λ i. moved_all (around_by (sym cut.side i) kinds (sym cut.cells i) of_e of_b) xs)

-- what is ready for a push is so in a frame of the same map
pub ready_moves : (p : Plasma) (f : FrameValue) (ts : Vec Particle Global) (xs : List Particle) → f.map ≡ p.frame.map
    → f.force_e.parts ≡ layered (cells_of p.frame.map)
    → IsPlasma xs p
    → IsPlasma xs (record p { frame = f; tracers = ts })
ready_moves p f ts xs map parts ready = record {
  tiles = subst (λ (m : Tiling). AreFreshTiles m xs p.tiles.items) (sym map) ready.tiles;
  room = subst (λ (m : Tiling). IsScratch m p.room) (sym map) ready.room;
  parts = parts ∙ ap (λ (m : Tiling). layered (cells_of m)) (sym map);
  spare = ready.spare ∙ ap (λ (m : Tiling). count_of m.tiles) (sym map);
  smooth = subst (λ (m : Tiling). IfSome p.smooth (LiesOn (cells_of m) m.tiles)) (sym map) ready.smooth;
  count = ready.count;
}
