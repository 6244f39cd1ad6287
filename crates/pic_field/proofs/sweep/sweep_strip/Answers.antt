use Rattle.std.proofs.Common.{◌≡◌, ◌+◌, ◌-◌, ◌<◌, ℕ, sym, ◌∙◌, ap, subst, arith}
use Rattle.pic_num.specs.Space.{Triple, Spot, triple}
use Rattle.pic_block.specs.Cells.{IsWithin}
use Rattle.pic_field.specs.Beside.{swept_layer}
use Rattle.pic_field.specs.FieldPhases.{most_lessened}
use Rattle.pic_field.specs.Lines.{OnLines, OnLayers, OnStrip, Changed, AreSmall}
use Rattle.pic_field.specs.Planes.{span_of, plane_at}
use Rattle.pic_field.specs.Rows.{read_by}
use Rattle.pic_field.specs.Sweeps.{sweep_cells, made, IsPlaneOf, IsPlaneBeside}
use Rattle.pic_field.proofs.BesideLaws.{first_most}
use Rattle.pic_field.proofs.LineLaws.{IsJoined, changed_next, calm_next, small_kept, layers_more, strip_changed, strip_small}
use Rattle.pic_field.proofs.PlaneLaws.{plane_before}
use Rattle.pic_field.proofs.sweep.sweep_strip.Goals as goal

pub line_length-requires : goal.line_length-requires
line_length-requires c = rw (c.zone-zone.ensures.low, c.zone-zone.ensures.size, c.cells-cells.ensures.value) c.requires.among

pub corner_in-corner-requires : goal.corner_in-corner-requires
corner_in-corner-requires c =
    let size = c.zone-zone.ensures.size in
    let strip = c.requires.strip in
    record {
      among = rw (c.zone-zone.ensures.low, c.zone-zone.ensures.size, c.cells-cells.ensures.value) c.requires.among;
      within = record {
        x = omega (arith, c.requires.some.x, ap (λ (n : Triple). n.x) size);
        y = omega (arith, strip.some, strip.within, ap (λ (n : Triple). n.y) size);
        z = c.layer_of.ensures.below;
      };
    }

pub fill_next_plane-requires : goal.fill_next_plane-requires
fill_next_plane-requires c = record {
  within = subst (λ (n : Triple). IsWithin (triple c.beside_in_z-beside.result) n) c.cells-cells.ensures.value c.beside_in_z-beside.ensures.within;
  span = c.span_for-span.ensures.is;
  lines = omega (arith, c.requires.strip.few);
  small = c.requires.field;
}

pub sweep_layer-found-requires : goal.sweep_layer-found-requires
sweep_layer-found-requires c =
    let step = c.args.step.now in
    let strip = c.args.strip in
    let k = c.loop-k.k in
    let old = c.args.b.now in
    let mid = c.loop-k.b in
    let before = c.loop-k.invariant.changed in
    let low = before.shaped.low in
    let size = before.shaped.size in
    let layer : ℕ = swept_layer step.up old.size.z k in
    let size_z : c.layer_of-z.result ≡ layer = c.layer_of-z.ensures.value ∙ ap (λ (n : Triple). swept_layer step.up n.z k) c.zone-zone.ensures.size in
    let inside : k < old.size.z = omega (arith, c.loop-k-test.true, ap (λ (n : Triple). n.z) c.zone-zone.ensures.size) in
    let joined = layers_more step.up old.size strip.from strip.to k inside in
    let plane = plane_at c.loop-k.rooms.planes c.loop-k.far in
    let small = small_kept (made step old.low) (OnStrip strip.from strip.to) (OnLayers step.up strip.from strip.to old.size.z k)
    (OnLines strip.from strip.to layer) old mid mid most_lessened before c.requires.small
    (λ a p on. record { y_from = on.y_from; y_below = on.y_below })
    (λ a p on off. joined.apart a p off on)
    in
    record {
      among = rw (low, size) c.requires.among;
      some = rw size c.requires.some;
      field = c.requires.field;
      strip = rw size c.requires.strip;
      z = omega (arith, c.layer_of-z.ensures.below, ap (λ (n : Triple). n.z) size, ap (λ (n : Triple). n.z) c.zone-zone.ensures.size);
      small = subst (λ (m : ℕ). AreSmall most_lessened (OnLines strip.from strip.to m) mid) (sym size_z) small;
      far = c.loop-k.invariant.far;
      plane = subst (λ (m : ℕ). IsPlaneBeside step mid.low strip m mid.size.x plane) (sym size_z)
          (subst (λ (l : Spot). IsPlaneBeside step l strip layer mid.size.x plane) (sym low)
          (subst (λ (n : Triple). IsPlaneBeside step old.low strip layer n.x plane) (sym size) (c.loop-k.invariant.plane inside)));
    }

pub returns-clause-changed : goal.returns-clause-changed
returns-clause-changed c =
    let step = c.args.step.now in
    let strip = c.args.strip in
    let old = c.args.b.now in
    let end : c.loop-k.k ≡ old.size.z = omega (arith, c.loop-k-test.false, c.loop-k.auto.k-end, ap (λ (n : Triple). n.z) c.zone-zone.ensures.size) in
    strip_changed (made step old.low) step.up strip.from strip.to old c.loop-k.b
    (subst (λ (k : ℕ). Changed (made step old.low) (OnLayers step.up strip.from strip.to old.size.z k) old c.loop-k.b) end c.loop-k.invariant.changed)

pub returns-clause-calm : goal.returns-clause-calm
returns-clause-calm c = λ yes.
    let step = c.args.step.now in
    let strip = c.args.strip in
    let old = c.args.b.now in
    let size = sym c.loop-k.invariant.changed.shaped.size in
    let end : c.loop-k.k ≡ old.size.z = omega (arith, c.loop-k-test.false, c.loop-k.auto.k-end, ap (λ (n : Triple). n.z) c.zone-zone.ensures.size) in
    strip_small step.most step.up strip.from strip.to c.loop-k.b
    (subst (λ (n : Triple). AreSmall step.most (OnLayers step.up strip.from strip.to n.z n.z) c.loop-k.b) size
    (subst (λ (k : ℕ). AreSmall step.most (OnLayers step.up strip.from strip.to old.size.z k) c.loop-k.b) end (c.loop-k.invariant.calm yes)))

pub loop-k-preserved : goal.loop-k-preserved
loop-k-preserved c =
    let step = c.args.step.now in
    let strip = c.args.strip in
    let k = c.loop-k.k in
    let z = c.layer_of-z.result in
    let old = c.args.b.now in
    let mid = c.loop-k.b in
    let new = c.sweep_layer-found.new.b in
    let before = c.loop-k.invariant.changed in
    let shaped = before.shaped in
    let size_z : c.layer_of-z.result ≡ swept_layer step.up old.size.z k =
    c.layer_of-z.ensures.value ∙ ap (λ (n : Triple). swept_layer step.up n.z k) c.zone-zone.ensures.size in
    let inside : k < old.size.z = omega (arith, c.loop-k-test.true, ap (λ (n : Triple). n.z) c.zone-zone.ensures.size) in
    let layer : ℕ = swept_layer step.up old.size.z k in
    let done = OnLayers step.up strip.from strip.to old.size.z k in
    let more = OnLayers step.up strip.from strip.to old.size.z (k + 1) in
    let joined = layers_more step.up old.size strip.from strip.to k inside in
    let then : Changed (made step old.low) (OnLines strip.from strip.to layer) mid new =
    subst (λ (m : ℕ). Changed (made step old.low) (OnLines strip.from strip.to m) mid new) size_z
    (subst (λ (l : Spot). Changed (made step l) (OnLines strip.from strip.to z) mid new) shaped.low c.sweep_layer-found.ensures.changed) in
    let plane = plane_at c.sweep_layer-found.new.rooms.planes (1 - c.loop-k.far) in
    record {
      far = omega arith;
      plane = λ below.
          plane_before step.up (sweep_cells step) (read_by step.from) old.low old.size (span_of step.up old.size.x) (strip.to - strip.from) strip.from k plane
          (first_most step.up) c.requires.among below
          (subst (λ (m : ℕ). IsPlaneOf step old.low strip m old.size.x plane) size_z
          (subst (λ (l : Spot). IsPlaneOf step l strip z old.size.x plane) shaped.low
          (subst (λ (n : Triple). IsPlaneOf step mid.low strip z n.x plane) shaped.size c.sweep_layer-found.ensures.plane)));
      changed = changed_next (made step old.low) done (OnLines strip.from strip.to layer) more old mid new before then joined;
      calm = calm_next (made step old.low) done (OnLines strip.from strip.to layer) more mid mid new step.most c.loop-k.calm c.sweep_layer-found.result then
          c.loop-k.invariant.calm
          (λ yes. subst (λ (m : ℕ). AreSmall step.most (OnLines strip.from strip.to m) new) size_z (c.sweep_layer-found.ensures.calm yes))
          (subst (λ (n : Triple). IsJoined n done (OnLines strip.from strip.to layer) more) (sym shaped.size) joined);
    }
