use Rattle.std.proofs.Common.{◌≡◌, ℕ, ◌+◌, ◌<◌, length, slice_index_or, ap, ◌∙◌, arith}
use Rattle.std.proofs.lemmas.List.{get_or_default}
use Rattle.pic_num.specs.declared.motion.Particle.{Particle}
use Rattle.pic_num.specs.Space.{triple, spot}
use Rattle.pic_deck.specs.Species.{Point6}
use Rattle.pic_load.specs.Loading.{no_particle, moved, displaced}
use Rattle.pic_load.proofs.LoadLaws.{so_far, one_more, none_yet, placed_more, still}
use Rattle.pic_load.proofs.loading.load_displaced.Goals as goal

pub loop-i-init : goal.loop-i-init
loop-i-init c = record {
  filled = none_yet c.args.particles.now.items c.args.species
      (λ i. displaced c.args.cells (slice_index_or c.args.particles.now.items (c.args.start + i) no_particle) c.args.displacement.by c.args.displacement.v);
  placed = λ m kinds speed placed. placed;
}

pub add-requires : goal.add-requires
add-requires c =
    let size = so_far _ _ c.args.species c.loop-i.i
    (λ i. displaced c.args.cells (slice_index_or c.args.particles.now.items (c.args.start + i) no_particle) c.args.displacement.by c.args.displacement.v)
    c.loop-i.invariant.filled in
    omega (arith, size, c.requires.few)

pub loop-i-preserved : goal.loop-i-preserved
loop-i-preserved c =
    let inv = c.loop-i.invariant in
    let k = c.loop-i.i in
    let old = c.args.particles.now.items in
    let now = c.loop-i.particles.items in
    let by = c.args.displacement.by in
    let v = c.args.displacement.v in
    let f : ℕ → Point6 = (λ i. displaced c.args.cells (slice_index_or old (c.args.start + i) no_particle) by v) in
    let size = so_far old now c.args.species k f inv.filled in
    let before : c.args.start + k < length old = omega (arith, c.requires.others) in
    let below : c.args.start + k < length now = omega (arith, before, size) in
    let other : c.index.result.now ≡ slice_index_or old (c.args.start + k) no_particle =
    c.index.ensures ∙ get_or_default now (c.args.start + k) _ no_particle below
    ∙ still old now c.args.species k f (c.args.start + k) no_particle inv.filled before in
    let x = c.moved-x.ensures.value ∙ ap (λ (p : Particle). moved c.args.cells (triple p.x) (spot by)) other in
    record {
      filled = one_more old now _ c.args.species k f _ inv.filled c.in_ok-add.ensures (λ j. record { x = x j; v = v });
      placed = λ m kinds speed placed.
          placed_more c.args.cells m now _ _ c.args.species (record { x = c.moved-x.result; v = v }) kinds c.moved-x.ensures.within speed
          c.in_ok-add.ensures (inv.placed m kinds speed placed);
    }
