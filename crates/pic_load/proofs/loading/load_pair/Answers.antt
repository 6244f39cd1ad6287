use Rattle.std.proofs.Common.{◌≡◌, ℕ, ◌+◌, ◌*◌, ◌<◌, length, slice_index_or, ap, sym, ◌∙◌, refl, subst, arith}
use Rattle.std.proofs.lemmas.List.{get_or_default}
use Rattle.rand_pcg.specs.Lcg.{Lcg}
use Rattle.pic_num.specs.declared.motion.Particle.{Particle}
use Rattle.pic_num.specs.Space.{triple}
use Rattle.pic_grid.specs.Hat.{IsInBox}
use Rattle.pic_deck.specs.Species.{Point6}
use Rattle.pic_load.specs.Drawing.{drawn_velocity}
use Rattle.pic_load.specs.Generator.{after}
use Rattle.pic_load.specs.Loading.{no_particle, beside}
use Rattle.pic_load.proofs.GeneratorLaws.{left_more}
use Rattle.pic_load.proofs.LoadLaws.{so_far, one_more, none_yet, placed_more, still}
use Rattle.pic_load.proofs.loading.load_pair.Goals as goal

pub loop-i-init : goal.loop-i-init
unfolding after
loop-i-init c = record {
  filled = none_yet c.args.particles.now.items c.args.species
      (λ i. beside (slice_index_or c.args.particles.now.items (c.args.start + i) no_particle) c.args.spread.drift c.args.spread.width
      (after (36 * i) c.args.rng.now));
  left = refl;
  placed = λ n m kinds slow placed. placed;
}

pub add-requires : goal.add-requires
add-requires c =
    let size = so_far _ _ c.args.species c.loop-i.i
    (λ i. beside (slice_index_or c.args.particles.now.items (c.args.start + i) no_particle) c.args.spread.drift c.args.spread.width
    (after (36 * i) c.args.rng.now))
    c.loop-i.invariant.filled in
    omega (arith, size, c.requires.few)

pub loop-i-preserved : goal.loop-i-preserved
loop-i-preserved c =
    let inv = c.loop-i.invariant in
    let g = c.args.rng.now in
    let k = c.loop-i.i in
    let old = c.args.particles.now.items in
    let now = c.loop-i.particles.items in
    let drift = c.args.spread.drift in
    let spread = c.args.spread.width in
    let f : ℕ → Point6 = (λ i. beside (slice_index_or old (c.args.start + i) no_particle) drift spread (after (36 * i) g)) in
    let size = so_far old now c.args.species k f inv.filled in
    let before : c.args.start + k < length old = omega (arith, c.requires.others) in
    let below : c.args.start + k < length now = omega (arith, before, size) in
    let other : c.index-other.result.now ≡ slice_index_or old (c.args.start + k) no_particle =
    c.index-other.ensures ∙ get_or_default now (c.args.start + k) _ no_particle below
    ∙ still old now c.args.species k f (c.args.start + k) no_particle inv.filled before in
    let next : 36 * k + 36 ≡ 36 * (k + 1) = omega arith in
    let v = c.draw_velocity-own.ensures.value ∙ ap (λ (h : Lcg). drawn_velocity h drift spread) inv.left in
    record {
      filled = one_more old now _ c.args.species k f _ inv.filled c.in_ok-add.ensures (λ j. record { x = (other j).x; v = v j });
      left = left_more (36 * k) 36 (36 * (k + 1)) g _ _ inv.left c.draw_velocity-own.ensures.left next;
      placed = λ n m kinds slow placed.
          let here = (inv.placed n m kinds slow placed (c.args.start + k) no_particle below).place in
          let place = subst (λ (p : Particle). IsInBox n.side n.n (triple p.x))
          (sym (c.index-other.ensures ∙ get_or_default now (c.args.start + k) _ no_particle below)) here in
          placed_more n m now _ _ c.args.species (record { x = c.index-other.result.now.x; v = c.draw_velocity-own.result }) kinds place
          (c.draw_velocity-own.ensures.size n.side slow) c.in_ok-add.ensures (inv.placed n m kinds slow placed);
    }
