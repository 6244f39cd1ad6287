use Rattle.std.proofs.Common.{◌≡◌, ◌+◌, ◌*◌, ap, ◌∙◌, refl, arith}
use Rattle.rand_pcg.specs.Lcg.{Lcg}
use Rattle.pic_load.specs.Drawing.{drawn_place, drawn_velocity}
use Rattle.pic_load.specs.Generator.{after}
use Rattle.pic_load.specs.Loading.{drawn}
use Rattle.pic_load.proofs.GeneratorLaws.{left_more}
use Rattle.pic_load.proofs.LoadLaws.{so_far, one_more, none_yet, placed_more}
use Rattle.pic_load.proofs.loading.load_random.Goals as goal

pub loop-init : goal.loop-init
unfolding after
loop-init c = record {
  filled = none_yet c.args.particles.now.items c.args.species (λ i. drawn c.args.cells c.args.spread.drift c.args.spread.width (after (39 * i) c.args.rng.now));
  left = refl;
  placed = λ m kinds slow placed. placed;
}

pub add-requires : goal.add-requires
add-requires c =
    let size = so_far _ _ c.args.species c.loop.counter
    (λ i. drawn c.args.cells c.args.spread.drift c.args.spread.width (after (39 * i) c.args.rng.now)) c.loop.invariant.filled in
    omega (arith, size, c.requires.few)

pub loop-preserved : goal.loop-preserved
loop-preserved c =
    let inv = c.loop.invariant in
    let g = c.args.rng.now in
    let k = c.loop.counter in
    let cells = c.args.cells in
    let drift = c.args.spread.drift in
    let spread = c.args.spread.width in
    let three = left_more (39 * k) 3 (39 * k + 3) g _ _ inv.left c.draw_place-x.ensures.left refl in
    let next : 39 * k + 3 + 36 ≡ 39 * (k + 1) = omega arith in
    let x = c.draw_place-x.ensures.value ∙ ap (λ (h : Lcg). drawn_place cells h) inv.left in
    let v = c.draw_velocity-v.ensures.value ∙ ap (λ (h : Lcg). drawn_velocity h drift spread) (c.draw_place-x.ensures.left ∙ ap (after 3) inv.left) in
    record {
      filled = one_more c.args.particles.now.items _ _ c.args.species k (λ i. drawn cells drift spread (after (39 * i) g)) _ inv.filled c.in_ok-add.ensures
          (λ j. record { x = x j; v = v j });
      left = left_more (39 * k + 3) 36 (39 * (k + 1)) g _ _ three c.draw_velocity-v.ensures.left next;
      placed = λ m kinds slow placed.
          placed_more cells m _ _ _ c.args.species (record { x = c.draw_place-x.result; v = c.draw_velocity-v.result }) kinds
          c.draw_place-x.ensures.within (c.draw_velocity-v.ensures.size cells.side slow) c.in_ok-add.ensures (inv.placed m kinds slow placed);
    }
