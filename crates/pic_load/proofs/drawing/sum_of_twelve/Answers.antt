use Rattle.std.proofs.Common.{◌+◌, refl, ◌∙◌, arith}
use Rattle.pic_load.specs.Generator.{after}
use Rattle.pic_load.specs.Drawing.{sum_of_words}
use Rattle.pic_load.proofs.GeneratorLaws.{left_more}
use Rattle.pic_load.proofs.DrawingLaws.{sum_more}
use Rattle.pic_load.proofs.drawing.sum_of_twelve.Goals as goal

pub loop-init : goal.loop-init
unfolding sum_of_words after
loop-init c = record { sum = refl; most = omega arith; left = refl }

pub loop-preserved : goal.loop-preserved
loop-preserved c =
    let inv = c.loop.invariant in
    let g = c.args.rng.now in
    let more = sum_more c.loop.counter g c.loop.rng _ inv.left c.draw_word.ensures.value in
    record {
      sum = (λ i. inv.sum i + c.from-total.ensures i) ∙ more;
      most = omega (arith, inv.most, c.from-total.ensures);
      left = left_more c.loop.counter 1 (c.loop.counter + 1) g _ _ inv.left c.draw_word.ensures.left refl;
    }
