use Rattle.std.proofs.Common.{length, false, refl, arith, ◌∙◌}
use Rattle.std.proofs.Math.ListN.{length-set}
use Rattle.pic_core.proofs.ScratchLaws.{set_more, all_set}
use Rattle.pic_core.proofs.scratch.unmark.Goals as goal

pub loop-i-init : goal.loop-i-init
loop-i-init c = record { long = refl; unset = λ k below. absurd (omega (arith, below)) }

pub loop-i-preserved : goal.loop-i-preserved
loop-i-preserved c =
    let long = c.loop-i.invariant.long in
    record {
      long = length-set c.loop-i.marks c.loop-i.i false ∙ long;
      unset = set_more false c.loop-i.marks c.loop-i.i (omega (arith, c.loop-i-test.true, long)) c.loop-i.invariant.unset;
    }

pub returns : goal.returns
returns c =
    let long = c.loop-i.invariant.long in
    all_set false c.loop-i.marks (length c.args.marks.now) long (λ k below. c.loop-i.invariant.unset k (omega (arith, below, long, c.loop-i-test.false)))
