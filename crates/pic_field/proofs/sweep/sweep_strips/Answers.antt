use Rattle.std.proofs.Common.{◌≡◌, ◌≤◌, slice_index, ap, subst, arith}
use Rattle.pic_num.specs.Space.{Triple, Spot}
use Rattle.pic_field.specs.Lines.{OnStrip, Changed}
use Rattle.pic_field.specs.Sweeps.{made}
use Rattle.pic_field.proofs.LineLaws.{changed_next, calm_next, strips_more}
use Rattle.pic_field.proofs.sweep.sweep_strips.Goals as goal

pub loop-from-preserved : goal.loop-from-preserved
loop-from-preserved c =
    let step = c.args.step.now in
    let from = c.loop-from.from in
    let to = c.strip_end-to.result in
    let old = c.args.b.now in
    let mid = c.loop-from.b in
    let new = c.sweep_strip-found.new.b in
    let before = c.loop-from.invariant.changed in
    let lines : slice_index c.zone-zone.result.size 1 ≡ old.size.y = ap (λ (n : Triple). n.y) c.zone-zone.ensures.size in
    let more : from ≤ to = omega (arith, c.strip_end-to.ensures.some) in
    let then = subst (λ (l : Spot). Changed (made step l) (OnStrip from to) mid new) before.shaped.low c.sweep_strip-found.ensures.changed in
    record {
      most = omega (arith, c.strip_end-to.ensures.within, lines);
      changed = changed_next (made step old.low) (OnStrip 0 from) (OnStrip from to) (OnStrip 0 to) old mid new before then
          (strips_more old.size 0 from to (omega arith) more);
      calm = calm_next (made step old.low) (OnStrip 0 from) (OnStrip from to) (OnStrip 0 to) mid mid new step.most c.loop-from.calm
          c.sweep_strip-found.result then c.loop-from.invariant.calm c.sweep_strip-found.ensures.calm (strips_more mid.size 0 from to (omega arith) more);
    }
