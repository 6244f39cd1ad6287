use Rattle.std.proofs.Common.{arith}
use Rattle.pic_field.specs.Lines.{OnLayer, OnStrip, BelowLayer}
use Rattle.pic_field.specs.Makings.{made_by}
use Rattle.pic_field.proofs.MakingLaws.{can_part, can_kept}
use Rattle.pic_field.proofs.making.make.Goals as goal

pub make_layer-requires-clause-can : goal.make_layer-requires-clause-can
make_layer-requires-clause-can c =
    let z = c.loop-z.z in
    let old = c.args.to.now in
    can_kept (made_by c.args.how.now c.args.from.now old.low) (OnLayer z) (BelowLayer z) (OnLayer z) old c.loop-z.to c.args.how.now c.loop-z.invariant
    (can_part (OnStrip 0 old.size.y) (OnLayer z) old c.args.how.now c.requires.can (λ a p w on. record { y_from = omega arith; y_below = w.y }))
    (λ a p on. on) (λ a p on off. let same = on.z_is in let below = off.z_below in absurd (omega (arith, same, below)))
