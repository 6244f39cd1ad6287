use Rattle.pic_field.specs.Lines.{BelowLayer, Changed}
use Rattle.pic_field.specs.Makings.{made_by}
use Rattle.pic_field.proofs.making.make.Given as goal

-- the layers below z are done
abbrev pub invariant-loop-z : goal.invariant-loop-z
invariant-loop-z l = Changed (made_by l.how l.from l.initial.to.low) (BelowLayer l.z) l.initial.to l.to
