use Rattle.pic_field.specs.Lines.{Changed}
use Rattle.pic_field.specs.Makings.{made_by}
use Rattle.pic_field.proofs.LineLaws.{BelowLine}
use Rattle.pic_field.proofs.making.make_layer.Given as goal

-- the lines below y are done
abbrev pub invariant-loop-y : goal.invariant-loop-y
invariant-loop-y l = Changed (made_by l.how l.from l.initial.to.low) (BelowLine l.y l.z) l.initial.to l.to
