use Rattle.pic_push.proofs.LayerSumLaws.{layers_current}
use Rattle.pic_push.proofs.laws.layers_make_the_current.Goals as goal

-- src/laws.rt:6:1
pub returns : goal.returns
returns c = layers_current
