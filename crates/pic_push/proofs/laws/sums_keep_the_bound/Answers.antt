use Rattle.pic_push.proofs.PartialSumLaws.{partial_sums}
use Rattle.pic_push.proofs.laws.sums_keep_the_bound.Goals as goal

pub returns : goal.returns
returns c = partial_sums
