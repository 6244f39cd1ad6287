use Rattle.pic_filter.proofs.AlongLaws.{smoothed_plus}
use Rattle.pic_filter.proofs.laws.smoothed_sum.Goals as goal

pub returns : goal.returns
returns c = smoothed_plus
