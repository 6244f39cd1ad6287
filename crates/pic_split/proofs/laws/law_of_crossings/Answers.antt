use Rattle.pic_split.proofs.InOrderLaws.{crossings_in_order}
use Rattle.pic_split.proofs.laws.law_of_crossings.Goals as goal

pub returns : goal.returns
returns c = crossings_in_order
