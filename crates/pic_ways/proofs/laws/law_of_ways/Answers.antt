use Rattle.pic_ways.proofs.WayLaws.{gauss_by_ways}
use Rattle.pic_ways.proofs.laws.law_of_ways.Goals as goal

pub returns : goal.returns
returns c = gauss_by_ways
