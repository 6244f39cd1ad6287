use Rattle.pic_yard.proofs.CensusLaws.{census}
use Rattle.pic_yard.proofs.laws.the_rule_keeps_the_census.Goals as goal

pub returns : goal.returns
returns c = census
