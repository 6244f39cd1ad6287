use Rattle.pic_verify.proofs.MeaningLaws.{verdict_law}
use Rattle.pic_verify.proofs.laws.law_of_the_verdict.Goals as goal

pub returns : goal.returns
returns c = verdict_law
