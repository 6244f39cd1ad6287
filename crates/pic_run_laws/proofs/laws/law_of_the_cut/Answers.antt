use Rattle.pic_run_laws.proofs.CutTextsLaws.{cut_behind, cut_fronts}
use Rattle.pic_run_laws.proofs.laws.law_of_the_cut.Goals as goal

pub returns-clause-whole : goal.returns-clause-whole
returns-clause-whole c = cut_behind

pub returns-clause-fronts : goal.returns-clause-fronts
returns-clause-fronts c = cut_fronts
