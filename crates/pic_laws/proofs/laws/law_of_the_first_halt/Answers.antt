use Rattle.pic_laws.proofs.FirstHaltLaws.{first_halt_law}
use Rattle.pic_laws.proofs.laws.law_of_the_first_halt.Goals as goal

pub returns : goal.returns
returns c = first_halt_law
