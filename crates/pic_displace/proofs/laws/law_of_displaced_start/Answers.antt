use Rattle.pic_displace.proofs.DisplaceLaws.{displaced_start_keeps_gauss}
use Rattle.pic_displace.proofs.laws.law_of_displaced_start.Goals as goal

pub returns : goal.returns
returns c = displaced_start_keeps_gauss
