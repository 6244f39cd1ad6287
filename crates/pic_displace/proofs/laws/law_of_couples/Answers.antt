use Rattle.pic_displace.proofs.CoupleLaws.{couples_meet_gauss}
use Rattle.pic_displace.proofs.laws.law_of_couples.Goals as goal

pub returns : goal.returns
returns c = couples_meet_gauss
