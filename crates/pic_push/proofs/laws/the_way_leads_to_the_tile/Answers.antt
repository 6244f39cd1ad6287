use Rattle.pic_push.proofs.WayLaws.{leads}
use Rattle.pic_push.proofs.laws.the_way_leads_to_the_tile.Goals as goal

pub returns : goal.returns
returns c = leads
