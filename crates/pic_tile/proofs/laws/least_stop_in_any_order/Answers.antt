use Rattle.pic_tile.proofs.StopLaws.{stop_of_any}
use Rattle.pic_tile.proofs.laws.least_stop_in_any_order.Goals as goal

pub returns : goal.returns
returns c = stop_of_any
