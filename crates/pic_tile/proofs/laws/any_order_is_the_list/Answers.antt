use Rattle.pic_tile.proofs.InOrderLaws.{in_order_is}
use Rattle.pic_tile.proofs.laws.any_order_is_the_list.Goals as goal

pub returns : goal.returns
returns c = in_order_is
