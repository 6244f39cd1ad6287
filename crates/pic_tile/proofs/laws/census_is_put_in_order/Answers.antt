use Rattle.pic_tile.proofs.OrderedLaws.{put_in_order}
use Rattle.pic_tile.proofs.laws.census_is_put_in_order.Goals as goal

pub returns : goal.returns
returns c = put_in_order
