use Rattle.pic_tile.proofs.InOrderLaws.{written_all}
use Rattle.pic_tile.proofs.laws.written_is_in_order.Goals as goal

pub returns : goal.returns
returns c = written_all
