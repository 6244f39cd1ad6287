use Rattle.pic_tile.proofs.HeldLaws.{fresh_hold}
use Rattle.pic_tile.proofs.laws.fresh_tiles_hold_the_list.Goals as goal

pub returns : goal.returns
returns c = λ m particles tiles some thick inside fresh. fresh_hold m particles tiles some thick inside fresh
