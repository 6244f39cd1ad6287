use Rattle.pic_dump.proofs.WholeIsExact.{whole_is_exact}
use Rattle.pic_dump.proofs.laws.whole_parts_are_exact.Goals as goal

pub returns : goal.returns
returns c = whole_is_exact
