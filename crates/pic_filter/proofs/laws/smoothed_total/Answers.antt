use Rattle.pic_filter.proofs.TotalLaws.{sum_cells-smoothed}
use Rattle.pic_filter.proofs.laws.smoothed_total.Goals as goal

pub returns : goal.returns
returns c = sum_cells-smoothed
