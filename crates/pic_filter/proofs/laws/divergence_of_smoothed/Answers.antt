use Rattle.pic_filter.proofs.DivergenceLaws.{div_e-smoothed}
use Rattle.pic_filter.proofs.laws.divergence_of_smoothed.Goals as goal

pub returns : goal.returns
returns c = div_e-smoothed
