use Rattle.pic_grid.proofs.FactorLaws.{factor_is}
use Rattle.pic_grid.proofs.parts.factor_of.Goals as goal

pub returns : goal.returns
returns c = factor_is c.args.layers c.requires
