use Rattle.pic_grid.proofs.HatLaws as hats
use Rattle.pic_laws.proofs.laws.hats_add_up.Goals as goal

pub returns : goal.returns
returns c = hats.hats_add_up
