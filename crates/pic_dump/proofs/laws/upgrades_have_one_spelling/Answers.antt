use Rattle.pic_dump.proofs.UpgradeSpelling.{upgrades_are_spelled, version_two_stays}
use Rattle.pic_dump.proofs.laws.upgrades_have_one_spelling.Goals as goal

pub returns-clause-spelled : goal.returns-clause-spelled
returns-clause-spelled c = upgrades_are_spelled

pub returns-clause-stays : goal.returns-clause-stays
returns-clause-stays c = version_two_stays
