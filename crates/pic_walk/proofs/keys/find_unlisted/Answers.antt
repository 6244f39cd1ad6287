use Rattle.pic_walk.proofs.TableLaws.{keys_ascend-view}
use Rattle.pic_walk.proofs.keys.find_unlisted.Goals as goal

pub returns-clause-ascend : goal.returns-clause-ascend
returns-clause-ascend c = keys_ascend-view _ c.keys.ensures.ordered
