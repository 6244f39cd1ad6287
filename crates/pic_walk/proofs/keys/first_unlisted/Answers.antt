use Rattle.pic_walk.proofs.TableLaws.{first_unlisted-keys}
use Rattle.pic_walk.proofs.keys.first_unlisted.Goals as goal

pub returns-clause-first : goal.returns-clause-first
returns-clause-first c = first_unlisted-keys _ c.find_unlisted.result c.args.table.now.entries c.find_unlisted.ensures.first
