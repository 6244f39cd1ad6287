use Rattle.std.proofs.Common.{◌∙◌}
use Rattle.pic_walk.proofs.TableLaws.{list_any-map}
use Rattle.pic_walk.proofs.keys.is_listed.Goals as goal

pub returns : goal.returns
returns c = c.contains.ensures.value ∙ (list_any-map _ _ c.args.keys.now)
