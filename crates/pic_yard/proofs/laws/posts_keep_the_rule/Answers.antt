use Rattle.pic_yard.proofs.ArrivedLaws.{post_allowed}
use Rattle.pic_yard.proofs.laws.posts_keep_the_rule.Goals as goal

pub returns : goal.returns
returns c = post_allowed
