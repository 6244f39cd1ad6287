use Rattle.pic_dump.proofs.SpellingLaws.{dumps_are_spelled}
use Rattle.pic_dump.proofs.laws.dumps_have_one_spelling.Goals as goal

pub returns : goal.returns
returns c = dumps_are_spelled
