use Rattle.pic_header.proofs.SpellingLaws.{headers_are_spelled, no_header_begins_another}
use Rattle.pic_header.proofs.laws.headers_have_one_spelling.Goals as goal

pub returns-clause-spelled : goal.returns-clause-spelled
returns-clause-spelled c = headers_are_spelled

pub returns-clause-apart : goal.returns-clause-apart
returns-clause-apart c = no_header_begins_another
