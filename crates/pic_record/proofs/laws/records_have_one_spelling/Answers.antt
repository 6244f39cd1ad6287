use Rattle.pic_record.proofs.SpellingLaws.{records_are_spelled, no_record_begins_another}
use Rattle.pic_record.proofs.laws.records_have_one_spelling.Goals as goal

pub returns-clause-spelled : goal.returns-clause-spelled
returns-clause-spelled c = records_are_spelled

pub returns-clause-apart : goal.returns-clause-apart
returns-clause-apart c = no_record_begins_another
