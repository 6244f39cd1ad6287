use Rattle.pic_verify.proofs.ReadableDump.{dumps_are_verified}
use Rattle.pic_verify.proofs.SmallDumpLaws.{small_dump_is_good}
use Rattle.pic_verify.proofs.laws.dumps_are_verified.Goals as goal

pub returns-clause-verified : goal.returns-clause-verified
returns-clause-verified c = dumps_are_verified

pub returns-clause-met : goal.returns-clause-met
returns-clause-met c = small_dump_is_good
