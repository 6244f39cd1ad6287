use Rattle.pic_demo.proofs.WalkedLaws.{demo_walked}
use Rattle.pic_demo.proofs.laws.the_demonstration_is_walked.Goals as goal

pub returns : goal.returns
returns c = demo_walked
