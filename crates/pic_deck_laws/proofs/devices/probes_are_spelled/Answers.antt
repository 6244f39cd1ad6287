use Rattle.pic_deck_laws.proofs.ProbeLaws.{probes_are_spelled}
use Rattle.pic_deck_laws.proofs.devices.probes_are_spelled.Goals as goal

pub returns : goal.returns
returns c = probes_are_spelled
