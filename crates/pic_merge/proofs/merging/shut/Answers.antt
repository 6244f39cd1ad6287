use Rattle.pic_tile.proofs.ReceivedLaws.{ready_received}
use Rattle.pic_merge.proofs.merging.shut.Goals as goal

pub returns-clause-ready : goal.returns-clause-ready
returns-clause-ready c = λ w m start done r all receiving. ready_received w m start done r c.args.tile.now all receiving
