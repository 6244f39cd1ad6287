use Rattle.std.proofs.lemmas.Result.{IfOk-weaker}
use Rattle.pic_walk.proofs.WalkLaws.{goes_on, exits}
use Rattle.pic_devices.specs.Lists.{list_within}
use Rattle.pic_devices.specs.Probes.{most_ids, id_list}
use Rattle.pic_devices.proofs.ReadLaws.{few_within}
use Rattle.pic_devices.proofs.probe_reader.read_ids.Goals as goal

pub returns-in_err-ids-clause-walks : goal.returns-in_err-ids-clause-walks
unfolding id_list list_within
returns-in_err-ids-clause-walks c = exits _ _ c.from_residual.ensures.1 c.in_err-ids.ensures.walks

pub returns-clause-walks : goal.returns-clause-walks
unfolding id_list list_within
returns-clause-walks c = goes_on _ _ _ c.in_ok-ids.ensures.walks.answer (rw c.from_to.ensures at c.counted.ensures.walks)

pub returns-clause-few : goal.returns-clause-few
returns-clause-few c = IfOk-weaker _ _ _ (few_within most_ids) (rw c.from_to.ensures at c.counted.ensures.bounds)
