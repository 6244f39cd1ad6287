use Rattle.std.proofs.lemmas.Result.{IfOk-weaker}
use Rattle.pic_walk.proofs.WalkLaws.{goes_on, exits}
use Rattle.pic_devices.specs.Lists.{list_within}
use Rattle.pic_devices.specs.Probes.{most_places, place_list}
use Rattle.pic_devices.proofs.ReadLaws.{few_within}
use Rattle.pic_devices.proofs.probe_reader.read_places.Goals as goal

pub returns-in_err-places-clause-walks : goal.returns-in_err-places-clause-walks
unfolding place_list list_within
returns-in_err-places-clause-walks c = exits _ _ c.from_residual.ensures.1 c.in_err-places.ensures.walks

pub returns-clause-walks : goal.returns-clause-walks
unfolding place_list list_within
returns-clause-walks c = goes_on _ _ _ c.in_ok-places.ensures.walks.answer (rw c.from_to.ensures at c.counted.ensures.walks)

pub returns-clause-few : goal.returns-clause-few
returns-clause-few c = IfOk-weaker _ _ _ (few_within most_places) (rw c.from_to.ensures at c.counted.ensures.bounds)
