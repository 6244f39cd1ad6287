use Rattle.std.proofs.Common.{refl}
use Rattle.pic_walk.proofs.WalkLaws.{goes_on, exits}
use Rattle.pic_devices.specs.Probes.{probes}
use Rattle.pic_devices.proofs.probe_reader.read_probes.Goals as goal

pub returns-in_err-table-clause-walks : goal.returns-in_err-table-clause-walks
unfolding probes
returns-in_err-table-clause-walks c = exits _ _ c.from_residual.ensures.1 c.in_err-table.ensures

pub returns-in_err-places-clause-walks : goal.returns-in_err-places-clause-walks
unfolding probes
returns-in_err-places-clause-walks c =
    goes_on _ _ _ c.in_ok-table.ensures.answer (exits _ _ c.from_residual-in_err-places.ensures.1 c.in_err-places.ensures.walks)

pub returns-in_err-ids-clause-walks : goal.returns-in_err-ids-clause-walks
unfolding probes
returns-in_err-ids-clause-walks c =
    goes_on _ _ _ c.in_ok-table.ensures.answer (goes_on _ _ _ c.in_ok-places.ensures.walks.answer
    (exits _ _ c.from_residual-in_err-ids.ensures.1 c.in_err-ids.ensures.walks))

pub returns-clause-walks : goal.returns-clause-walks
unfolding probes
returns-clause-walks c =
    goes_on _ _ _ c.in_ok-table.ensures.answer (goes_on _ _ _ c.in_ok-places.ensures.walks.answer
    (goes_on _ _ _ c.in_ok-ids.ensures.walks.answer (record { answer = refl })))

pub returns-clause-limits : goal.returns-clause-limits
returns-clause-limits c = record {
  few_places = c.in_ok-places.ensures.few;
  places = c.in_ok-places.ensures.limits;
  few_ids = c.in_ok-ids.ensures.few;
  ids = c.in_ok-ids.ensures.limits;
}
