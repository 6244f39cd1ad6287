use Rattle.std.proofs.Common.{Ok, ap, sym}
use Rattle.pic_walk.proofs.WalkLaws.{goes_on, exits}
use Rattle.pic_devices.specs.Probes.{place}
use Rattle.pic_devices.proofs.probe_reader.read_place.Goals as goal

pub returns-in_err-numbers-clause-walks : goal.returns-in_err-numbers-clause-walks
unfolding place
returns-in_err-numbers-clause-walks c = λ done.
    exits _ _ c.from_residual.ensures.1 (rw c.place_limits.ensures.value at c.in_err-numbers.ensures.walks)

pub returns-clause-walks : goal.returns-clause-walks
unfolding place
returns-clause-walks c = λ done.
    goes_on _ _ _ (rw c.place_limits.ensures.value at c.in_ok-numbers.ensures.walks.answer) (record { answer = ap Ok (sym c.place_of.ensures.value) })
