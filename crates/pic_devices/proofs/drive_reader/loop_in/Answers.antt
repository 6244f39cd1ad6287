use Rattle.std.proofs.Common.{refl, arith}
use Rattle.std.proofs.lemmas.Int.{ints}
use Rattle.pic_walk.proofs.WalkLaws.{goes_on, exits}
use Rattle.pic_devices.specs.Drive.{loop_in}
use Rattle.pic_devices.proofs.drive_reader.loop_in.Goals as goal

pub returns-in_err-axis-clause-walks : goal.returns-in_err-axis-clause-walks
unfolding loop_in
returns-in_err-axis-clause-walks c = exits _ _ c.from_residual.ensures.1 c.in_err-axis.ensures

pub returns-in_err-cell-clause-walks : goal.returns-in_err-cell-clause-walks
unfolding loop_in
returns-in_err-cell-clause-walks c =
    goes_on _ _ _ c.in_ok-axis.ensures.answer (exits _ _ c.from_residual-in_err-cell.ensures.1 c.in_err-cell.ensures.walks)

pub returns-in_err-wave-clause-walks : goal.returns-in_err-wave-clause-walks
unfolding loop_in
returns-in_err-wave-clause-walks c =
    goes_on _ _ _ c.in_ok-axis.ensures.answer (goes_on _ _ _ c.in_ok-cell.ensures.walks.answer
    (exits _ _ c.from_residual-in_err-wave.ensures.1 c.in_err-wave.ensures.walks))

pub returns-clause-walks : goal.returns-clause-walks
unfolding loop_in
returns-clause-walks c =
    goes_on _ _ _ c.in_ok-axis.ensures.answer (goes_on _ _ _ c.in_ok-cell.ensures.walks.answer
    (goes_on _ _ _ c.in_ok-wave.ensures.walks.answer (record { answer = refl })))

pub returns-clause-limits : goal.returns-clause-limits
returns-clause-limits c =
    let length_within = c.in_ok-wave.ensures.bounds in
    record {
      within = c.in_ok-cell.ensures.limits;
      some = omega (arith, ints, length_within.low);
      most = omega (arith, ints, length_within.high);
      sizes = c.in_ok-wave.ensures.sizes;
    }
