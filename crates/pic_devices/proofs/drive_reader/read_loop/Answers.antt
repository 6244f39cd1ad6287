use Rattle.pic_walk.proofs.WalkLaws.{goes_on, exits}
use Rattle.pic_devices.specs.Drive.{one_loop}
use Rattle.pic_devices.proofs.drive_reader.read_loop.Goals as goal

pub returns-in_err-table-clause-walks : goal.returns-in_err-table-clause-walks
unfolding one_loop
returns-in_err-table-clause-walks c = λ done.
    exits _ _ c.from_residual-in_err-table.ensures.1 (rw (c.as_str.ensures, c.in_ok-path.ensures) at c.in_err-table.ensures)

pub returns-clause-walks : goal.returns-clause-walks
unfolding one_loop
returns-clause-walks c = λ done.
    goes_on _ _ _ (rw (c.as_str.ensures, c.in_ok-path.ensures) at c.in_ok-table.ensures.answer)
    (rw (c.as_str-2.ensures, c.in_ok-path.ensures) at c.loop_in.ensures.walks)
