use Rattle.std.proofs.lemmas.Result.{IfOk-weaker}
use Rattle.pic_devices.proofs.ReadLaws.{cell_fits, cell_within}
use Rattle.pic_devices.proofs.drive_reader.need_cell.Goals as goal

pub need_three-requires : goal.need_three-requires
need_three-requires c = rw c.cell_limits.ensures.value (cell_fits c.args.cells.n c.cell_limits.ensures.limits)

pub returns-clause-walks : goal.returns-clause-walks
returns-clause-walks c = rw c.cell_limits.ensures.value at c.need_three.ensures.walks

pub returns-clause-limits : goal.returns-clause-limits
returns-clause-limits c =
    IfOk-weaker _ _ _ (λ ns inside. cell_within c.args.cells.n ns c.cell_limits.ensures.limits inside)
    (rw c.cell_limits.ensures.value at c.need_three.ensures.bounds)
