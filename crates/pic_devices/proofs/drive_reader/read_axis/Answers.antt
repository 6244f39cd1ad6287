use Rattle.std.proofs.Common.{Ok, ap, sym, ◌∙◌}
use Rattle.pic_block.specs.Cells.{axis_of}
use Rattle.pic_block.proofs.CellLaws.{axis_of-number}
use Rattle.pic_walk.proofs.WalkLaws.{goes_on, exits}
use Rattle.pic_devices.specs.Drive.{axis}
use Rattle.pic_devices.proofs.drive_reader.read_axis.Goals as goal

pub returns-in_err-number : goal.returns-in_err-number
unfolding axis
returns-in_err-number c = exits _ _ c.from_residual.ensures.1 (rw c.new.ensures at c.in_err-number.ensures.walks)

pub returns : goal.returns
unfolding axis
returns c =
    goes_on _ _ _ (rw c.new.ensures at c.in_ok-number.ensures.walks.answer)
    (record { answer = ap Ok (ap axis_of (sym c.of_number.ensures) ∙ axis_of-number c.of_number.result) })
