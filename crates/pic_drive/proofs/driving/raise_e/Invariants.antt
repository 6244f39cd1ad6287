use Rattle.std.proofs.Common.{◌≡◌, take}
use Rattle.pic_grid.specs.Differences.{curl_b}
use Rattle.pic_drive.specs.Drive.{driven, plus}
use Rattle.pic_drive.proofs.driving.raise_e.Given as goal

-- the current of the loops so far was added
abbrev pub invariant-loop-one : goal.invariant-loop-one
invariant-loop-one l = l.e ≡ plus l.fn.e (curl_b l.fn.e.cells (driven (take l.one-index l.loops) l.step))
