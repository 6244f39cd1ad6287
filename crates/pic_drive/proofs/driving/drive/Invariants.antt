use Rattle.std.proofs.Common.{◌≡◌, take}
use Rattle.pic_grid.specs.Lattice.{field_of}
use Rattle.pic_drive.specs.Drive.{driven}
use Rattle.pic_drive.proofs.driving.drive.Given as goal

-- it has what the loops so far add
abbrev pub invariant-loop-one : goal.invariant-loop-one
invariant-loop-one l = l.m ≡ field_of l.fn.m.side l.fn.m.cells l.fn.m.parts (driven (take l.one-index l.loops) l.step)
