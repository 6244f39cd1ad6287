-- The components so far, and where the next one stands.
use Rattle.std.proofs.Common.{◌≡◌, ◌+◌, take}
use Rattle.pic_num.specs.Space.{triple}
use Rattle.pic_block.proofs.PlaceLaws.{IsPlace}
use Rattle.pic_grid.specs.Lattice.{with_places}
use Rattle.pic_grid.proofs.setting.set_each.Given as goal

abbrev pub invariant-loop-i : goal.invariant-loop-i
invariant-loop-i l = record {
  set : l.lattice ≡ with_places l.initial.lattice l.fn.first (take l.i l.values);
  place : IsPlace l.initial.lattice.cells (l.fn.first + l.i) l.at.axis (triple l.at.inner);
}
