use Rattle.std.proofs.Common.{◌-◌, ◌≡◌, ◌≤◌, length}
use Rattle.pic_num.specs.Space.{triple}
use Rattle.pic_grid.specs.Copying.{IsRunOf}
use Rattle.pic_grid.proofs.copying.copy_row.Given as goal

-- the row is filled up to `done`
abbrev pub invariant-loop-done : goal.invariant-loop-done
invariant-loop-done l = record {
  most : l.done ≤ l.count;
  room : length l.to ≡ l.count;
  row : IsRunOf l.from l.axis (triple l.fn.cell) l.done l.to;
}

abbrev pub decreases-loop-done : goal.decreases-loop-done
decreases-loop-done l = l.count - l.done
