use Rattle.std.proofs.Common.{◌-◌, ◌≡◌, ◌+◌, ◌%◌, ◌<◌, ◌≤◌, length}
use Rattle.pic_field.specs.Rows.{read_by, start_cell, IsScaledRow}
use Rattle.pic_field.proofs.row.scaled_row.Given as goal

-- the row is filled up to `done`, and the next run begins at the layer x
abbrev pub invariant-loop-done : goal.invariant-loop-done
invariant-loop-done l = record {
  at : l.x ≡ (l.fn.start.x + l.done) % l.from.field.now.cells.x;
  below : l.x < l.from.field.now.cells.x;
  most : l.done ≤ l.count;
  room : length l.to ≡ length l.initial.to;
  row : IsScaledRow l.from.field.now.cells (read_by l.from) l.axis (start_cell l.fn.start) 0 l.done l.to;
}

abbrev pub decreases-loop-done : goal.decreases-loop-done
decreases-loop-done l = l.count - l.done
