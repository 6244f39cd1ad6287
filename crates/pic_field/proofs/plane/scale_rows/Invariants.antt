use Rattle.std.proofs.Common.{◌-◌, ◌≡◌, ◌+◌, ◌%◌, ◌<◌, ◌≤◌, IsTrue, length}
use Rattle.pic_num.specs.declared.axis.Axis.TheVariants.{X, Y, Z}
use Rattle.pic_field.specs.Rows.{read_by, start_cell, IsScaledRow}
use Rattle.pic_field.proofs.plane.scale_rows.Given as goal

-- the rows are filled up to `done`, and the next runs begin at the layer x
abbrev pub invariant-loop-done : goal.invariant-loop-done
invariant-loop-done l = record {
  at : l.x ≡ (l.fn.start.x + l.done) % l.from.field.now.cells.x;
  below : l.x < l.from.field.now.cells.x;
  least : l.span.first ≤ l.done;
  most : l.done ≤ l.span.first + l.span.cells;
  room_x : length l.to.x ≡ 129;
  room_y : length l.to.y ≡ 129;
  room_z : length l.to.z ≡ 129;
  of_x : IsScaledRow l.from.field.now.cells (read_by l.from) X (start_cell l.fn.start) l.span.first l.done l.to.x;
  of_y : IsTrue l.wanted.y → IsScaledRow l.from.field.now.cells (read_by l.from) Y (start_cell l.fn.start) l.span.first l.done l.to.y;
  of_z : IsTrue l.wanted.z → IsScaledRow l.from.field.now.cells (read_by l.from) Z (start_cell l.fn.start) l.span.first l.done l.to.z;
}

abbrev pub decreases-loop-done : goal.decreases-loop-done
decreases-loop-done l = l.span.first + l.span.cells - l.done
