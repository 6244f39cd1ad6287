use Rattle.std.proofs.Common.{◌-◌, ◌≡◌, ◌+◌, ◌<◌, ◌≤◌, ◌-ℤ◌, ℕ, length}
use Rattle.pic_grid.specs.Lattice.{value_at}
use Rattle.pic_field.specs.Rows.{row_at, start_cell}
use Rattle.pic_field.proofs.row.lessen_row.Given as goal

-- the values below `done` are lessened, the others are as they were
abbrev pub invariant-loop-done : goal.invariant-loop-done
invariant-loop-done l = record {
  most : l.done ≤ l.count;
  long : length l.row ≡ length l.initial.row;
  values : (k : ℕ) → k < l.done → row_at l.row k
      ≡ row_at l.initial.row k -ℤ value_at l.by l.axis (record (start_cell l.start) { x = l.start.x + k });
  rest : (k : ℕ) → l.done ≤ k → row_at l.row k ≡ row_at l.initial.row k;
}

abbrev pub decreases-loop-done : goal.decreases-loop-done
decreases-loop-done l = l.count - l.done
