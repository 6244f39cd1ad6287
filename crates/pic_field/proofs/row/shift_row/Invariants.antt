use Rattle.std.proofs.Common.{◌≡◌, ◌<◌, ℕ}
use Rattle.pic_num.specs.Rounding.{scaled}
use Rattle.pic_field.specs.Rows.{most_row, row_at, IsSmallRow}
use Rattle.pic_field.proofs.row.shift_row.Given as goal

abbrev pub invariant-loop-i : goal.invariant-loop-i
invariant-loop-i l = record {
  values : (k : ℕ) → k < l.i → row_at l.to k ≡ scaled (row_at l.from k) l.fn.by;
  small : IsSmallRow most_row l.i l.to;
}
