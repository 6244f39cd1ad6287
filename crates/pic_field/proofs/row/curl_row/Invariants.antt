use Rattle.std.proofs.Common.{◌≡◌, ◌+◌, ◌<◌, ◌≤◌, ◌-ℤ◌, ℕ}
use Rattle.pic_field.specs.Rows.{row_at, curl_at, IsSmallRow}
use Rattle.pic_field.proofs.row.curl_row.Given as goal

abbrev pub invariant-loop-i : goal.invariant-loop-i
invariant-loop-i l = record {
  values : (k : ℕ) → k < l.i → row_at l.row k ≡ row_at l.initial.row k -ℤ curl_at l.four k;
  rest : (k : ℕ) → l.i ≤ k → row_at l.row k ≡ row_at l.initial.row k;
  small : IsSmallRow (l.sizes + 1) l.i l.row;
}
