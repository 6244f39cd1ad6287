use Rattle.std.proofs.Common.{◌≡◌, ◌<◌, ◌≤◌, ◌-ℤ◌, ℕ}
use Rattle.pic_field.specs.Rows.{row_at}
use Rattle.pic_field.proofs.row.subtract.Given as goal

abbrev pub invariant-loop-i : goal.invariant-loop-i
invariant-loop-i l = record {
  values : (k : ℕ) → k < l.i → row_at l.row k ≡ row_at l.initial.row k -ℤ row_at l.by k;
  rest : (k : ℕ) → l.i ≤ k → row_at l.row k ≡ row_at l.initial.row k;
}
