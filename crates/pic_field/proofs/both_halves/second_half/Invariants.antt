use Rattle.std.proofs.Common.{◌≡◌, ◌+◌, ◌<◌, ◌≤◌, ◌+ℤ◌, ◌-ℤ◌, ℕ}
use Rattle.pic_num.specs.Rounding.{scaled}
use Rattle.pic_field.specs.Rows.{row_at, IsSmallRow}
use Rattle.pic_field.proofs.both_halves.second_half.Given as goal

abbrev pub invariant-loop-i : goal.invariant-loop-i
invariant-loop-i l = record {
  values : (k : ℕ) → k < l.i
      → row_at l.values k ≡ row_at l.initial.values k +ℤ row_at l.initial.values k -ℤ row_at l.initial.force k;
  forced : (k : ℕ) → k < l.i → row_at l.force k ≡ scaled (row_at l.initial.values k) l.fn.by;
  rest : (k : ℕ) → l.i ≤ k → row_at l.values k ≡ row_at l.initial.values k;
  force_rest : (k : ℕ) → l.i ≤ k → row_at l.force k ≡ row_at l.initial.force k;
  small : IsSmallRow (l.sizes + 1) l.i l.values;
}
