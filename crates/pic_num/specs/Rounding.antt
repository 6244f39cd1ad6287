-- Roundings, this project's profile: the nearest whole number, a half going up; truncation
-- towards 0; the residue of a position. Each stands here as a value and as the relation that has it
-- as its one solution.
use Rattle.std.specs.Prelude.{◌≡◌, ℤ, pos, ℕ, ◌+◌, ◌*◌, ◌^◌, ◌<◌, ◌≤◌, ◌+ℤ◌, ◌-ℤ◌, ◌*ℤ◌, ◌<ℤ◌, ◌≤ℤ◌, unsigned_abs, int_div}
use Rattle.std.specs.Int.{int_div_euclid, int_rem_euclid}
use Rattle.pic_num.specs.Multiplier.{Multiplier}

-- r is the nearest whole number to n / d, for d above 0, a half going up: 2n - d < 2rd <= 2n + d
pub record IsRounded (n d r : ℤ) : Type 0 where
  pub above : (pos 2 *ℤ n -ℤ d) <ℤ (pos 2 *ℤ r *ℤ d)
  pub below : (pos 2 *ℤ r *ℤ d) ≤ℤ (pos 2 *ℤ n +ℤ d)

-- that number: the floor of n / d + 1/2
unfoldable pub rounded : ℤ → ℤ → ℤ
rounded n d = int_div_euclid (pos 2 *ℤ n +ℤ d) (pos 2 *ℤ d)

-- v times the multiplier n / 2^k, rounded once
unfoldable pub scaled : ℤ → Multiplier → ℤ
scaled v by = rounded (v *ℤ by.n) (pos (2 ^ by.k))

-- r is n / d with its fraction dropped towards 0, for d other than 0
pub record IsTruncated (n d r : ℤ) : Type 0 where
  pub least : unsigned_abs r * unsigned_abs d ≤ unsigned_abs n
  pub most : unsigned_abs n < (unsigned_abs r + 1) * unsigned_abs d
  -- r is 0 or has the quotient's sign
  pub sign : pos 0 ≤ℤ (r *ℤ n *ℤ d)

-- that number
unfoldable pub truncated : ℤ → ℤ → ℤ
truncated n d = int_div n d

-- r is the residue of p modulo len: below len, and whole lens away from p
pub record IsResidue (p : ℤ) (len r : ℕ) : Type 0 where
  pub below : r < len
  pub turns : (m : ℤ) × (p ≡ m *ℤ pos len +ℤ pos r)

-- that number
unfoldable pub residue : ℤ → ℕ → ℕ
residue p len = unsigned_abs (int_rem_euclid p (pos len))
