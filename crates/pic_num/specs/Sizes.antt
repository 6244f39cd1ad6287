use Rattle.std.specs.Prelude.{ℤ, ℕ, ◌≤◌, unsigned_abs}

-- the number is at most n in size: the one way in which clauses bound a signed number
pub record IsAtMost (z : ℤ) (n : ℕ) : Type 0 where
  pub size : unsigned_abs z ≤ n
