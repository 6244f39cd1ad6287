-- One of some layers.
use Rattle.std.specs.Prelude.{ℕ, ℤ, pos, ◌+ℤ◌, ◌≤ℤ◌, ◌<ℤ◌}

-- the layer c is one of n from low on
abbrev pub IsOneOf : ℤ → ℕ → ℤ → Type 0
IsOneOf low n c = (low ≤ℤ c) × (c <ℤ (low +ℤ pos n))
