-- How far the pieces of a path go (this project's profile).
use Rattle.std.specs.Prelude.{ℕ, ◌+◌, ◌≤◌, ◌-ℤ◌, unsigned_abs, List, [], ◌∷◌}
use Rattle.pic_num.specs.declared.axis.Axis.{Axis}
use Rattle.pic_num.specs.Space.{along}
use Rattle.pic_grid.specs.Segment.{Piece}

-- the sizes of the pieces' ways along an axis, added up
unfoldable pub ways : Axis → List Piece → ℕ
ways a [] = 0
ways a (s ∷ ss) = unsigned_abs (along a s.to -ℤ along a s.from) + ways a ss

-- the pieces go at most m along each axis
abbrev pub GoAtMost : ℕ → List Piece → Type 0
GoAtMost m ss = (a : Axis) → ways a ss ≤ m
