use Rattle.std.specs.Prelude.{ℤ, pos, ◌+ℤ◌, ◌*ℤ◌}

-- 12 times the charge q that a straight segment carries through one edge: its way along the edge
-- times the integral of the edge's weight over the segment, by Simpson's rule (the weight is a
-- product of two linear weights, so the rule is exact). a0, a1 and b0, b1 are the weights of the two
-- other axes at the segment's start and end. It is 12 times the current of Villasenor and Buneman
-- (Comput. Phys. Commun. 69, 1992, 306).
unfoldable pub simpson : ℤ → ℤ → ℤ → ℤ → ℤ → ℤ → ℤ
simpson q way a0 a1 b0 b1 = q *ℤ way *ℤ pos 2 *ℤ (a0 *ℤ b0 +ℤ (a0 +ℤ a1) *ℤ (b0 +ℤ b1) +ℤ a1 *ℤ b1)
