-- The divergence of a curl: the neighbours of a cell on two axes are one cell, whichever axis comes
-- first, so every value stands there once with either sign.
use Rattle.std.proofs.Common.{◌≡◌, arith}
use Rattle.std.proofs.Math.IntN.{ℤ, pos}
use Rattle.std.proofs.lemmas.Int.{ints}
use Rattle.pic_num.specs.declared.axis.Axis.{Axis}
use Rattle.pic_num.specs.Space.{Triple}
use Rattle.pic_grid.specs.Differences.{curl_b, curl_e, div_b, div_e}

pub div_b-curl_e : (n : Triple) (e : Axis → Triple → ℤ) (p : Triple) → div_b n (curl_e n e) p ≡ pos 0
div_b-curl_e n e p = omega (arith, ints)

pub div_e-curl_b : (n : Triple) (b : Axis → Triple → ℤ) (p : Triple) → div_e n (curl_b n b) p ≡ pos 0
div_e-curl_b n b p = omega (arith, ints)
