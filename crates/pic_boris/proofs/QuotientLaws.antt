-- A quotient that its remainder shows.
use Rattle.std.proofs.Common.{◌≡◌, ◌^◌, [], ◌∷◌, arith}
use Rattle.std.proofs.Math.IntN.{ℤ, pos, ◌+ℤ◌, ◌-ℤ◌, ◌*ℤ◌}
use Rattle.std.proofs.lemmas.Int.{ints}
use Rattle.std.specs.Prelude.{◌<ℤ◌, ◌≤ℤ◌}
use Rattle.pic_num.specs.Rounding.{rounded}
use Rattle.pic_num.specs.Sizes.{IsAtMost}
use Rattle.pic_num.proofs.Ring.{ring, reads}
use Rattle.pic_num.proofs.RoundingLaws.{rounded-unique, rounded-size}
use Rattle.pic_num.proofs.SizeLaws.{codes, code_at_most}

-- where r leaves of 2 n + d at least 0 and less than 2 d, it is the rounded quotient of n and d
pub by_rest : (n d r rest : ℤ) → pos 0 <ℤ d → rest ≡ (pos 2 *ℤ n +ℤ d) -ℤ r *ℤ (pos 2 *ℤ d) → pos 0 ≤ℤ rest → rest <ℤ (pos 2 *ℤ d)
    → r ≡ rounded n d
by_rest n d r rest some is low high =
    let twice : r *ℤ (pos 2 *ℤ d) ≡ pos 2 *ℤ r *ℤ d = ring (r ∷ d ∷ []) (search reads depth 40 fits 9000) tt in
    rounded-unique n d r some (record { above = omega (arith, ints, is, high, twice); below = omega (arith, ints, is, low, twice) })

-- how large the quotient of the whole turn is
pub turn_size : (w d : ℤ) → IsAtMost w (2 ^ 49) → pos (2 ^ 40) ≤ℤ d → IsAtMost (rounded (pos (2 ^ 21) *ℤ w) d) (2 ^ 30)
turn_size w d h least =
    let n : IsAtMost (pos (2 ^ 21) *ℤ w) (2 ^ 70) = code_at_most (search codes depth 6) tt in
    record { size = rounded-size (pos (2 ^ 21) *ℤ w) d (2 ^ 30) (2 ^ 40) (omega arith) least (omega (arith, n.size)) }

pub dividend_is : (w d : ℤ) → pos (2 ^ 22) *ℤ w +ℤ d ≡ pos 2 *ℤ (pos (2 ^ 21) *ℤ w) +ℤ d
dividend_is w d = omega (arith, ints)
