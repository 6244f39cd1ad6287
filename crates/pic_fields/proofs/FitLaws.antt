-- Numbers within their limits pass the tests of their fields, and lists of three numbers.
use Rattle.std.proofs.Common.{◌≡◌, ℕ, ℤ, ◌^◌, ◌<◌, ◌≤◌, ◌≤ℤ◌, unsigned_abs, leb, List, [], ◌∷◌, length, get_or, refl, arith}
use Rattle.std.specs.Prelude.{int_le}
use Rattle.std.proofs.lemmas.Bool.{and_from, le-leb}
use Rattle.std.proofs.lemmas.Int.{ints, fits_signed_from_abs}
use mir.Syntax.{w32, w64}
use Rattle.pic_num.specs.Sizes.{IsAtMost}
use Rattle.pic_fields.specs.Number.{is_from_to, is_between, is_at_most}
use Rattle.pic_fields.proofs.NumberLaws.{FitsU32, FitsI32, FitsI64}

-- a number from low to high
pub fits_from_to : (low high n : ℕ) → high < 2 ^ 32 → low ≤ n → n ≤ high → FitsU32 (is_from_to low high) n
fits_from_to low high n small least most = (omega (arith, small, most), and_from (leb low n) (leb n high) (le-leb low n least) (le-leb n high most))

-- a signed number from low to high
pub fits_between : (low high z : ℤ) (most : ℕ) → most < 2 ^ 31 → IsAtMost z most → low ≤ℤ z → z ≤ℤ high → FitsI32 (is_between low high) z
fits_between low high z most small size least up = (
  fits_signed_from_abs w32 z (let at_most = size.size in omega (arith, small, at_most)),
  and_from (int_le low z) (int_le z high) (grind (arith, ints, least)) (grind (arith, ints, up)),
)

-- a number at most so large in size
pub fits_at_most : (most : ℕ) (z : ℤ) → most < 2 ^ 63 → IsAtMost z most → FitsI64 (is_at_most most) z
fits_at_most most z small size = (
  fits_signed_from_abs w64 z (let at_most = size.size in omega (arith, small, at_most)),
  le-leb (unsigned_abs z) most size.size,
)

-- three numbers in a list of three
pub three_are : {A : Type 0} (d : A) (xs : List A) → length xs ≡ 3 → xs ≡ get_or xs 0 d ∷ get_or xs 1 d ∷ get_or xs 2 d ∷ []
three_are d [] size = absurd (omega (arith, size))
three_are d (x ∷ []) size = absurd (omega (arith, size))
three_are d (x ∷ (y ∷ [])) size = absurd (omega (arith, size))
three_are d (x ∷ (y ∷ (z ∷ []))) size = refl
three_are d (x ∷ (y ∷ (z ∷ (w ∷ ws)))) size = absurd (omega (arith, size))
