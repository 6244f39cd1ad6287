-- Numbers below their limits pass the tests of their fields.
use Rattle.std.proofs.Common.{ℕ, ◌^◌, ◌<◌, ◌≤◌, arith}
use Rattle.std.proofs.lemmas.Bool.{lt-ltb}
use Rattle.pic_fields.proofs.NumberLaws.{FitsU32}
use Rattle.pic_record.specs.Fields.{is_below}

-- a number below another
pub fits_below : (high n : ℕ) → high ≤ 2 ^ 32 → n < high → FitsU32 (is_below high) n
fits_below high n small below = (omega (arith, small, below), lt-ltb n high below)
