-- The side of a cell in the dumps of these tests.
use Rattle.std.proofs.Common.{◌≡◌, ℕ, sym, subst, arith}
use Rattle.pic_num.specs.Versions.{IsSideOf}
use Rattle.pic_num.proofs.VersionLaws.{side_of_bits}

pub side_allowed : (side : ℕ) → side ≡ 4096 → IsSideOf 1 side
side_allowed side is = subst (IsSideOf 1) (sym is) (side_of_bits 1 12 (omega arith) (omega arith))
