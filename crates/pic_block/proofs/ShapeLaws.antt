-- Blocks of one zone, and blocks of zeros.
use Rattle.std.proofs.Common.{◌≡◌, ℕ, ◌*◌, ◌≤◌, unsigned_abs, get_or, replicate, inl, inr, refl, ap, sym, arith}
use Rattle.std.proofs.Math.IntN.{pos}
use Rattle.std.proofs.lemmas.Bool.{cases_lt}
use Rattle.std.proofs.lemmas.List.{get_or-replicate, get_or_past, length-replicate}
use Rattle.pic_num.specs.Space.{Triple, Spot}
use Rattle.pic_block.specs.Block.{BlockValues, IsShaped, AllAtMost, inner_of}
use Rattle.pic_block.specs.Cells.{count_of, place_of}

-- a block has its own zone, and two blocks of one zone have it both ways
pub shaped_same : (b : BlockValues) → IsShaped b b
shaped_same b = record { low = refl; size = refl }

pub shaped_back : (old now : BlockValues) → IsShaped old now → IsShaped now old
shaped_back old now h = record { low = sym h.low; size = sym h.size }

-- each of so many zeros is 0, and what stands behind them too
pub zero_read : (k i : ℕ) → get_or (replicate k (pos 0)) i (pos 0) ≡ pos 0
zero_read k i = elim (cases_lt i k) [
  | inl below ↦ get_or-replicate k i (pos 0) (pos 0) below
  | inr past ↦ get_or_past (replicate k (pos 0)) i (pos 0) (omega (arith, past, length-replicate k (pos 0)))
]

read_zeros : (k i : ℕ) → unsigned_abs (get_or (replicate k (pos 0)) i (pos 0)) ≤ 0
read_zeros k i = let h = ap unsigned_abs (zero_read k i) in omega (arith, h)

-- a block of zeros
pub zeros_at_most : (low : Spot) (size : Triple)
    → AllAtMost 0 (record { low = low; size = size; values = replicate (3 * count_of size) (pos 0) })
zeros_at_most low size = record {
  at_most = λ a c z. record { size = read_zeros (3 * count_of size) (place_of size a (inner_of low c)) };
}
