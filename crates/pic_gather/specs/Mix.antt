-- Two numbers under the weights of a pair.
use Rattle.std.specs.Prelude.{ℤ, ℕ, ◌+◌, ◌*◌, ◌^◌, ◌≤◌}
use Rattle.pic_num.specs.Sizes.{IsAtMost}
use Rattle.pic_grid.specs.declared.pair.Pair.{Pair}

-- a word has room for their sum, by a bound of both
pub record HaveRoom (a b : ℤ) (w : Pair) : Type 0 where
  pub most : ℕ
  pub low : IsAtMost a most
  pub high : IsAtMost b most
  pub room : most * (w.low_weight + w.high_weight) ≤ 2 ^ 62
