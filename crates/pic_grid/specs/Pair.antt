-- Linear weights along one axis: at most two of its places have a weight of a point that isn't 0
-- (first order, "cloud in cell": Birdsall and Langdon, "Plasma Physics via Computer Simulation").
use Rattle.std.specs.Prelude.{◌≡◌, ℕ, ◌+◌, ◌*◌, ◌%◌, ◌<◌}
use Rattle.pic_grid.specs.Hat.{periodic_hat, only_at}
use Rattle.pic_grid.specs.declared.pair.Pair.{Pair}

-- the weights of the two cells of a pair, and 0 elsewhere
abbrev pub weight_in : Pair → ℕ → ℕ
weight_in w j = only_at w.low w.low_weight j + only_at w.high w.high_weight j

-- the two cells of a pair are among n, the high one next behind the low one round the axis, and their weights
-- add up to the side of a cell
pub record IsPair (side n : ℕ) (w : Pair) : Type 0 where
  pub low : w.low < n
  pub high : w.high < n
  pub next : w.high ≡ (w.low + 1) % n
  pub whole : w.low_weight + w.high_weight ≡ side

-- on an axis of n cells, whose places stand offset above the nodes, the pair has the weights of a point
pub record IsPairOf (side n offset point : ℕ) (w : Pair) : Type 0 where
  pub pair : IsPair side n w
  pub weights : (j : ℕ) → j < n → periodic_hat side (n * side) point (j * side + offset) ≡ weight_in w j
