-- What the proofs of the marks need of the ways between tiles.
use Rattle.std.specs.Prelude.{◌≡◌, ℕ, ◌<◌}

-- the ways between tiles: in each direction another tile or the same, there and back
pub record AreWays (tiles dirs here : ℕ) (to from : ℕ → ℕ → ℕ) : Type 0 where
  pub to_below : (t d : ℕ) → t < tiles → d < dirs → to t d < tiles
  pub from_below : (r d : ℕ) → r < tiles → d < dirs → from r d < tiles
  pub back : (t d : ℕ) → t < tiles → d < dirs → from (to t d) d ≡ t
  pub forth : (r d : ℕ) → r < tiles → d < dirs → to (from r d) d ≡ r
  pub here_below : here < dirs
  pub stays : (t : ℕ) → t < tiles → to t here ≡ t
