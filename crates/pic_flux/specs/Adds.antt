-- What a deposition does to the values of a block, and the room that it needs there (this project's
-- profile; the flux itself is that of Villasenor and Buneman).
use Rattle.std.specs.Prelude.{◌≡◌, ℕ, ℤ, ◌^◌, ◌<◌, ◌+◌, ◌+ℤ◌, unsigned_abs}
use Rattle.pic_num.specs.declared.axis.Axis.{Axis}
use Rattle.pic_num.specs.Space.{Spot}
use Rattle.pic_block.specs.Block.{BlockValues, InZone, AllAtMost, edge_at}

-- at every edge of the zone the new value is the old one plus what f gives there. A block has no
-- other values, so where its zone stays too, nothing else changes.
pub record Adds (old now : BlockValues) (f : Axis → Spot → ℤ) : Type 0 where
  pub at :
      (a : Axis) (c : Spot) → InZone old.low old.size c → edge_at now a c ≡ edge_at old a c +ℤ f a c

-- what every sum of flux stays below, in twelfths of a charge times a cubic sub-cell
abbrev pub flux_limit : ℕ
flux_limit = 2 ^ 83

-- at every edge of the zone the value and what f gives there add up to less than that
pub record SumsBelow (old : BlockValues) (f : Axis → Spot → ℤ) : Type 0 where
  pub at :
      (a : Axis) (c : Spot) → InZone old.low old.size c
      → unsigned_abs (edge_at old a c +ℤ f a c) < flux_limit

-- the values of a block grow by at most m
abbrev pub GrowsBy : ℕ → BlockValues → BlockValues → Type 0
GrowsBy m old now = (n : ℕ) → AllAtMost n old → AllAtMost (n + m) now
