-- What a seat is given.
use Rattle.std.specs.Prelude.{ℕ}
use Rattle.pic_tile.specs.Tile.{TileValue}

-- a claim: the number of its tile, and the tile, or after its push what is still to be posted
pub record ClaimValue : Type 0 where
  pub number : ℕ
  pub held : TileValue
