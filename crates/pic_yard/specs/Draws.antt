-- What a draw tells its caller.
use Rattle.std.specs.Prelude.{◌≡◌, ℕ, ◌<◌, ◌≤◌}
use Rattle.pic_tile.specs.Directions.{directions}
use Rattle.pic_tile.specs.Tile.{tile_in}
use Rattle.pic_yard.specs.declared.opening.Opening.{Opening}
use Rattle.pic_yard.specs.declared.view.View.{View}
use Rattle.pic_yard.specs.Claims.{ClaimValue}
use Rattle.pic_yard.specs.Contents.{tiles_in, to_of}
use Rattle.pic_yard.specs.Steps.{did_claim, was_told}

-- the claim of a tile, which is as it was at the start
pub record IsUnworked (o : Opening) (claim : ClaimValue) : Type 0 where
  pub tile : claim.number < tiles_in o
  pub held : claim.held ≡ tile_in o.tiles.items claim.number

-- the seat drew the number of a tile, above its draws before, and claimed it
pub record HasClaimed (o : Opening) (old new : View) (claim : ClaimValue) : Type 0 where
  pub later : old.drawn ≤ claim.number
  pub claim_is : IsUnworked o claim
  pub view : new ≡ did_claim (to_of o) directions claim.number old

-- the seat drew a number above its draws before that is past the last tile, and was told so
pub record WasTold (o : Opening) (old new : View) : Type 0 where
  pub number : ℕ
  pub later : old.drawn ≤ number
  pub past : tiles_in o ≤ number
  pub view : new ≡ was_told number old
