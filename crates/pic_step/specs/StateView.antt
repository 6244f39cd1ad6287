-- What contracts see of the state of a run.
use Rattle.std.specs.Prelude.{ℕ, List}
use Rattle.pic_tile.specs.Tiling.{Tiling}
use Rattle.pic_step.specs.SerialStep.{World}

-- the state of the serial scheme, the map of its tiles, and the identities of the particles that are followed
pub record StateView : Type 0 where
  pub world : World
  pub map : Tiling
  pub followed : List ℕ
