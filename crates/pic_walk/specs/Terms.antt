-- What the limits of a deck go by.
use Rattle.std.specs.Prelude.{ℕ}
use Rattle.pic_block.specs.Cells.{Grid}

-- the version of a deck, and its grid
pub record TermsView : Type 0 where
  pub version : ℕ
  pub grid : Grid
