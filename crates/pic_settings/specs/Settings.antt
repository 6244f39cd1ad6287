-- The limits of what a deck sets for its run.
use Rattle.std.specs.Prelude.{ℕ, ◌≤◌}
use Rattle.pic_num.specs.Limits.{most_steps, allowance_of}
use Rattle.pic_num.specs.Space.{Triple}
use Rattle.pic_num.specs.Versions.{IsVersion, IsGridOf}
use Rattle.pic_block.specs.Cells.{Grid, IsCells}
use Rattle.pic_grid.specs.Tiles.{AreTiles}
use Rattle.pic_walk.specs.Terms.{TermsView}
use Rattle.pic_settings.specs.declared.settings.Settings.{Settings}

-- what the limits of the keys behind them go by
abbrev pub terms_of : Settings → TermsView
terms_of settings = record { version = settings.version; grid = settings.cells }

-- the numbers of the tables of the grid, the run and the scales are within their limits
pub record AreSettings (v : ℕ) (g : Grid) (t : Triple) (s f smoothing : ℕ) : Type 0 where
  pub version : IsVersion v
  pub cells : IsCells g.n
  pub allowed : IsGridOf v g.n g.side
  pub tiles : AreTiles g.n t
  pub steps : s ≤ most_steps
  pub every_low : 1 ≤ f
  pub every_high : f ≤ most_steps
  pub filter : smoothing ≤ (allowance_of v).filter
