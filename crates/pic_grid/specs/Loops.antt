-- The loops of current that drive a run, and their limits: this project's profile.
use Rattle.std.specs.Prelude.{ℕ, ◌≤◌, List, All, length}
use Rattle.pic_num.specs.Limits.{most_wave, most_drive}
use Rattle.pic_num.specs.Sizes.{IsAtMost}
use Rattle.pic_num.specs.Space.{Triple, triple}
use Rattle.pic_block.specs.Cells.{IsWithin}
use Rattle.pic_grid.specs.declared.loops.Loop.{Loop}

-- a loop round a face of one of the n cells, with a wave that isn't empty nor too long, none of whose numbers is too large
pub record IsLoop (n : Triple) (l : Loop) : Type 0 where
  pub within : IsWithin (triple l.cell) n
  pub some : 1 ≤ length l.wave
  pub most : length l.wave ≤ most_wave
  pub sizes : All (λ v. IsAtMost v most_drive) l.wave

-- the loops of a run on n cells: not too many
pub record AreLoops (n : Triple) (most : ℕ) (loops : List Loop) : Type 0 where
  pub few : length loops ≤ most
  pub each : All (IsLoop n) loops
