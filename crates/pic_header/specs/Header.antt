-- What the header of a dump says, and its limits: this project's profile.
use Rattle.std.specs.Prelude.{◌≡◌, ℕ, ◌≤◌, List, All, length}
use Rattle.pic_num.specs.declared.motion.Kind.{Kind}
use Rattle.pic_num.specs.declared.mult.Scales.{Scales}
use Rattle.pic_num.specs.Limits.{allowance_of}
use Rattle.pic_num.specs.Multiplier.{IsMultiplier}
use Rattle.pic_num.specs.Space.{Triple}
use Rattle.pic_num.specs.Versions.{IsVersion, IsGridOf}
use Rattle.pic_block.specs.Cells.{IsCells}
use Rattle.pic_grid.specs.declared.loops.Loop.{Loop}
use Rattle.pic_grid.specs.Loops.{AreLoops}
use Rattle.pic_grid.specs.Species.{HeadView, AreHeads}
use Rattle.pic_header.specs.declared.header.HeaderSettings.{HeaderSettings}
use Rattle.pic_header.specs.Limits.{most_steps}

-- a header: the version of its dump, the numbers of cells, the side of a cell, the steps, after how many
-- of them a frame is due, the filter of the current, the multipliers, the species, and the driven loops
pub record HeaderView : Type 0 where
  pub version : ℕ
  pub cells : Triple
  pub side : ℕ
  pub steps : ℕ
  pub every : ℕ
  pub filter : ℕ
  pub scales : Scales
  pub species : List HeadView
  pub loops : List Loop

-- the header of these parts
abbrev pub header_with : HeaderSettings → List HeadView → List Loop → HeaderView
header_with settings species loops = record {
  version = settings.version;
  cells = settings.cells.n;
  side = settings.cells.side;
  steps = settings.steps;
  every = settings.every;
  filter = settings.filter;
  scales = settings.scales;
  species = species;
  loops = loops;
}

-- a header with another number of steps
abbrev pub with_steps : ℕ → HeaderView → HeaderView
with_steps steps h = record h { steps = steps }

-- the header of the version 2 spelling: that of a dump of version 2 is itself
abbrev pub upgraded : HeaderView → HeaderView
upgraded h = record h { version = 2 }

-- numbers of cells that a version allows
pub record AreCellsOf (version : ℕ) (n : Triple) : Type 0 where
  pub cells : IsCells n
  pub x : n.x ≤ (allowance_of version).cells
  pub y : n.y ≤ (allowance_of version).cells
  pub z : n.z ≤ (allowance_of version).cells

-- the limits of the version, and by it of the grid, of the species and of the loops; and those of the steps
pub record HasLimits (h : HeaderView) : Type 0 where
  pub version : IsVersion h.version
  pub grid : IsGridOf h.version h.cells h.side
  pub steps_most : h.steps ≤ most_steps
  pub every_least : 1 ≤ h.every
  pub every_most : h.every ≤ most_steps
  pub filter : h.filter ≤ (allowance_of h.version).filter
  pub heads : AreHeads (allowance_of h.version).particles h.species
  pub loops : AreLoops h.cells (allowance_of h.version).loops h.loops

-- the limits of the four multipliers
pub record AreMultipliers (s : Scales) : Type 0 where
  pub e_to_b : IsMultiplier s.e_to_b
  pub b_to_e : IsMultiplier s.b_to_e
  pub e_force : IsMultiplier s.e_force
  pub b_force : IsMultiplier s.b_force

-- the limits of the multipliers of a species
pub record HasMultipliers (k : Kind) : Type 0 where
  pub kick : IsMultiplier k.kick
  pub turn : IsMultiplier k.turn

-- what the type of a header keeps: no number of it is outside the limits of a dump, and the cell of a loop has
-- a number on each axis
pub record IsHeader (h : HeaderView) : Type 0 where
  pub limits : HasLimits h
  pub cells : IsCells h.cells
  pub scales : AreMultipliers h.scales
  pub kinds : All (λ s. HasMultipliers s.kind) h.species
  pub axes : All (λ l. length l.cell ≡ 3) h.loops
