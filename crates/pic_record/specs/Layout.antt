-- What the frames and the end record of a dump depend on, of its header.
use Rattle.std.specs.Prelude.{◌≡◌, ℕ, suc, ◌-◌, ◌≤◌, nat_lt, if◌then◌else◌, List, [], ◌∷◌, length, map, sum, All}
use Rattle.pic_num.specs.declared.motion.Kind.{Kind}
use Rattle.pic_num.specs.declared.mult.Scales.{Scales}
use Rattle.pic_num.specs.Limits.{least_side, most_side, most_filter, most_species, most_particles, most_charge}
use Rattle.pic_num.specs.Sizes.{IsAtMost}
use Rattle.pic_num.specs.Space.{Triple}
use Rattle.pic_block.specs.Cells.{Grid, IsCells}
use Rattle.pic_energy.specs.Energies.{HasMass}
use Rattle.pic_header.specs.Header.{HeaderView}
use Rattle.pic_header.specs.Limits.{most_steps}

-- the numbers of cells, the side of a cell, the steps, after how many of them a frame is due, the filter of
-- the current, the multipliers, and the kinds and the numbers of particles of the species
pub record LayoutView : Type 0 where
  pub cells : Triple
  pub side : ℕ
  pub steps : ℕ
  pub every : ℕ
  pub filter : ℕ
  pub scales : Scales
  pub kinds : List Kind
  pub counts : List ℕ

-- the layout of these parts
abbrev pub layout_with : Grid → ℕ → ℕ → ℕ → Scales → List Kind → List ℕ → LayoutView
layout_with grid steps every filter scales kinds counts = record {
  cells = grid.n;
  side = grid.side;
  steps = steps;
  every = every;
  filter = filter;
  scales = scales;
  kinds = kinds;
  counts = counts;
}

-- that of a header
abbrev pub layout_of : HeaderView → LayoutView
layout_of h = record {
  cells = h.cells;
  side = h.side;
  steps = h.steps;
  every = h.every;
  filter = h.filter;
  scales = h.scales;
  kinds = map (λ s. s.kind) h.species;
  counts = map (λ s. s.count) h.species;
}

-- its limits
pub record IsLayout (l : LayoutView) : Type 0 where
  pub cells : IsCells l.cells
  pub side_least : least_side ≤ l.side
  pub side_most : l.side ≤ most_side
  pub steps : l.steps ≤ most_steps
  pub every_least : 1 ≤ l.every
  pub every_most : l.every ≤ most_steps
  pub filter : l.filter ≤ most_filter
  pub masses : All HasMass l.kinds
  pub charges : All (λ (k : Kind). IsAtMost k.charge most_charge) l.kinds
  pub species : length l.kinds ≡ length l.counts
  pub few : length l.counts ≤ most_species
  pub total : sum l.counts ≤ most_particles

-- the species of a particle, by the numbers of particles of the species: the particles of the first
-- species come first, and so on
abbrev pub species_of : List ℕ → ℕ → ℕ
species_of [] i = 0
species_of (count ∷ counts) i = if nat_lt i count then 0 else suc (species_of counts (i - count))
