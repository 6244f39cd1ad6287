-- What a deck says, and the limits that its type keeps.
use Rattle.std.specs.Prelude.{ℕ, ℤ, List, map}
use Rattle.pic_num.specs.declared.mult.Scales.{Scales}
use Rattle.pic_num.specs.declared.axis.Axis.{Axis}
use Rattle.pic_num.specs.Limits.{allowance_of}
use Rattle.pic_num.specs.Space.{Triple, triple, Spot, spot}
use Rattle.pic_block.specs.Cells.{Grid}
use Rattle.pic_grid.specs.declared.loops.Loop.{Loop}
use Rattle.pic_grid.specs.Loops.{AreLoops}
use Rattle.pic_grid.specs.Species.{HeadView, AreHeads}
use Rattle.pic_walk.specs.declared.row.Row.{Row}
use Rattle.pic_walk.specs.Terms.{TermsView}
pub use Rattle.pic_walk.specs.Extent.{extent_of, most_extent, IsExtent}
use Rattle.pic_walk.specs.Rows.{AreRows}
use Rattle.pic_devices.specs.declared.devices.Devices.{Devices}
use Rattle.pic_devices.specs.declared.probes.Probes.{Probes}
use Rattle.pic_devices.specs.Probes.{AreProbes}
use Rattle.pic_settings.specs.declared.settings.Settings.{Settings}
pub use Rattle.pic_settings.specs.Settings.{AreSettings, terms_of}
use Rattle.pic_deck.specs.declared.fields.InitialFields.{InitialFields}
use Rattle.pic_deck.specs.declared.species.Species.{Species}
use Rattle.pic_deck.specs.Species.{AreFilled, head_of, particles_of}
use Rattle.pic_deck.specs.Initial.{IsMild, set_up}

-- a deck: its version, the cells of each axis, the side of a cell, the tiles of each axis, how many steps, after how
-- many a frame is due, the filter of the current, the multipliers of the fields, the uniform parts of E and B and the rows that
-- are added to them, the species, the loops that drive the run, and the probes that watch it
pub record DeckView : Type 0 where
  pub version : ℕ
  pub cells : Triple
  pub side : ℕ
  pub tiles : Triple
  pub steps : ℕ
  pub every : ℕ
  pub filter : ℕ
  pub scales : Scales
  pub e : Spot
  pub b : Spot
  pub edges : List Row
  pub faces : List Row
  pub species : List Species
  pub loops : List Loop
  pub probes : Probes

-- the deck of these parts
abbrev pub deck_view : Settings → InitialFields → List Species → Devices → DeckView
deck_view settings field species devices = record {
  version = settings.version;
  cells = settings.cells.n;
  side = settings.cells.side;
  tiles = triple settings.tiles;
  steps = settings.steps;
  every = settings.every;
  filter = settings.filter;
  scales = settings.scales;
  e = spot field.e;
  b = spot field.b;
  edges = field.edges;
  faces = field.faces;
  species = species;
  loops = devices.loops;
  probes = devices.probes;
}

-- its grid
abbrev pub deck_grid : DeckView → Grid
deck_grid d = record { n = d.cells; side = d.side }

-- what its limits go by
abbrev pub deck_terms : DeckView → TermsView
deck_terms d = record { version = d.version; grid = deck_grid d }

-- the value of E that a deck begins with, on an axis at a cell: the uniform part, and what the rows
-- of that place add up to
abbrev pub initial_e : DeckView → Axis → Triple → ℤ
initial_e d = set_up d.e d.edges

-- the same of B
abbrev pub initial_b : DeckView → Axis → Triple → ℤ
initial_b d = set_up d.b d.faces

-- the species as the dump's header has them
abbrev pub heads_of : DeckView → List HeadView
heads_of d = map head_of d.species

-- all that a deck says is within its limits
pub record IsWithinLimits (d : DeckView) : Type 0 where
  pub settings : AreSettings d.version (deck_grid d) d.tiles d.steps d.every d.filter
  pub edges : AreRows d.cells d.edges
  pub faces : AreRows d.cells d.faces
  pub heads : AreHeads (allowance_of d.version).particles (heads_of d)
  pub filled : AreFilled (deck_terms d) d.species
  pub e : IsMild d.cells d.scales.e_force (initial_e d)
  pub b : IsMild d.cells d.scales.b_force (initial_b d)
  pub loops : AreLoops d.cells (allowance_of d.version).loops d.loops
  pub probes : AreProbes d.cells (particles_of d.species) d.probes
