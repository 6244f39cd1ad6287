-- What a run begins with: its first state, and the test of Gauss's law.
use Rattle.std.specs.Prelude.{List, Option}
use Rattle.pic_num.specs.declared.motion.Particle.{Particle}
use Rattle.pic_grid.specs.Differences.{div_e}
use Rattle.pic_grid.specs.Lattice.{value_at, values_of}
use Rattle.pic_charge.specs.declared.breaks.Break.{Break}
use Rattle.pic_charge.specs.Charge.{rho_of}
use Rattle.pic_charge.specs.Gauss.{first_break}
use Rattle.pic_deck.specs.Deck.{DeckView}
use Rattle.pic_load.specs.Loading.{loaded}
use Rattle.pic_displace.specs.Displace.{displaced_e}
use Rattle.pic_step.specs.SerialStep.{World, e_of}
use Rattle.pic_step.specs.SerialRun.{start_of}

-- the state that a deck begins with, with these particles, and E as their displaced start leaves it
abbrev pub displaced_start : DeckView → List Particle → World
displaced_start d particles =
    record (start_of d particles) { e = values_of d.cells (displaced_e d particles) }

-- the state 0 of a deck's run: its fields and its particles
abbrev pub first_state : DeckView → World
first_state d = displaced_start d (loaded d)

-- the least node of a state, x fastest, where the divergence of E and the charge differ
unfoldable pub state_break : World → Option Break
state_break w =
    first_break w.cells (div_e w.cells (value_at (e_of w)))
    (rho_of w.side w.filter w.cells w.kinds w.particles)
