-- The serial run: the states after 0, 1, 2 .. steps, up to the first stop.
use Rattle.std.specs.Prelude.{◌≡◌, ⊤, ℕ, zero, suc, ◌+◌, List, map, Result, Ok, Err}
use Rattle.pic_num.specs.declared.motion.Kind.{Kind}
use Rattle.pic_num.specs.declared.motion.Particle.{Particle}
use Rattle.pic_grid.specs.declared.stop.Stop.{Stop}
use Rattle.pic_grid.specs.declared.stop.EndMark.{EndMark}
use Rattle.pic_grid.specs.declared.stop.EndMark.TheVariants.{Stopped}
use Rattle.pic_grid.specs.Lattice.{values_of}
use Rattle.pic_deck.specs.declared.species.Species.{Species}
use Rattle.pic_deck.specs.Deck.{DeckView, deck_grid, initial_e, initial_b}
use Rattle.pic_step.specs.declared.stepping.StepStop.{StepStop}
use Rattle.pic_step.specs.declared.stepping.StepStop.TheVariants as step_stop
use Rattle.pic_step.specs.SerialStep.{World, world_of, stepped}
use Rattle.pic_step.specs.StateView.{StateView}

-- what the particles of each species of a deck have in common
abbrev pub kinds_of : DeckView → List Kind
kinds_of d = map (λ (s : Species). s.kind) d.species

-- the state that a deck without displaced species begins with, with these particles
abbrev pub start_of : DeckView → List Particle → World
start_of d particles =
    world_of 0 (deck_grid d) d.filter d.loops d.scales (kinds_of d) (values_of d.cells (initial_e d))
    (values_of d.cells (initial_b d)) particles

-- a step answers the state after it, or what stops it, or want of memory
abbrev pub Steps : World → Result StateView StepStop → Type 0
Steps w (Ok next) = stepped w ≡ Ok next.world
Steps w (Err (step_stop.Stop stop)) = stepped w ≡ Err stop
Steps w (Err step_stop.NoMemory) = ⊤

-- a step's outcome, or where the run stopped in it
abbrev pub stopped_in : ℕ → Result World Stop → Result World EndMark
stopped_in step (Ok w) = Ok w
stopped_in step (Err stop) = Err (Stopped step stop)

-- one step more, from where the run stands
abbrev pub step_from : Result World EndMark → Result World EndMark
step_from (Ok w) = stopped_in (suc w.step) (stepped w)
step_from (Err end) = Err end

-- where a run stands after so many steps more: the state, or where it stopped before
unfoldable pub after : World → ℕ → Result World EndMark
after w zero = Ok w
after w (suc steps) = step_from (after w steps)

-- steps add up: a run goes on from the state that it has reached as one that begins there
abbrev pub StepsAddUp : Type 0
StepsAddUp = (w v : World) (m n : ℕ) → after w m ≡ Ok v → after w (m + n) ≡ after v n

-- each is counted
abbrev pub StepsAreCounted : Type 0
StepsAreCounted = (w v : World) (n : ℕ) → after w n ≡ Ok v → v.step ≡ w.step + n

-- and a run that has stopped stays so
abbrev pub EndsStay : Type 0
EndsStay = (w : World) (end : EndMark) (m n : ℕ) → after w m ≡ Err end → after w (m + n) ≡ Err end
