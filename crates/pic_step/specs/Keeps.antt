-- What a step keeps of a state.
use Rattle.std.specs.Prelude.{◌≡◌, suc}
use Rattle.pic_num.specs.Space.{Triple}
use Rattle.pic_block.specs.Cells.{IsWithin}
use Rattle.pic_grid.specs.Differences.{div_b}
use Rattle.pic_grid.specs.Lattice.{value_at}
use Rattle.pic_charge.specs.Gauss.{MeetsGauss}
use Rattle.pic_step.specs.SerialStep.{World, e_of, b_of, next_world}
use Rattle.pic_step.specs.Sound.{IsSound}

-- from a state to the next: it is after one step more; the side of a cell, the numbers of cells, the
-- filter, the loops, the multipliers and the species stay, Gauss's law holds at every node, and the
-- divergence of B is what it was in every cell
pub record Keeps (w next : World) : Type 0 where
  pub step : next.step ≡ suc w.step
  pub side : next.side ≡ w.side
  pub cells : next.cells ≡ w.cells
  pub filter : next.filter ≡ w.filter
  pub loops : next.loops ≡ w.loops
  pub scales : next.scales ≡ w.scales
  pub kinds : next.kinds ≡ w.kinds
  pub gauss : MeetsGauss next.side next.filter next.cells next.kinds next.particles
      (e_of next)
  pub magnetic : (p : Triple) → IsWithin p w.cells
      → div_b w.cells (value_at (b_of next)) p ≡ div_b w.cells (value_at (b_of w)) p

-- so does every step of a sound state, whether it stops or not
abbrev pub EveryStepKeeps : Type 0
EveryStepKeeps = (w : World) → IsSound w → Keeps w (next_world w)
