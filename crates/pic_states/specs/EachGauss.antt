-- Gauss's law in the states of a run.
use Rattle.std.specs.Prelude.{◌≡◌, ℕ, Ok}
use Rattle.pic_charge.specs.Gauss.{MeetsGauss}
use Rattle.pic_step.specs.SerialStep.{World, e_of}
use Rattle.pic_step.specs.SerialRun.{after}
use Rattle.pic_step.specs.Sound.{IsSound}

-- Gauss's law, at every node of a state
abbrev pub IsGauss : World → Type 0
IsGauss w = MeetsGauss w.side w.filter w.cells w.kinds w.particles (e_of w)

-- Gauss's law, at every node of every state of a serial run
pub record EachGauss (w : World) : Type 0 where
  pub after_step : (step : ℕ) (v : World) → after w step ≡ Ok v → IsGauss v

-- every state of a serial run that begins in a sound state meets Gauss's law
abbrev pub EveryStateMeetsGauss : Type 0
EveryStateMeetsGauss = (w : World) → IsSound w → EachGauss w
