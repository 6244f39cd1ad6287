-- How large sums of flux are while parcels are merged.
use Rattle.std.specs.Prelude.{ℕ, Bool, List, length}
use Rattle.pic_num.specs.declared.axis.Axis.{Axis}
use Rattle.pic_num.specs.declared.motion.Particle.{Particle}
use Rattle.pic_num.specs.Limits.{most_flux_of}
use Rattle.pic_num.specs.Sizes.{IsAtMost}
use Rattle.pic_num.specs.Space.{Triple}
use Rattle.pic_grid.specs.PushPhase.{Surroundings}
use Rattle.pic_tile.specs.Receiving.{AreSummed, brought}
use Rattle.pic_tile.specs.Tiling.{Tiling}

-- whichever directions are done first, the flux that has come to an edge is at most what so many
-- particles can have at one: below 2^81 where there are 1048576 of them at most
abbrev pub SumsGrowByParticles : Type 0
SumsGrowByParticles =
    (w : Surroundings) (m : Tiling) (start : ℕ → List Particle) (particles : List Particle)
    → (done : ℕ → Bool) (r : ℕ) (a : Axis) (q : Triple)
    → AreSummed w m start particles r q
    → IsAtMost (brought w m start done r a q) (most_flux_of (length particles))
