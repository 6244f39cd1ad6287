-- What both half steps of B of a step leave of B and of what pushes the particles.
use Rattle.std.specs.Prelude.{◌≡◌, Result, Ok, Err}
use Rattle.pic_num.specs.declared.mult.Scales.{Scales}
use Rattle.pic_num.specs.Push.{unless}
use Rattle.pic_grid.specs.declared.stop.Phase.TheVariants.{Half1, Half2}
use Rattle.pic_grid.specs.declared.stop.Stop.{Stop}
use Rattle.pic_grid.specs.Gather.{force_of}
use Rattle.pic_grid.specs.Lattice.{Field, value_at, field_of}
use Rattle.pic_tile.specs.Frame.{FrameValue}
use Rattle.pic_advance.specs.Halves.{HalfStep, between}
use Rattle.pic_step.specs.declared.halving.Halved.{Halved}
use Rattle.pic_step.specs.declared.plasma.Plasma.{Plasma}

-- a frame in which the force values of B are those of a lattice, cut as that is
abbrev pub forced_by : Scales → Field → FrameValue → FrameValue
forced_by scales b f =
    record f { force_b = field_of b.side b.cells b.parts (force_of scales.b_force (value_at b)) }

-- the first half step's stop, or else the particles with the force values of B between both, and
-- what the second half step answers
abbrev pub HasHalved : Scales → Field → Field → Plasma → Result Halved Stop → Type 0
HasHalved scales e b p (Err stop) = HalfStep Half1 scales e b (Err stop)
HasHalved scales e b p (Ok h) =
    HalfStep Half1 scales e b (Ok (between scales e b))
    × (h.plasma ≡ record p { frame = forced_by scales (between scales e b) p.frame })
    × HalfStep Half2 scales e (between scales e b) (unless h.stop h.b)
