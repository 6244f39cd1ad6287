-- Both half steps of B of a step, over blocks: beside each block of B stands one of its zone, which
-- has the force values between the two afterwards. E stays between them.
use Rattle.std.specs.Prelude.{◌≡◌, ℕ, List, length, Option, None, Result, Ok, Err}
use Rattle.pic_num.specs.declared.mult.Scales.{Scales}
use Rattle.pic_num.specs.Push.{unless}
use Rattle.pic_num.specs.Space.{Triple}
use Rattle.pic_block.specs.Block.{BlockValues, IsShaped}
use Rattle.pic_grid.specs.declared.stop.Phase.{Phase}
use Rattle.pic_grid.specs.declared.stop.Phase.TheVariants.{Half1, Half2}
use Rattle.pic_grid.specs.declared.stop.Stop.{Stop}
use Rattle.pic_grid.specs.Gather.{force_of}
use Rattle.pic_grid.specs.Lattice.{Field, value_at, field_of}
use Rattle.pic_field.specs.FieldPhases.{half_of, stop_of_half, stop_of_second, IsTwiceHalved, IsForceBetween}
use Rattle.pic_advance.specs.declared.half_steps.Halves.{Halves}
use Rattle.pic_advance.specs.Blocks.{CanAdvance, block_in, earliest}
use Rattle.pic_advance.specs.Pairs.{EachPair}
use Rattle.pic_advance.specs.Phases.{Advances}

-- a block b that lies among n cells can take both half steps, beside f: f has its zone
pub record CanHalve (n : Triple) (b f : BlockValues) : Type 0 where
  pub advance : CanAdvance n b
  pub zone : IsShaped f b

-- a block b after both, c, and g beside it: the values are known where the first half step has no
-- stop
pub record AreHalves (scales : Scales) (e : Field) (b f c g : BlockValues) : Type 0 where
  pub shaped : IsShaped c b
  pub beside_shaped : IsShaped g b
  pub values : stop_of_half Half1 scales e b ≡ None → IsTwiceHalved scales e b c
  pub forces : stop_of_half Half1 scales e b ≡ None → IsForceBetween scales e b g

-- the stop of the first half step in a block of a row, and that of the second
abbrev pub first_stop : Scales → Field → List BlockValues → ℕ → Option Stop
first_stop scales e bs i = stop_of_half Half1 scales e (block_in bs i)

abbrev pub second_stop : Scales → Field → List BlockValues → ℕ → Option Stop
second_stop scales e bs i = stop_of_second scales e (block_in bs i)

-- so is each of some blocks; the first of two stops is the least of their first half steps, and
-- where there is none the second is the least of the others
pub record AreHalved (scales : Scales) (e : Field) (bs fs cs gs : List BlockValues)
    (stops : Option Stop × Option Stop) : Type 0
  where
    pub pairs : EachPair (AreHalves scales e) bs fs cs gs
    pub first : stops.0 ≡ earliest (first_stop scales e bs) (length bs)
    pub second : stops.0 ≡ None → stops.1 ≡ earliest (second_stop scales e bs) (length bs)

-- B between both half steps
abbrev pub between : Scales → Field → Field → Field
between scales e b =
    field_of e.side e.cells b.parts (λ a p. half_of scales e a p (value_at b a p))

-- half a step of a lattice of B in a phase answers r
abbrev pub HalfStep : Phase → Scales → Field → Field → Result Field Stop → Type 0
HalfStep phase scales e b =
    Advances phase scales.b_force e.side e.cells b.parts
    (λ a p. half_of scales e a p (value_at b a p))

-- both half steps of a lattice of B: the first one's stop, or else the force values between them,
-- and what the second one answers
abbrev pub HalfSteps : Scales → Field → Field → Result Halves Stop → Type 0
HalfSteps scales e b (Err stop) = HalfStep Half1 scales e b (Err stop)
HalfSteps scales e b (Ok h) =
    HalfStep Half1 scales e b (Ok (between scales e b))
    × (h.force ≡ field_of e.side e.cells b.parts
    (force_of scales.b_force (value_at (between scales e b))))
    × HalfStep Half2 scales e (between scales e b) (unless h.stop h.b)
