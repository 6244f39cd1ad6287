-- The columns of a state's line, read back from it: this project's profile.
use Rattle.std.specs.Prelude.{◌≡◌, ℤ, ℕ, ◌+◌, ◌-◌, ◌*◌, ◌<◌, ◌==◌, List, [], length, take, slice_index, slice_index_or}
use Rattle.std.specs.Fmt.{decimal, signed_decimal}
use Rattle.std.specs.List.{slice_split}
use Rattle.pic_num.specs.declared.axis.Axis.{Axis}
use Rattle.pic_num.specs.declared.axis.Axis.TheVariants.{X}
use Rattle.pic_num.specs.declared.motion.Particle.{Particle}
use Rattle.pic_num.specs.Space.{Triple}
use Rattle.pic_devices.specs.declared.place.Place.{Place}
use Rattle.pic_devices.specs.declared.probes.Probes.{Probes}
use Rattle.pic_probe.specs.ProbeLine.{value_of, particle_with, track_of, probe_line}

-- a place that isn't there
abbrev pub no_place : Place
no_place = record { field = 0; axis = X; cell = [] }

-- what stands between the spaces of a line, its line feed left out
abbrev pub words_of : List ℕ → List (List ℕ)
words_of line = slice_split (λ b. b == 32) (take (length line - 1) line)

-- these words are the columns of a state: the step, then one for each place, its value, then six for each identity,
-- the position and the velocity of its particle
pub record AreColumns (probes : Probes) (step : ℕ) (e b : Axis → Triple → ℤ) (particles : List Particle) (words : List (List ℕ)) : Type 0 where
  pub count : length words ≡ 1 + (length probes.places + 6 * length probes.ids)
  pub first : slice_index_or words 0 [] ≡ decimal step
  pub values : (k : ℕ) → k < length probes.places → slice_index_or words (1 + k) [] ≡ signed_decimal (value_of e b (slice_index_or probes.places k no_place))
  pub tracks : (k j : ℕ) → k < length probes.ids → j < 6 → slice_index_or words (1 + (length probes.places + (6 * k + j))) []
      ≡ slice_index_or (track_of (particle_with particles (slice_index probes.ids k))) j []

-- the words of a state's line are its columns
abbrev pub LinesHaveColumns : Type 0
LinesHaveColumns =
    (probes : Probes) (step : ℕ) (e b : Axis → Triple → ℤ) (particles : List Particle)
    → AreColumns probes step e b particles (words_of (probe_line probes step e b particles))
