-- How a deck writes a row of a field, a particle and a place that is watched: as arrays of numbers.
use Rattle.std.specs.Prelude.{◌≡◌, ℤ, pos, List, [], ◌∷◌, length, slice_index, slice_index_or}
use Rattle.toml.specs.Data.{Data, array}
use Rattle.pic_num.specs.Space.{Triple, axis_number}
use Rattle.pic_block.specs.Cells.{Grid}
use Rattle.pic_walk.specs.declared.point6.Point6.{Point6}
use Rattle.pic_walk.specs.declared.row.Row.{Row}
use Rattle.pic_walk.specs.Points.{IsPoint}
use Rattle.pic_walk.specs.Rows.{IsRow}
use Rattle.pic_devices.specs.declared.place.Place.{Place}
use Rattle.pic_devices.specs.Probes.{IsPlace}
use Rattle.pic_deck_laws.specs.Spelling.{spelled, integers}

-- a row of a field, [axis, i, j, k, value]
abbrev pub row_numbers : Row → List ℤ
row_numbers r =
    pos (axis_number r.axis) ∷ pos (slice_index r.cell 0) ∷ pos (slice_index r.cell 1) ∷ pos (slice_index r.cell 2) ∷ r.value ∷ []

-- a particle, [x, y, z, vx, vy, vz]
abbrev pub point_numbers : Point6 → List ℤ
point_numbers p =
    pos (slice_index p.x 0) ∷ pos (slice_index p.x 1) ∷ pos (slice_index p.x 2)
    ∷ slice_index_or p.v 0 (pos 0) ∷ slice_index_or p.v 1 (pos 0) ∷ slice_index_or p.v 2 (pos 0) ∷ []

-- a place, [field, axis, i, j, k]
abbrev pub place_numbers : Place → List ℤ
place_numbers p =
    pos p.field ∷ pos (axis_number p.axis) ∷ pos (slice_index p.cell 0) ∷ pos (slice_index p.cell 1) ∷ pos (slice_index p.cell 2) ∷ []

-- an array of arrays of numbers
abbrev pub rows : {A : Type 0} → (A → List ℤ) → List A → Data
rows numbers xs = array (spelled (λ a. integers (numbers a)) xs)

-- a row of a field on n cells
pub record IsFieldRow (n : Triple) (r : Row) : Type 0 where
  pub allowed : IsRow n r
  pub three : length r.cell ≡ 3

-- a particle in the box of a grid
pub record IsParticle (g : Grid) (p : Point6) : Type 0 where
  pub allowed : IsPoint g p
  pub places : length p.x ≡ 3
  pub speeds : length p.v ≡ 3

-- a place on n cells
pub record IsWatched (n : Triple) (p : Place) : Type 0 where
  pub allowed : IsPlace n p
  pub three : length p.cell ≡ 3
