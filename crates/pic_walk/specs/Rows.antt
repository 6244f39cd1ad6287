-- The rows of a field: their limits, and the walk of them.
use Rattle.std.specs.Prelude.{ℕ, ℤ, pos, ◌<◌, ◌≤◌, List, [], ◌∷◌, length, slice_index_or, Ok}
use Rattle.toml.specs.Data.{Data}
use Rattle.pic_num.specs.declared.axis.Axis.TheVariants.{X}
use Rattle.pic_num.specs.Space.{Triple, triple}
use Rattle.pic_block.specs.Cells.{IsWithin, axis_of}
use Rattle.pic_walk.specs.Bounds.{most_rows}
use Rattle.pic_walk.specs.declared.limits.Limits.{Limits}
use Rattle.pic_walk.specs.declared.row.Row.{Row}
use Rattle.pic_walk.specs.Limits.{MeetsLimits, from_to, below, any_limits}
use Rattle.pic_walk.specs.Walk.{Walked, ◌>>=◌, within, list_by, numbers, natural_at}

-- a row that adds nothing
abbrev pub no_row : Row
no_row = record { axis = X; cell = []; value = pos 0 }

-- a row's cell is one of the n cells, and its value is one of 64 bits
pub record IsRow (n : Triple) (r : Row) : Type 0 where
  pub within : IsWithin (triple r.cell) n
  pub value : MeetsLimits any_limits r.value

-- rows of the n cells, not too many
pub record AreRows (n : Triple) (rows : List Row) : Type 0 where
  pub few : length rows ≤ most_rows
  pub each : (k : ℕ) → k < length rows → IsRow n (slice_index_or rows k no_row)

-- the limits of a row [axis, i, j, k, value] on a grid of n cells
abbrev pub row_limits : Triple → List Limits
row_limits n = from_to (pos 0) (pos 2) ∷ below n.x ∷ below n.y ∷ below n.z ∷ any_limits ∷ []

-- the row of five numbers
abbrev pub row_from : List ℤ → Row
row_from zs = record {
  axis = axis_of (natural_at zs 0);
  cell = natural_at zs 1 ∷ natural_at zs 2 ∷ natural_at zs 3 ∷ [];
  value = slice_index_or zs 4 (pos 0);
}

-- the next row
unfoldable pub row : Triple → List Row → List ℕ → Data → Walked Row
row n done path d = numbers (row_limits n) path d >>= (λ zs. Ok (row_from zs))

-- the rows of a field, not too many
unfoldable pub row_list : Triple → List ℕ → Data → Walked (List Row)
row_list n path d =
    list_by (row n) path d
    >>= (λ rs. within (from_to (pos 0) (pos most_rows)) path (pos (length rs))
    >>= (λ _. Ok rs))
