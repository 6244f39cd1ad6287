-- Planes of scaled rows: those of some lines of cells, one after another in y at one layer of z. Of
-- each line a plane has what the curl reads.
use Rattle.std.specs.Prelude.{◌≡◌, ℕ, ℤ, ◌+◌, ◌%◌, ◌<◌, ◌≤◌, Bool, true, false, List, [], slice_index_or}
use Rattle.pic_num.specs.Limits.{most_cells_of_axis}
use Rattle.pic_num.specs.declared.axis.Axis.{Axis}
use Rattle.pic_num.specs.declared.axis.Axis.TheVariants.{X, Y, Z}
use Rattle.pic_num.specs.Space.{Triple}
use Rattle.pic_field.specs.Beside.{next_to, first_index, row_room}
use Rattle.pic_field.specs.Rows.{IsScaledRow}
use Rattle.pic_field.specs.declared.plane.Line.{Line}
use Rattle.pic_field.specs.declared.plane.Span.{Span}
use Rattle.pic_field.specs.declared.plane.Strip.{Strip}

-- no line
abbrev pub no_line : Line
no_line = record { x = []; y = []; z = [] }

-- the line at an index of a plane
abbrev pub line_at : List Line → ℕ → Line
line_at plane j = slice_index_or plane j no_line

-- the plane at an index of some
abbrev pub plane_at : List (List Line) → ℕ → List Line
plane_at planes i = slice_index_or planes i []

-- the cell j further in y than p on a periodic grid
abbrev pub along_y : Triple → Triple → ℕ → Triple
along_y n p j = record p { y = (p.y + j) % n.y }

-- a span fits a room: its cells are few, and its edge stands right before or right behind them
pub record IsSpan (s : Span) : Type 0 where
  pub few : s.cells ≤ most_cells_of_axis
  pub first : s.first ≤ 1
  pub edge : s.edge ≤ s.cells
  pub covers : (i : ℕ) → i < s.cells + 1 → (i ≡ s.edge → ⊥)
      → (s.first ≤ i) × (i < s.first + s.cells)

-- a strip has at least one line, and few of the lines of a zone
pub record IsStrip (s : Strip) (lines : ℕ) : Type 0 where
  pub some : s.from < s.to
  pub few : s.to ≤ s.from + 8
  pub within : s.to ≤ lines

-- the index of the cell beside a row of so many cells in its room
abbrev pub edge_index : Bool → ℕ → ℕ
edge_index true cells = cells
edge_index false cells = 0

-- the span of rows of so many cells, which end with the next cell in x or begin with the last one
abbrev pub span_of : Bool → ℕ → Span
span_of up cells = record { first = first_index up; edge = edge_index up cells; cells = cells }

-- the scaled rows of a line are there that a curl has along the line itself: x at its cells, y and
-- z also at the edge. The rooms begin with the cell p.
pub record IsOwnLine (n : Triple) (g : Axis → Triple → ℤ) (p : Triple) (s : Span) (line : Line)
    : Type 0 where
  pub x : IsScaledRow n g X p s.first (s.first + s.cells) line.x
  pub y : IsScaledRow n g Y p 0 (s.cells + 1) line.y
  pub z : IsScaledRow n g Z p 0 (s.cells + 1) line.z

-- those that it has along the line beside it in y,
pub record IsSideLine (n : Triple) (g : Axis → Triple → ℤ) (p : Triple) (s : Span) (line : Line)
    : Type 0 where
  pub x : IsScaledRow n g X p s.first (s.first + s.cells) line.x
  pub z : IsScaledRow n g Z p s.first (s.first + s.cells) line.z

-- and along the line beside it in z
pub record IsNextLine (n : Triple) (g : Axis → Triple → ℤ) (p : Triple) (s : Span) (line : Line)
    : Type 0 where
  pub x : IsScaledRow n g X p s.first (s.first + s.cells) line.x
  pub y : IsScaledRow n g Y p s.first (s.first + s.cells) line.y

-- a plane has a strip of so many lines in its own layer, and the line beside the strip: before it
-- where rows begin before their cells, and else behind it. The plane begins with the line of the
-- cell p.
pub record IsScaledPlane (n : Triple) (g : Axis → Triple → ℤ) (p : Triple) (s : Span) (lines : ℕ)
    (plane : List Line) : Type 0 where
  pub own : (j : ℕ) → s.first ≤ j → j < s.first + lines
      → IsOwnLine n g (along_y n p j) s (line_at plane j)
  pub side : (j : ℕ) → j < lines + 1 → IsSideLine n g (along_y n p j) s (line_at plane j)

-- a plane has the lines that lie beside a strip of so many lines in z
pub record IsNextPlane (n : Triple) (g : Axis → Triple → ℤ) (p : Triple) (s : Span) (lines : ℕ)
    (plane : List Line) : Type 0 where
  pub next : (j : ℕ) → s.first ≤ j → j < s.first + lines
      → IsNextLine n g (along_y n p j) s (line_at plane j)

-- all the rows that a curl has along the line of count cells that begins at p: of the line itself,
-- of that beside it in y, and of that beside it in z
pub record AreLineRows (up : Bool) (n : Triple) (g : Axis → Triple → ℤ) (p : Triple) (count : ℕ)
    (own by_y by_z : Line) : Type 0 where
  pub here : IsOwnLine n g (row_room up n p) (span_of up count) own
  pub in_y : IsSideLine n g (row_room up n (next_to up n Y p)) (span_of up count) by_y
  pub in_z : IsNextLine n g (row_room up n (next_to up n Z p)) (span_of up count) by_z
