-- What is kept along a row of lines that are taken in one after another: each line's numbers are those
-- of some h, from the cell before the row's first on, round a grid of n cells.
use Rattle.std.specs.Prelude.{◌≡◌, ℕ, ℤ, pos, ◌+◌, ◌%◌, ◌^◌, ◌<◌, ◌+ℤ◌, List, length, slice_index_or}
use Rattle.pic_num.specs.declared.axis.Axis.TheVariants.{X, Y}
use Rattle.pic_num.specs.Sizes.{IsAtMost}
use Rattle.pic_num.specs.Space.{Triple}
use Rattle.pic_grid.specs.Differences.{down}
use Rattle.pic_filter.specs.Runs.{most_of_three, most_across}
use Rattle.pic_filter.specs.declared.kept.Kept.{Kept}

-- nothing is kept
abbrev pub none_kept : Kept
none_kept = record { one = pos 0; two = pos 0; three = pos 0 }

-- what is kept at an index of a row
abbrev pub kept_at : List Kept → ℕ → Kept
kept_at kept i = slice_index_or kept i none_kept

-- what is kept once a line's number is taken in
abbrev pub taken : Kept → ℤ → Kept
taken k next = record { one = next; two = k.one +ℤ next; three = k.two +ℤ (k.one +ℤ next) }

-- what is kept is small: of three lines by their weights at most 2^87 in size,
abbrev pub most_of_two : ℕ
most_of_two = 2 ^ 86

pub record IsSmall (k : Kept) : Type 0 where
  pub one : IsAtMost k.one most_of_three
  pub two : IsAtMost k.two most_of_two
  pub three : IsAtMost k.three most_across

-- all along a row
pub record AreSmall (kept : List Kept) : Type 0 where
  pub at : (i : ℕ) → IsSmall (kept_at kept i)

-- the cell at an index of the row of p, which begins with the cell before p
abbrev pub row_cell : Triple → Triple → ℕ → Triple
row_cell n p i = record p { x = ((down n X p).x + i) % n.x }

-- the line of p is taken in
pub record TakeIn (n : Triple) (h : Triple → ℤ) (p : Triple) (old new : List Kept) : Type 0 where
  pub at : (i : ℕ) → i < length old → kept_at new i ≡ taken (kept_at old i) (h (row_cell n p i))

-- the last lines that were taken in are that below p and its own
pub record HoldLines (n : Triple) (h : Triple → ℤ) (p : Triple) (kept : List Kept) : Type 0 where
  pub one : (i : ℕ) → i < length kept → (kept_at kept i).one ≡ h (row_cell n p i)
  pub two : (i : ℕ) → i < length kept
      → (kept_at kept i).two ≡ h (row_cell n (down n Y p) i) +ℤ h (row_cell n p i)
