-- Rows and runs: numbers side by side in x, and the three lines, side by side in z, that the filter along
-- z reads for one.
use Rattle.std.specs.Prelude.{◌≡◌, ℕ, ℤ, pos, ◌+◌, ◌^◌, ◌<◌, ◌≤◌, List, length, slice_index_or}
use Rattle.pic_num.specs.declared.axis.Axis.{Axis}
use Rattle.pic_num.specs.declared.axis.Axis.TheVariants.{Z}
use Rattle.pic_num.specs.Space.{Triple}
use Rattle.pic_block.specs.BlockLayers.{NumbersAtMost}
use Rattle.pic_block.specs.Rows.{part_end}
use Rattle.pic_grid.specs.Differences.{up, down}
use Rattle.pic_grid.specs.Lattice.{Field, value_at}
use Rattle.pic_grid.specs.Parts.{part_size}
use Rattle.pic_grid.specs.Slot.{IsSlotZ}
use Rattle.pic_filter.specs.Smoothing.{weighted}
use Rattle.pic_filter.specs.declared.runs.Slots.{Slots}
use Rattle.pic_filter.specs.declared.runs.Three.{Three}

-- the number at an index of a row
abbrev pub number_at : List ℤ → ℕ → ℤ
number_at row i = slice_index_or row i (pos 0)

-- of numbers of at most 2^83 in size the filter along one axis makes some of at most 2^85, and that
-- along two axes some of at most 2^87
abbrev pub most_of_three : ℕ
most_of_three = 2 ^ 85

abbrev pub most_across : ℕ
most_across = 2 ^ 87

-- three slots are of the z axis,
pub record AreSlots (f : Field) (z : Slots) : Type 0 where
  pub last : IsSlotZ f.cells f.parts z.last
  pub own : IsSlotZ f.cells f.parts z.own
  pub next : IsSlotZ f.cells f.parts z.next

-- and their layers are those round the one of the cell p
pub record AreRound (n p : Triple) (z : Slots) : Type 0 where
  pub last : z.last.index ≡ (down n Z p).z
  pub own : z.own.index ≡ p.z
  pub next : z.next.index ≡ (up n Z p).z

-- a run has the components on an axis from the cell p on, to the end of its part
pub record IsRun (f : Field) (a : Axis) (p : Triple) (run : List ℤ) : Type 0 where
  pub end : p.x + length run ≡ part_end (part_size f.cells f.parts).x p.x
  pub some : 0 < length run
  pub inside : p.x + length run ≤ f.cells.x
  pub values : (i : ℕ) → i < length run
      → number_at run i ≡ value_at f a (record p { x = p.x + i })

-- three runs side by side in z are those from the layer x on
pub record AreThree (f : Field) (a : Axis) (x y : ℕ) (z : Slots) (three : Three) : Type 0 where
  pub last : IsRun f a (record { x = x; y = y; z = z.last.index }) three.last.now
  pub own : IsRun f a (record { x = x; y = y; z = z.own.index }) three.own.now
  pub next : IsRun f a (record { x = x; y = y; z = z.next.index }) three.next.now

-- what three runs make at an index
abbrev pub three_at : Three → ℕ → ℤ
three_at t i = weighted (number_at t.last.now i) (number_at t.own.now i) (number_at t.next.now i)

-- three runs have so many numbers, and all are at most most in size
pub record HoldThree (most count : ℕ) (t : Three) : Type 0 where
  pub last_long : count ≤ length t.last.now
  pub own_long : count ≤ length t.own.now
  pub next_long : count ≤ length t.next.now
  pub last_small : NumbersAtMost most t.last.now
  pub own_small : NumbersAtMost most t.own.now
  pub next_small : NumbersAtMost most t.next.now
