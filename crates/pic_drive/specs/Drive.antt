-- The drive of a run by loops of current. A loop adds the numbers of its wave, one a step, to the scaled
-- B of the face that it stands round; so its current is the curl of what it adds, which flows round the
-- face and has no ends where charge would gather (J. D. Jackson, "Classical Electrodynamics", section
-- 5.8: the current of a magnetization). That the wave begins again is this project's profile.
use Rattle.std.specs.Prelude.{◌≡◌, ℕ, ℤ, pos, ◌+◌, ◌*◌, ◌%◌, ◌+ℤ◌, ◌==◌, ◌&&◌, Bool, if◌then◌else◌, List, [], ◌∷◌, ◌++◌, length, slice_index_or}
use Rattle.pic_num.specs.declared.axis.Axis.{Axis}
use Rattle.pic_num.specs.Limits.{most_loops, most_drive}
use Rattle.pic_num.specs.Space.{Triple, triple, axis_number}
use Rattle.pic_grid.specs.declared.loops.Loop.{Loop}
use Rattle.pic_grid.specs.Differences.{curl_b, div_e}
use Rattle.pic_grid.specs.Lattice.{Field, value_at, field_of}
use Rattle.pic_grid.specs.Sums.{sum_over}

-- the number of a loop's wave in the step after so many: behind the last one comes the first again
abbrev pub wave_at : ℕ → Loop → ℤ
wave_at step l = slice_index_or l.wave (step % length l.wave) (pos 0)

-- two cells are one
abbrev pub is_cell : Triple → Triple → Bool
is_cell p q = p.x == q.x && (p.y == q.y && p.z == q.z)

-- v at the component on the axis a of the cell p, and 0 at every other
unfoldable pub only_there : Axis → Triple → ℤ → Axis → Triple → ℤ
only_there a p v b q = if axis_number b == axis_number a && is_cell q p then v else pos 0

-- what a loop adds to the face on the axis a of the cell p, in the step after so many
abbrev pub part_of : ℕ → Axis → Triple → Loop → ℤ
part_of step a p l = only_there l.axis (triple l.cell) (wave_at step l) a p

-- what all loops add there
unfoldable pub driven : List Loop → ℕ → Axis → Triple → ℤ
driven loops step a p = sum_over (part_of step a p) loops

-- that is at most so large
abbrev pub most_driven : ℕ
most_driven = most_loops * most_drive

-- a lattice with g added to its values
abbrev pub plus : Field → (Axis → Triple → ℤ) → Field
plus f g = field_of f.side f.cells f.parts (λ a p. value_at f a p +ℤ g a p)

-- a loop alone drives its face, with the number of its wave, and no other
pub record DrivesItsFace (l : Loop) : Type 0 where
  pub own : (step : ℕ) → driven (l ∷ []) step l.axis (triple l.cell) ≡ wave_at step l
  pub other : (step : ℕ) (a : Axis) (p : Triple) → ((a ≡ l.axis) × (p ≡ triple l.cell) → ⊥)
      → driven (l ∷ []) step a p ≡ pos 0

-- it repeats itself after as many steps as its wave has numbers
abbrev pub Repeats : Loop → Type 0
Repeats l =
    (step : ℕ) (a : Axis) (p : Triple)
    → driven (l ∷ []) (step + length l.wave) a p ≡ driven (l ∷ []) step a p

-- without a loop nothing is driven, and the drives of loops add up
pub record DrivesAddUp : Type 0 where
  pub none : (step : ℕ) (a : Axis) (p : Triple) → driven [] step a p ≡ pos 0
  pub sum : (ls ms : List Loop) (step : ℕ) (a : Axis) (p : Triple)
      → driven (ls ++ ms) step a p ≡ driven ls step a p +ℤ driven ms step a p

-- their current has no divergence at any node of any grid: it changes no charge
abbrev pub DrivenCurrentIsClosed : Type 0
DrivenCurrentIsClosed =
    (n : Triple) (loops : List Loop) (step : ℕ) (p : Triple)
    → div_e n (curl_b n (driven loops step)) p ≡ pos 0
