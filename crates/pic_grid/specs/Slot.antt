-- Where the places of a lattice lie in its blocks, axis by axis: the number of a cell's part, and the
-- cell's number among those of the part, are each a sum of three numbers, one for each axis.
use Rattle.std.specs.Prelude.{◌≡◌, ℕ, ◌*◌, ◌/◌, ◌%◌, ◌<◌}
use Rattle.pic_num.specs.Space.{Triple}
use Rattle.pic_grid.specs.Parts.{part_size}
use Rattle.pic_grid.specs.declared.slot.Slot.{Slot}

-- the index of an axis of n cells, in parts of so many layers; one part, and one place of a part, on
-- that axis is so many further
pub record IsSlot (n layers part_step place_step : ℕ) (w : Slot) : Type 0 where
  pub within : w.index < n
  pub part : w.part ≡ w.index / layers * part_step
  pub place : w.place ≡ w.index % layers * place_step

abbrev pub IsSlotX : Triple → Triple → Slot → Type 0
IsSlotX n parts = IsSlot n.x (part_size n parts).x 1 1

abbrev pub IsSlotY : Triple → Triple → Slot → Type 0
IsSlotY n parts = IsSlot n.y (part_size n parts).y parts.x (part_size n parts).x

abbrev pub IsSlotZ : Triple → Triple → Slot → Type 0
IsSlotZ n parts = IsSlot n.z (part_size n parts).z (parts.x * parts.y) ((part_size n parts).x * (part_size n parts).y)
