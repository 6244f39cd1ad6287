-- For which states of the core the words and views of a board stand.
use Rattle.std.specs.Prelude.{◌≡◌, ◌↔◌, ℕ, suc, ◌<◌, Bool, true, nat_lt, ◌==◌, slice_index}
use mathlib.Core.Option.{some}
use lib.ListN.{get_elem?}
use Rattle.atomic_table.specs.Table.{State}
use Rattle.pic_tile.specs.CoreState.{CoreState, Stands, is_claimed, is_posted, is_merged, is_shut}
use Rattle.pic_tile.specs.Directions.{directions}
use Rattle.pic_yard.specs.declared.opening.Opening.{Opening}
use Rattle.pic_yard.specs.declared.view.View.{View}
use Rattle.pic_yard.specs.Contents.{Slot, tiles_in, from_of}
use Rattle.pic_yard.specs.Members.{In}
use Rattle.pic_yard.specs.Rule.{ticket_of}

-- the parcel (r, d) is posted: the tile that sends it is claimed, and no live view owes it
pub record IsPosted (o : Opening) (s : State Slot View) (r d : ℕ) : Type 0 where
  pub claimed : from_of o r d < ticket_of s
  pub unowed : (j : ℕ) (v : View) → get_elem? s.views j ≡ some v → v.live ≡ true
      → In (r, d) v.owes → ⊥

-- the arrival word of the tile r is that of a shut tile, one more than all directions
abbrev pub is_word_of_shut : State Slot View → ℕ → Bool
is_word_of_shut s r = slice_index s.words (suc r) == suc directions

-- The core has the frame and the opening of the board. A tile is claimed in it exactly where its
-- number is below the ticket; a parcel is posted exactly where its sender is claimed and no live
-- view owes it; and a tile is shut, with all of its parcels merged, exactly where its word says so.
pub record Stood (o : Opening) (s : State Slot View) (c : CoreState) : Type 0 where
  pub frame : c.frame ≡ o.frame
  pub opening : c.opening ≡ o.tiles.items
  pub claimed : (t : ℕ) → t < tiles_in o → is_claimed c t ≡ nat_lt t (ticket_of s)
  pub posted : (r d : ℕ) → r < tiles_in o → d < directions
      → (is_posted c r d ≡ true) ↔ IsPosted o s r d
  pub merged : (r d : ℕ) → r < tiles_in o → d < directions → is_merged c r d ≡ is_word_of_shut s r
  pub shut : (r : ℕ) → r < tiles_in o → is_shut c r ≡ is_word_of_shut s r

-- and it is a state that events can lead to: each parcel is in one place, with what the push of its
-- tile sends, and all particles are there once
pub record StandsFor (o : Opening) (s : State Slot View) (c : CoreState) : Type 0 where
  pub stood : Stood o s c
  pub stands : Stands c
