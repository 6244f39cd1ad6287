-- What holds of the words, slots and views of the board between any two steps of any threads: they
-- stand for a state of the core. A tile is claimed by one seat, a parcel is posted once, by the
-- seat that claimed its sender; a tile is finished by one seat, after its last post, and each slot
-- is at home or with the one seat that may move it. The words are the sum of the steps that seats
-- took on them.
use Rattle.std.specs.Prelude.{◌≡◌, ℕ, suc, ◌+◌, ◌*◌, ◌^◌, ◌<◌, length, List, Bool, true, Some, sum, sum_by}
use Rattle.std.specs.Prelude.{slice_index}
use mathlib.Core.Option.{some}
use lib.ListN.{get_elem?}
use Rattle.atomic_table.specs.Table.{State}
use Rattle.pic_tile.specs.CoreState.{IsOpening, IsSoundFrame}
use Rattle.pic_tile.specs.Directions.{directions, here}
use Rattle.pic_yard.specs.declared.opening.Opening.{Opening}
use Rattle.pic_yard.specs.declared.view.View.{View}
use Rattle.pic_yard.specs.Contents.{Slot, tiles_in, from_of, slot_kinds}
use Rattle.pic_yard.specs.Marks.{Board, Marks}
use Rattle.pic_yard.specs.Places.{Places, Aways}
use Rattle.pic_yard.specs.Tickets.{Tickets}

-- the word of the ticket is the first; the arrival word of the tile r is the word r + 1
abbrev pub ticket_of : State Slot View → ℕ
ticket_of s = slice_index s.words 0

-- how far it is, where these parcels are posted and these tiles shut
abbrev pub board_of : Opening → State Slot View → (ℕ → ℕ → Bool) → (ℕ → Bool) → Board
board_of o s posted shut =
    record {
      tiles = tiles_in o;
      dirs = directions;
      here = here;
      ticket = ticket_of s;
      from = from_of o;
      posted = posted;
      shut = shut;
    }

-- how many steps on words seats took
abbrev pub steps_in : List View → ℕ
steps_in views = sum_by (λ v. v.steps) views

pub record Rule (o : Opening) (s : State Slot View) : Type 0 where
  pub posted : ℕ → ℕ → Bool
  pub shut : ℕ → Bool
  pub sound : IsSoundFrame o.frame
  pub opens : IsOpening o.frame o.tiles.items
  pub small : tiles_in o + o.seats + 1 < 2 ^ 64
  pub words : length s.words ≡ suc (tiles_in o)
  pub slots : length s.homes ≡ tiles_in o * suc directions
  pub opened : (j : ℕ) (v : View) → get_elem? s.views j ≡ some v → v.live ≡ true
      → v.opening ≡ Some o
  pub tickets : Tickets (tiles_in o) o.seats (ticket_of s) s.views
  pub marks : Marks (board_of o s posted shut) s.words s.views
  pub places : Places (slot_kinds o) (board_of o s posted shut) s.homes
  pub aways : Aways (board_of o s posted shut) s.homes
  pub tally : sum s.words ≡ steps_in s.views
