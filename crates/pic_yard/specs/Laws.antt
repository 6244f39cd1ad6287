-- The laws of the board: each kind of step keeps its rule, whatever the other seats do in between,
-- and what it tells its seat; and what holds when the last seat is done.
use Rattle.std.specs.Prelude.{length}
use Rattle.std.specs.Prelude.{◌≡◌, ℕ, suc, ◌+◌, ◌%◌, ◌^◌, ◌<◌, ◌⊎◌, List, [], true, false, Some}
use Rattle.std.specs.Prelude.{slice_index}
use mathlib.Core.Option.{some}
use lib.ListN.{get_elem?}
use Rattle.atomic_table.specs.Table.{State, Me, opening, Allows, Splits, Joins}
use Rattle.pic_tile.specs.CoreState.{IsOpening, IsSoundFrame}
use Rattle.pic_tile.specs.Directions.{directions}
use Rattle.pic_yard.specs.declared.opening.Opening.{Opening}
use Rattle.pic_yard.specs.declared.view.View.{View}
use Rattle.pic_yard.specs.Arrivals.{IsAboutToPost, Arrived}
use Rattle.pic_yard.specs.Contents.{Slot, tiles_in, IsFinished}
use Rattle.pic_yard.specs.Laying.{AreLaid}
use Rattle.pic_yard.specs.Members.{In}
use Rattle.pic_yard.specs.Places.{IsHome}
use Rattle.pic_yard.specs.Returns.{IsStacked, Returned}
use Rattle.pic_yard.specs.Rule.{Rule}
use Rattle.pic_yard.specs.Sits.{slot_at, Sits, Drawn}
use Rattle.pic_yard.specs.Steps.{first_view, gave_number, newcomer, took_in, spent_view}

-- the words and slots of a board at its start: all words 0, all mailboxes empty, and each tile in
-- its home slot
pub record IsLaid (o : Opening) (words : List ℕ) (slots : List Slot) : Type 0 where
  pub words_long : length words ≡ suc (tiles_in o)
  pub zero : (i : ℕ) → slice_index words i ≡ 0
  pub laid : AreLaid o.tiles.items (tiles_in o) slots

-- a board begins with the rule
abbrev pub ABoardBeginsWithTheRule : Type 0
ABoardBeginsWithTheRule =
    (o : Opening) (words : List ℕ) (slots : List Slot)
    → IsSoundFrame o.frame
    → IsOpening o.frame o.tiles.items
    → 0 < o.seats
    → tiles_in o + o.seats + 1 < 2 ^ 64
    → IsLaid o words slots
    → Rule o (opening words slots (first_view o))

-- a draw from the ticket, by a seat that was not told that no tile is left
abbrev pub DrawsKeepTheRule : Type 0
DrawsKeepTheRule =
    (o : Opening) (slots id : ℕ) (me : Me Slot View)
    → Sits o me
    → me.0.told ≡ false
    → Allows (Rule o) slots id me 0 (λ n. (n + 1) % 2 ^ 64) (Drawn o me)

-- a post to the tile r, by a seat that owes the parcel and has it at hand
abbrev pub PostsKeepTheRule : Type 0
PostsKeepTheRule =
    (o : Opening) (slots id : ℕ) (me : Me Slot View) (r d : ℕ) (parcel : Slot) (list : List
    (ℕ × Slot))
    → IsAboutToPost o me r d parcel list
    → Allows (Rule o) slots id me (suc r) (λ n. (n + 1) % 2 ^ 64) (Arrived o r d list me)

-- the tile r given back, by a seat that has the right to it and has it finished at hand
abbrev pub ReturnsKeepTheRule : Type 0
ReturnsKeepTheRule =
    (o : Opening) (slots id : ℕ) (me : Me Slot View) (r : ℕ) (tile : Slot) (list : List (ℕ × Slot))
    → IsStacked o me r tile list
    → Allows (Rule o) slots id me (suc r) (λ n. suc directions) (λ n. Returned r list me)

-- a seat made of a number that another was still to make
abbrev pub SplitsKeepTheRule : Type 0
SplitsKeepTheRule =
    (o : Opening) (id : ℕ) (v : View) (x : ℕ)
    → v.live ≡ true
    → v.opening ≡ Some o
    → In x v.unmade
    → Splits (Rule o) id v (gave_number x v) (newcomer v x)

-- a seat taken in by another, where it was told that no tile is left and lists nothing
abbrev pub JoinsKeepTheRule : Type 0
JoinsKeepTheRule =
    (o : Opening) (id : ℕ) (v : View) (other : ℕ) (u : View)
    → v.live ≡ true
    → v.opening ≡ Some o
    → u.live ≡ true
    → u.told ≡ true
    → u.owes ≡ []
    → u.rights ≡ []
    → Joins (Rule o) id v other u (took_in v u) spent_view

-- all words are those of shut tiles, and each finished tile lies at home
pub record IsOver (o : Opening) (s : State Slot View) : Type 0 where
  pub words : (r : ℕ) → r < tiles_in o → slice_index s.words (suc r) ≡ suc directions
  pub finished : (r : ℕ) → r < tiles_in o → IsHome s.homes (slot_at r directions) (IsFinished o r)

-- where a seat has all numbers, was told that no tile is left, and lists nothing, all tiles are
-- finished
abbrev pub TheLastSeatEndsAll : Type 0
TheLastSeatEndsAll =
    (o : Opening) (s : State Slot View) (id : ℕ) (v : View)
    → Rule o s
    → get_elem? s.views id ≡ some v
    → v.live ≡ true
    → v.told ≡ true
    → ((x : ℕ) → x < o.seats → (x ≡ v.number) ⊎ In x v.taken)
    → v.owes ≡ []
    → v.rights ≡ []
    → IsOver o s
