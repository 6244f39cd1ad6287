-- The steps of the board: what each does to the words, slots and views, and the events of the core
-- that it stands for.
use Rattle.std.specs.Prelude.{◌≡◌, ℕ, suc, ◌+◌, ◌%◌, ◌^◌, nat_lt, List, [], ◌∷◌, ◌++◌, true}
use Rattle.std.specs.Prelude.{Some, if◌then◌else◌, slice_index, slice_set}
use mathlib.Core.Option.{some}
use lib.ListN.{get_elem?}
use Rattle.atomic_table.specs.Table.{State, Me, Act, stepped, carried_after}
use Rattle.pic_tile.specs.Directions.{directions}
use Rattle.pic_core.specs.declared.event.Event.{Event}
use Rattle.pic_core.specs.declared.event.Event.TheVariants.{Claim, Post}
use Rattle.pic_core.specs.InTurn.{finishing}
use Rattle.pic_yard.specs.declared.opening.Opening.{Opening}
use Rattle.pic_yard.specs.declared.view.View.{View}
use Rattle.pic_yard.specs.Arrivals.{IsAboutToPost, Arrived}
use Rattle.pic_yard.specs.Contents.{Slot, tiles_in, from_of}
use Rattle.pic_yard.specs.Members.{In}
use Rattle.pic_yard.specs.Returns.{IsStacked, Returned}
use Rattle.pic_yard.specs.Rule.{ticket_of}
use Rattle.pic_yard.specs.Sits.{Sits, Drawn}
use Rattle.pic_yard.specs.Steps.{gave_number, newcomer, took_in, spent_view}

-- what a word holds that counts one more
abbrev pub one_more : ℕ → ℕ
one_more n = (n + 1) % 2 ^ 64

-- the seat id, which has me, draws from the ticket
pub record IsDraw (o : Opening) (s next : State Slot View) (id : ℕ)
    (me : Me Slot View) : Type 0 where
  pub there : get_elem? s.views id ≡ some me.0
  pub sits : Sits o me
  pub after : View
  pub act : Act Slot
  pub told : Drawn o me (ticket_of s) (after, carried_after me.1 act)
  pub is : next ≡ stepped s 0 (one_more (ticket_of s)) id me.1 after act

-- it posts the parcel (r, d), and the word counts it
pub record IsPost (o : Opening) (s next : State Slot View) (id : ℕ) (me : Me Slot View) (r d : ℕ)
    (parcel : Slot) (slots : List (ℕ × Slot)) : Type 0 where
  pub there : get_elem? s.views id ≡ some me.0
  pub ready : IsAboutToPost o me r d parcel slots
  pub after : View
  pub act : Act Slot
  pub told : Arrived o r d slots me (slice_index s.words (suc r)) (after, carried_after me.1 act)
  pub is : next ≡ stepped s (suc r) (one_more (slice_index s.words (suc r))) id me.1 after act

-- it gives back the finished tile r
pub record IsReturn (o : Opening) (s next : State Slot View) (id : ℕ) (me : Me Slot View) (r : ℕ)
    (tile : Slot) (slots : List (ℕ × Slot)) : Type 0 where
  pub there : get_elem? s.views id ≡ some me.0
  pub ready : IsStacked o me r tile slots
  pub after : View
  pub act : Act Slot
  pub told : Returned r slots me (after, carried_after me.1 act)
  pub is : next ≡ stepped s (suc r) (suc directions) id me.1 after act

-- the seat id, of the view v, makes another, of a number x that it was still to make
pub record IsSplit (o : Opening) (s next : State Slot View) (id : ℕ) (v : View)
    (x : ℕ) : Type 0 where
  pub there : get_elem? s.views id ≡ some v
  pub live : v.live ≡ true
  pub opened : v.opening ≡ Some o
  pub unmade : In x v.unmade
  pub is : next ≡ record s { views = slice_set s.views id (gave_number x v) ++ newcomer v x ∷ [] }

-- it takes in another, of the view u, which was told that no tile is left and lists nothing
pub record IsJoin (o : Opening) (s next : State Slot View) (id : ℕ) (v : View) (other : ℕ)
    (u : View) : Type 0 where
  pub there : get_elem? s.views id ≡ some v
  pub live : v.live ≡ true
  pub opened : v.opening ≡ Some o
  pub apart : other ≡ id → ⊥
  pub taken : get_elem? s.views other ≡ some u
  pub taken_live : u.live ≡ true
  pub told : u.told ≡ true
  pub owes : u.owes ≡ []
  pub rights : u.rights ≡ []
  pub is : next
      ≡ record s { views = slice_set (slice_set s.views id (took_in v u)) other spent_view }

-- a step of the board, of one of its seats
pub data IsStep (o : Opening) (s next : State Slot View) : Type 0 where
  draws : (id : ℕ) (me : Me Slot View) → IsDraw o s next id me → IsStep o s next
  posts : (id : ℕ) (me : Me Slot View) (r d : ℕ) (parcel : Slot) (slots : List (ℕ × Slot))
      → IsPost o s next id me r d parcel slots → IsStep o s next
  returns : (id : ℕ) (me : Me Slot View) (r : ℕ) (tile : Slot) (slots : List (ℕ × Slot))
      → IsReturn o s next id me r tile slots → IsStep o s next
  splits : (id : ℕ) (v : View) (x : ℕ) → IsSplit o s next id v x → IsStep o s next
  joins : (id : ℕ) (v : View) (other : ℕ) (u : View) → IsJoin o s next id v other u
      → IsStep o s next

-- the events of the core that it stands for: a draw of the number of a tile is its claim, an
-- arrival a post, and giving back a tile the merge of its own parcel, then those of the others, and
-- its shutting; other steps are no events
abbrev pub events_of : (o : Opening) (s next : State Slot View) → IsStep o s next → List Event
events_of o s next (draws id me step) =
    if nat_lt (ticket_of s) (tiles_in o) then Claim (ticket_of s) ∷ [] else []
events_of o s next (posts id me r d parcel slots step) = Post (from_of o r d) d ∷ []
events_of o s next (returns id me r tile slots step) = finishing r
events_of o s next (splits id v x step) = []
events_of o s next (joins id v other u step) = []

-- the number that it draws, where it is a draw
abbrev pub numbers_of : (o : Opening) (s next : State Slot View) → IsStep o s next → List ℕ
numbers_of o s next (draws id me step) = ticket_of s ∷ []
numbers_of o s next (posts id me r d parcel slots step) = []
numbers_of o s next (returns id me r tile slots step) = []
numbers_of o s next (splits id v x step) = []
numbers_of o s next (joins id v other u step) = []
