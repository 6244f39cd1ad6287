-- The arrival words, against what the views list. A parcel (r, d) goes to the tile r in the
-- direction d; `from r d` is the tile that sends it. The tiles below the ticket are claimed.
use Rattle.std.specs.Prelude.{◌≡◌, ℕ, suc, ◌<◌, List, Bool, true, false, if◌then◌else◌, slice_index}
use mathlib.Core.Option.{some}
use lib.ListN.{get_elem?}
use Rattle.pic_yard.specs.declared.view.View.{View}
use Rattle.pic_yard.specs.Members.{In, Differ, count_below}

-- how far a board is: of its tiles those below the ticket are claimed, the parcel (r, d) is posted
-- where `posted r d` says so, and the tile r is shut where `shut r` does; `here` is the direction of
-- no step
pub record Board : Type 0 where
  pub tiles : ℕ
  pub dirs : ℕ
  pub here : ℕ
  pub ticket : ℕ
  pub from : ℕ → ℕ → ℕ
  pub posted : ℕ → ℕ → Bool
  pub shut : ℕ → Bool

-- the view of the seat j is live, and lists something
pub record Lists (views : List View) (j : ℕ) (What : View → Type 0) : Type 0 where
  pub view : View
  pub there : get_elem? views j ≡ some view
  pub live : view.live ≡ true
  pub lists : What view

-- the parcel (r, d) is still to be posted by the seat j, which claimed the tile that sends it
pub record IsOwed (tiles dirs ticket : ℕ) (from : ℕ → ℕ → ℕ) (posted : ℕ → ℕ
    → Bool) (claimer : ℕ → ℕ) (r d j : ℕ) : Type 0 where
  pub tile : r < tiles
  pub dir : d < dirs
  pub sender : from r d < ticket
  pub free : posted r d ≡ false
  pub by : claimer (from r d) ≡ j

-- the seat j may merge what was posted to the tile r
pub record IsRight (tiles dirs : ℕ) (posted : ℕ → ℕ → Bool) (shut : ℕ → Bool) (finisher : ℕ
    → ℕ) (r j : ℕ) : Type 0 where
  pub tile : r < tiles
  pub all : count_below (posted r) dirs ≡ dirs
  pub open_yet : shut r ≡ false
  pub by : finisher r ≡ j

-- The marks of all parcels and tiles. An arrival word counts the parcels posted to its tile; where
-- the tile is shut it is one more than all. What isn't posted of a claimed tile is owed by the one
-- seat that claimed it; where all parcels of a tile are posted, one seat has the right to it until
-- it is shut. No live view lists the same parcel or the same tile twice.
pub record Marks (b : Board) (words : List ℕ) (views : List View) : Type 0 where
  pub claimer : ℕ → ℕ
  pub finisher : ℕ → ℕ
  pub came : (r d : ℕ) → r < b.tiles → d < b.dirs → b.posted r d ≡ true → b.from r d < b.ticket
  pub arrivals : (r : ℕ) → r < b.tiles
      → slice_index words (suc r)
      ≡ (if b.shut r then suc b.dirs else count_below (b.posted r) b.dirs)
  pub whole : (r : ℕ) → r < b.tiles → b.shut r ≡ true → count_below (b.posted r) b.dirs ≡ b.dirs
  pub owed : (r d : ℕ) → r < b.tiles → d < b.dirs → b.from r d < b.ticket → b.posted r d ≡ false
      → Lists views (claimer (b.from r d)) (λ v. In (r, d) v.owes)
  pub ready : (r : ℕ) → r < b.tiles → count_below (b.posted r) b.dirs ≡ b.dirs → b.shut r ≡ false
      → Lists views (finisher r) (λ v. In r v.rights)
  pub owes : (j : ℕ) (v : View) → get_elem? views j ≡ some v → v.live ≡ true
      → (r d : ℕ) → In (r, d) v.owes → IsOwed b.tiles b.dirs b.ticket b.from b.posted claimer r d j
  pub rights : (j : ℕ) (v : View) → get_elem? views j ≡ some v → v.live ≡ true
      → (r : ℕ) → In r v.rights → IsRight b.tiles b.dirs b.posted b.shut finisher r j
  -- each parcel that a live view owes stands in it once,
  pub once_owed : (j : ℕ) (v : View) → get_elem? views j ≡ some v → v.live ≡ true → Differ v.owes
  -- and so does each tile to which it has the right
  pub once_right : (j : ℕ) (v : View) → get_elem? views j ≡ some v → v.live ≡ true → Differ v.rights
