-- What a post tells its caller.
use Rattle.std.specs.Prelude.{◌≡◌, ℕ, suc, ◌<◌}
use Rattle.atomic_table.specs.declared.shared.Seat.{Seat}
use Rattle.pic_tile.specs.Directions.{directions}
use Rattle.pic_yard.specs.declared.claim.Posted.{Posted}
use Rattle.pic_yard.specs.declared.claim.Posted.TheVariants as posted
use Rattle.pic_yard.specs.declared.opening.Opening.{Opening}
use Rattle.pic_yard.specs.declared.view.View.{View}
use Rattle.pic_yard.specs.Contents.{Slot}
use Rattle.pic_yard.specs.Steps.{did_post}
use Rattle.pic_yard.specs.Yards.{MailWaits}

-- a post that was counted, or gave a right
abbrev pub MatchPosted : Posted → Type 0 → (ℕ → Type 0) → Type 0
MatchPosted posted.Counted counted ready = counted
MatchPosted (posted.Ready right) counted ready = ready right

-- where so many parcels had come to r before: this one is not the last, or it is, and gives the
-- right to r
abbrev pub IsAnswer : ℕ → ℕ → Posted → Type 0
IsAnswer r arrived answer =
    MatchPosted answer (suc arrived < directions)
    (λ right. (suc arrived ≡ directions) × (right ≡ r))

-- a post to the mailbox (r, d)
pub record HasPosted (r d : ℕ) (old new : View) (answer : Posted) : Type 0 where
  pub arrived : ℕ
  pub few : arrived < directions
  pub view : new ≡ did_post directions r d arrived old
  pub answer_is : IsAnswer r arrived answer

-- where a post gave a right, all parcels of its tile are to be received
abbrev pub HasMailFor : Opening → Seat Slot View → Posted → Type 0
HasMailFor o seat answer =
    MatchPosted answer (Unit {0})
    (λ right. (d : ℕ) → d < directions → MailWaits o seat right d)
