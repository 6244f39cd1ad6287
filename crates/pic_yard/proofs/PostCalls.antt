-- A seat that posts, through its calls.
use Rattle.std.proofs.Common.{◌≡◌, ℕ, suc, ◌+◌, ◌%◌, ◌^◌, ◌<◌, ◌≤◌, List, Option, Some, IfSome, sym, ap, ◌∙◌, subst, arith}
use Rattle.atomic_table.specs.declared.shared.Seat.{Seat}
use Rattle.atomic_table.specs.Table.{State, Me, Allows, rest}
use Rattle.pic_grid.specs.Tiles.{most_tiles}
use Rattle.pic_tile.specs.declared.parcel.Parcel.{Parcel}
use Rattle.pic_tile.specs.Directions.{directions}
use Rattle.pic_tile.specs.Frame.{FrameValue}
use Rattle.pic_tile.specs.Tile.{parcel_at}
use Rattle.pic_tile.specs.Tiling.{Tiling, neighbour_of}
use Rattle.pic_yard.specs.declared.claim.Posted.{Posted}
use Rattle.pic_yard.specs.declared.claim.Posted.TheVariants as posted
use Rattle.pic_yard.specs.declared.opening.Opening.{Opening}
use Rattle.pic_yard.specs.declared.slot_content.SlotContent.TheVariants as holds
use Rattle.pic_yard.specs.declared.view.View.{View}
use Rattle.pic_yard.specs.declared.yard.Yard.{Yard}
use Rattle.pic_yard.specs.declared.yard.Yard.TheInside.{Inside}
use Rattle.pic_yard.specs.Arrivals.{IsAboutToPost, Arrived}
use Rattle.pic_yard.specs.Claims.{ClaimValue}
use Rattle.pic_yard.specs.Contents.{Slot, tiles_in, to_of, from_of, HoldsParcel}
use Rattle.pic_yard.specs.Inside.{IsFitted, yard_of}
use Rattle.pic_yard.specs.Loads.{HasLoaded, TellsOf, first_slot}
use Rattle.pic_yard.specs.Members.{In}
use Rattle.pic_yard.specs.Posts.{IsAnswer, HasPosted, HasMailFor}
use Rattle.pic_yard.specs.Rule.{Rule}
use Rattle.pic_yard.specs.Sits.{slot_at, Sits}
use Rattle.pic_yard.specs.Steps.{did_post}
use Rattle.pic_yard.specs.Yards.{Serves, KeepsMail, MailWaits, IsSentBy, Owes, opening_of}
use Rattle.pic_yard.proofs.ArrivedLaws.{post_allowed}
use Rattle.pic_yard.proofs.CollectLaws.{slot_row, slot_place}
use Rattle.pic_yard.proofs.PostedLaws.{posted_sits, posted_mail}
use Rattle.pic_yard.proofs.WayLaws.{ways_of}

pub tile_few : (yard : Yard) (seat : Seat Slot View) (r : ℕ) → Serves yard seat → r < tiles_in (opening_of yard) → r ≤ most_tiles
tile_few yard seat r serves below = let most = serves.sits.sound.map.most in omega (arith, below, most)

-- each tile has its arrival word
pub word_there : (yard : Yard) (parts : Inside) (r : ℕ) → yard_of parts ≡ yard → IsFitted parts → r < tiles_in (opening_of yard)
    → r + 1 < (yard_of parts).table_id.words
word_there yard parts r is fitted below =
    let own : r < tiles_in (opening_of (yard_of parts)) = subst (λ (y : Yard). r < tiles_in (opening_of y)) (sym is) below in
    let words = fitted.words_are in
    let are = fitted.tiles_are in
    omega (arith, own, words, are)

-- a seat of a board is one of the board that its parts show
pub serves_parts : (yard : Yard) (parts : Inside) (seat : Seat Slot View) → yard_of parts ≡ yard → Serves yard seat → Serves (yard_of parts) seat
serves_parts yard parts seat is serves = subst (λ (y : Yard). Serves y seat) (sym is) serves

-- how many tiles there are
pub tiles_seen : (yard : Yard) (parts : Inside) → yard_of parts ≡ yard → IsFitted parts → parts.tiles ≡ tiles_in (opening_of yard)
tiles_seen yard parts is fitted = fitted.tiles_are ∙ ap (λ (y : Yard). tiles_in (opening_of y)) is

-- what the push of a tile sends is what its receiver's mailbox is to hold
pub sent_parcel : (o : Opening) (t d : ℕ) (found : Option Parcel) (parcel : Parcel) → t < tiles_in o → d < directions → IsSentBy o t d found
    → found ≡ Some parcel → HoldsParcel o (from_of o (to_of o t d) d) d (Some (holds.Parcel parcel))
sent_parcel o t d found parcel below dir sent is =
    subst (λ (k : ℕ). HoldsParcel o k d (Some (holds.Parcel parcel))) (sym ((ways_of o).back t d below dir))
    (record { parcel = sent.parcel; is = ap (λ (p : Parcel). Some (holds.Parcel p)) (same parcel sent.parcel (sym is ∙ sent.there)); content = sent.is })
  where
    same : (p q : Parcel) → Some p ≡ Some q → p ≡ q
    same p q e = cc

pub more : (holds : State Slot View → Type 0) (slots id : ℕ) (me : Me Slot View) (word : ℕ) (f : ℕ → ℕ) (P Q : ℕ → Me Slot View → Type 0)
    → ((n : ℕ) (m : Me Slot View) → P n m → Q n m) → Allows holds slots id me word f P → Allows holds slots id me word f Q
more holds slots id me word f P Q turn allows s rule wide at small =
    let x = allows s rule wide at small in (x.0, x.1, x.2, x.3, turn _ _ x.4)

-- a post may be made
module _ (o : Opening) (slots id : ℕ) (me : Me Slot View) (r d : ℕ) (dir : d < directions) (parcel : Slot) (load : IsAboutToPost o me r d parcel
    (rest me.1)) where
  lies_first : first_slot me.1 ≡ slot_at r d
  lies_first = ap (λ (l : List (ℕ × Slot)). first_slot l) load.first

  tells : (n : ℕ) (new : Me Slot View) → Arrived o r d (rest me.1) me n new → TellsOf (suc r) me n new
  tells n new arrived q e word way first =
      let same : slot_at r d ≡ slot_at q e = sym lies_first ∙ first in
      let row : r ≡ q = slot_row directions r d q e (omega (arith, dir)) (omega (arith, way)) same in
      let col : d ≡ e = slot_place directions r d q e (omega (arith, dir)) (omega (arith, way)) same in
      subst (λ (x : Option Opening). IfSome x (λ p. Arrived p q e (rest me.1) me n new)) (sym load.opened)
      (subst (λ (k : ℕ). Arrived o k e (rest me.1) me n new) row (subst (λ (k : ℕ). Arrived o r k (rest me.1) me n new) col arrived))

  pub post_asked : Allows (Rule o) slots id me (r + 1) (λ n. (n + 1) % 2 ^ 64) (λ n new. TellsOf (r + 1) me n new)
  post_asked =
      let word : suc r ≡ r + 1 = omega arith in
      subst (λ (w : ℕ). Allows (Rule o) slots id me w (λ n. (n + 1) % 2 ^ 64) (λ n new. TellsOf w me n new)) word
      (more (Rule o) slots id me (suc r) (λ n. (n + 1) % 2 ^ 64) (λ n new. Arrived o r d (rest me.1) me n new) (λ n new. TellsOf (suc r) me n new) tells
      (post_allowed o slots id me r d parcel (rest me.1) load))

  pub arrived_is : (n : ℕ) (new : Me Slot View) → TellsOf (r + 1) me n new → Arrived o r d (rest me.1) me n new
  arrived_is n new told = subst (λ (x : Option Opening). IfSome x (λ p. Arrived p r d (rest me.1) me n new)) load.opened (told r d (omega arith) dir lies_first)

module _ (yard : Yard) (old first new : Seat Slot View) (r d n : ℕ) (serves : Serves yard old) (has : In (r, d) old.me.0.owes)
    (load : HasLoaded (opening_of yard) old first r d) (told : TellsOf (r + 1) first.me n new.me) where
  abbrev o : Opening
  o = opening_of yard

  dir : d < directions
  dir = (serves.sits.carries.near r d has).1

  pub arrived : Arrived o r d (rest first.me.1) first.me n new.me
  arrived = arrived_is o 0 0 first.me r d dir load.parcel load.loaded n new.me told

  pub post_few : n < directions
  post_few = arrived.few

  pub has_posted : (answer : Posted) → IsAnswer r n answer → HasPosted r d old.me.0 new.me.0 answer
  has_posted answer is = record {
    arrived = n;
    few = arrived.few;
    view = arrived.view ∙ ap (λ (v : View). did_post directions r d n v) load.view;
    answer_is = is;
  }

  pub post_serves : new.table_id ≡ first.table_id → Serves yard new
  post_serves table = record {
    own = table ∙ load.table ∙ serves.own;
    sits = posted_sits o old.me first.me r d serves.sits has load.view load.parcel (rest first.me.1) load.loaded load.others n new.me arrived;
  }

  pub post_keeps : KeepsMail old.me.0 old new
  post_keeps =
      posted_mail o old.me first.me r d serves.sits has load.view load.parcel (rest first.me.1) load.loaded load.others n new.me arrived

  pub post_mail : suc n ≡ directions → (e : ℕ) → e < directions → MailWaits o new r e
  post_mail full e way = let all = arrived.last full in record { parcel = all.parcel e; there = all.mail e way; is = all.is e way }

-- the tile that the map of the yard's frame finds
pub to_found : (o : Opening) (f : FrameValue) (m : Tiling) (claim seen : ClaimValue) (r d : ℕ) → r ≡ neighbour_of m.tiles seen.number d → m ≡ f.map
    → f ≡ o.frame → seen ≡ claim → r ≡ to_of o claim.number d
unfolding to_of
to_found o f m claim seen r d found map frame same =
    found ∙ ap (λ (n : Tiling). neighbour_of n.tiles seen.number d) (map ∙ ap (λ (g : FrameValue). g.map) frame)
    ∙ ap (λ (c : ClaimValue). neighbour_of o.frame.map.tiles c.number d) same

-- what the seat owes, and has at hand
pub load_lists : (o : Opening) (v : View) (t r d : ℕ) → Owes o v t d → r ≡ to_of o t d → In (r, d) v.owes
load_lists o v t r d owes to_is = subst (λ (k : ℕ). In (k, d) v.owes) (sym to_is) owes.lists

pub load_parcel : (o : Opening) (me : Me Slot View) (claim seen : ClaimValue) (r d : ℕ) (found : Option Parcel) (parcel : Parcel) → Sits o me
    → Owes o me.0 claim.number d → r ≡ to_of o claim.number d → seen ≡ claim → IsSentBy o claim.number d (parcel_at claim.held d)
    → found ≡ parcel_at seen.held d → found ≡ Some parcel → HoldsParcel o (from_of o r d) d (Some (holds.Parcel parcel))
load_parcel o me claim seen r d found parcel sits owes to_is same sent taken is =
    let dir : d < directions = (sits.carries.near (to_of o claim.number d) d owes.lists).1 in
    let there : parcel_at claim.held d ≡ Some parcel = sym (taken ∙ ap (λ (c : ClaimValue). parcel_at c.held d) same) ∙ is in
    subst (λ (k : ℕ). HoldsParcel o (from_of o k d) d (Some (holds.Parcel parcel))) (sym to_is)
    (sent_parcel o claim.number d (parcel_at claim.held d) parcel owes.tile dir sent there)

-- where the answer gives the right to a tile, its mail waits
pub mail_for : (o : Opening) (seat : Seat Slot View) (r n : ℕ) (answer : Posted) → IsAnswer r n answer
    → (suc n ≡ directions → (d : ℕ) → d < directions → MailWaits o seat r d) → HasMailFor o seat answer
mail_for o seat r n posted.Counted is all = tt
mail_for o seat r n (posted.Ready q) is all = subst (λ (k : ℕ). (d : ℕ) → d < directions → MailWaits o seat k d) (sym is.1) (all is.0)
