-- A seat that receives parcels and gives back a tile, through its calls.
use Rattle.std.proofs.Common.{◌≡◌, ℕ, suc, ◌+◌, ◌<◌, List, ◌∷◌, Some, None, refl, sym, ap, ◌∙◌, subst, arith}
use mathlib.Core.Option.{some}
use Rattle.atomic_table.specs.declared.shared.Seat.{Seat}
use Rattle.atomic_table.specs.Table.{Me, Allows}
use Rattle.pic_yard.specs.Fronts.{seek, drop_slot}
use Rattle.pic_tile.specs.Directions.{directions}
use Rattle.pic_tile.specs.Tile.{TileValue}
use Rattle.pic_yard.specs.declared.opening.Opening.{Opening}
use Rattle.pic_yard.specs.declared.slot_content.SlotContent.TheVariants as holds
use Rattle.pic_yard.specs.declared.view.View.{View}
use Rattle.pic_yard.specs.declared.yard.Yard.{Yard}
use Rattle.pic_yard.specs.Contents.{Slot, vacant, IsShut}
use Rattle.pic_yard.specs.Members.{In}
use Rattle.pic_yard.specs.Returns.{boxes_on, shed, all_shed, past, IsStacked, IsPutHome, Returned, TellsBack}
use Rattle.pic_yard.specs.Rule.{Rule}
use Rattle.pic_yard.specs.Sits.{slot_at, Sits}
use Rattle.pic_yard.specs.Steps.{gave_back}
use Rattle.pic_yard.specs.Yards.{Serves, KeepsMail, mail_of, opening_of}
use Rattle.pic_yard.proofs.PostCalls.{more}
use Rattle.pic_yard.proofs.ReceivedLaws.{mail_else, received_sits, back_sits, back_mail}
use Rattle.pic_yard.proofs.ReturnLaws.{back_allowed}
use Rattle.pic_yard.proofs.StackLaws.{home_seek, home_drop, past_all}
use Rattle.pic_yard.proofs.SwapLaws.{Swapped, swapped}

-- a parcel is received
module _ (yard : Yard) (old new : Seat Slot View) (r d slot : ℕ) (serves : Serves yard old) (right : In r old.me.0.rights) (dir : d < directions)
    (at : slot ≡ slot_at r d) (took : new.me ≡ (old.me.0, (slot, None) ∷ drop_slot slot old.me.1)) where
  swap : Swapped (slot_at r d) None old.me.1 new.me.1
  swap = subst (λ (k : ℕ). Swapped k None old.me.1 new.me.1) at
      (subst (λ (me : Me Slot View). Swapped slot None old.me.1 me.1) (sym took) (swapped slot None old.me.1 serves.sits.carries.once))

  viewed : (old.me.0, new.me.1) ≡ new.me
  viewed = sym (ap (λ (me : Me Slot View). (me.0, new.me.1)) took)

  pub receive_serves : new.table_id ≡ old.table_id → Serves yard new
  receive_serves own = record {
    own = own ∙ serves.own;
    sits = subst (λ (me : Me Slot View). Sits (opening_of yard) me) viewed
        (received_sits (opening_of yard) old.me r d serves.sits right dir new.me.1 swap);
  }

  pub receive_others : (q e : ℕ) → e < directions → ((q ≡ r) × (e ≡ d) → ⊥) → mail_of new q e ≡ mail_of old q e
  receive_others q e way apart = mail_else (opening_of yard) old.me r d serves.sits right dir new.me.1 swap q e way apart

-- a tile may be given back
pub back_asked : (o : Opening) (slots id : ℕ) (me : Me Slot View) (r : ℕ) (tile : Slot) (list : List (ℕ × Slot)) → IsStacked o me r tile list
    → Allows (Rule o) slots id me (r + 1) (λ n. suc directions) (λ n new. TellsBack (r + 1) me new)
back_asked o slots id me r tile list stacked =
    let word : suc r ≡ r + 1 = omega arith in
    let behind = subst (λ (l : List (ℕ × Slot)). past (suc directions) l ≡ list) (sym stacked.first) (past_all r (slot_at r directions, tile) list) in
    let tells : (n : ℕ) (new : Me Slot View) → Returned r list me new → TellsBack (suc r) me new = λ n new told q same.
    let row : r ≡ q = omega (arith, same) in
    subst (λ (k : ℕ). Returned k (past (suc directions) me.1) me new) row (subst (λ (l : List (ℕ × Slot)). Returned r l me new) (sym behind) told) in
    subst (λ (w : ℕ). Allows (Rule o) slots id me w (λ n. suc directions) (λ n new. TellsBack w me new)) word
    (more (Rule o) slots id me (suc r) (λ n. suc directions) (λ n new. Returned r list me new) (λ n new. TellsBack (suc r) me new) tells
    (back_allowed o slots id me r tile list stacked))

-- the finished tile is laid into its home slot
module _ (yard : Yard) (old stacked : Seat Slot View) (r slot : ℕ) (serves : Serves yard old) (right : In r old.me.0.rights) (tile : TileValue)
    (shut : IsShut (opening_of yard) r tile) (stack_is : stacked.me ≡ (old.me.0, boxes_on r directions (shed r directions old.me.1)))
    (at : slot ≡ slot_at r directions) where
  abbrev home : ℕ
  home = slot_at r directions

  abbrev piled : List (ℕ × Slot)
  piled = boxes_on r directions (shed r directions old.me.1)

  -- which is at hand, and vacant
  pub home_held : seek slot stacked.me.1 ≡ some vacant
  home_held =
      ap (λ (k : ℕ). seek k stacked.me.1) at ∙ ap (λ (me : Me Slot View). seek home me.1) stack_is
      ∙ home_seek r old.me.1 ∙ serves.sits.carries.right r right

  module _ (laid : Seat Slot View) (put : laid.me ≡ (stacked.me.0, (slot, Some (holds.Tile (Some tile))) ∷ drop_slot slot stacked.me.1)) where
    laid_is : laid.me ≡ (old.me.0, (home, Some (holds.Tile (Some tile))) ∷ boxes_on r directions (all_shed r old.me.1))
    laid_is =
        put ∙ ap (λ (k : ℕ). (stacked.me.0, (k, Some (holds.Tile (Some tile))) ∷ drop_slot k stacked.me.1)) at
        ∙ ap (λ (me : Me Slot View). (me.0, (home, Some (holds.Tile (Some tile))) ∷ drop_slot home me.1)) stack_is
        ∙ ap (λ (l : List (ℕ × Slot)). (old.me.0, (home, Some (holds.Tile (Some tile))) ∷ l)) (home_drop r old.me.1)

    pub is_put_home : laid.table_id ≡ old.table_id → IsPutHome (opening_of yard) old laid r
    is_put_home table = record {
      table = table;
      view = ap (λ (me : Me Slot View). me.0) laid_is;
      tile = Some (holds.Tile (Some tile));
      stacked = subst (λ (me : Me Slot View). IsStacked (opening_of yard) me r (Some (holds.Tile (Some tile))) (all_shed r old.me.1)) (sym laid_is) (record {
        live = serves.sits.live;
        opened = serves.sits.opened;
        right = right;
        first = refl;
        is = record { tile = tile; is = refl; content = shut };
      });
    }

-- and given back
module _ (yard : Yard) (old laid : Seat Slot View) (r k : ℕ) (serves : Serves yard old) (right : In r old.me.0.rights)
    (put : IsPutHome (opening_of yard) old laid k) (same : k ≡ r) where
  abbrev o : Opening
  o = opening_of yard

  pub give_asked : (slots id : ℕ) → Allows (Rule o) slots id laid.me (k + 1) (λ n. suc directions) (λ n new. TellsBack (k + 1) laid.me new)
  give_asked slots id = back_asked o slots id laid.me k put.tile (all_shed k old.me.1) put.stacked

  module _ (new : Seat Slot View) (told : TellsBack (k + 1) laid.me new.me) where
    new_is : new.me ≡ (gave_back r old.me.0, all_shed r old.me.1)
    new_is =
        told k (omega arith) ∙ ap (λ (l : List (ℕ × Slot)). (gave_back k laid.me.0, past (suc directions) l)) put.stacked.first
        ∙ ap (λ (l : List (ℕ × Slot)). (gave_back k laid.me.0, l)) (past_all k (slot_at k directions, put.tile) (all_shed k old.me.1))
        ∙ ap (λ (v : View). (gave_back k v, all_shed k old.me.1)) put.view ∙ ap (λ (q : ℕ). (gave_back q old.me.0, all_shed q old.me.1)) same

    pub back_view : new.me.0 ≡ gave_back r old.me.0
    back_view = ap (λ (me : Me Slot View). me.0) new_is

    pub back_serves : new.table_id ≡ laid.table_id → Serves yard new
    back_serves table = record {
      own = table ∙ put.table ∙ serves.own;
      sits = subst (λ (me : Me Slot View). Sits o me) (sym new_is) (back_sits o old.me r serves.sits right);
    }

    pub back_keeps : KeepsMail new.me.0 old new
    back_keeps q e is way =
        ap (λ (me : Me Slot View). seek (slot_at q e) me.1) new_is
        ∙ back_mail o old.me r serves.sits right q e (subst (λ (v : View). In q v.rights) back_view is) way
