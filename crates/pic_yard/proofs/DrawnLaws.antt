-- A seat that draws, through its calls.
use Rattle.std.proofs.Common.{◌≡◌, ℕ, ◌+◌, ◌%◌, ◌^◌, ◌<◌, ◌≤◌, ◌∷◌, false, Option, IfSome, sym, ap, ◌∙◌, subst}
use mathlib.Core.Option.{some}
use Rattle.atomic_table.specs.declared.shared.Seat.{Seat}
use Rattle.atomic_table.specs.Table.{Me, Allows}
use Rattle.pic_yard.specs.Fronts.{seek, drop_slot}
use Rattle.pic_tile.specs.Directions.{directions}
use Rattle.pic_yard.specs.declared.opening.Opening.{Opening}
use Rattle.pic_yard.specs.declared.view.View.{View}
use Rattle.pic_yard.specs.declared.yard.Yard.{Yard}
use Rattle.pic_yard.specs.Contents.{Slot, vacant, tiles_in, tile_at}
use Rattle.pic_yard.specs.Rule.{Rule}
use Rattle.pic_yard.specs.Sits.{slot_at, Sits, Claimed, Drawn}
use Rattle.pic_yard.specs.Yards.{Serves, KeepsMail, opening_of}
use Rattle.pic_yard.proofs.ClaimedLaws.{told_sits, claim_sits, claim_mail}
use Rattle.pic_yard.proofs.DrawLaws.{draw_allowed}
use Rattle.pic_yard.proofs.SwapLaws.{Swapped, swapped}

abbrev pub DrawTold : Option Opening → Me Slot View → ℕ → Me Slot View → Type 0
DrawTold x me n new = IfSome x (λ o. Drawn o me n new)

-- a draw may be made
pub draw_asked : (o : Opening) (slots id : ℕ) (me : Me Slot View) → Sits o me → me.0.told ≡ false
    → Allows (Rule o) slots id me 0 (λ n. (n + 1) % 2 ^ 64) (λ n new. DrawTold me.0.opening me n new)
draw_asked o slots id me sits fresh =
    subst (λ (x : Option Opening). Allows (Rule o) slots id me 0 (λ n. (n + 1) % 2 ^ 64) (λ n new. DrawTold x me n new)) (sym sits.opened)
    (draw_allowed o slots id me sits fresh)

pub drawn_is : (o : Opening) (me new : Me Slot View) (n : ℕ) → Sits o me → DrawTold me.0.opening me n new → Drawn o me n new
drawn_is o me new n sits told = subst (λ (x : Option Opening). DrawTold x me n new) sits.opened told

-- a seat whose draw was past the last tile
pub past_serves : (yard : Yard) (old new : Seat Slot View) (n : ℕ) → Serves yard old → new.table_id ≡ old.table_id → DrawTold old.me.0.opening old.me n new.me
    → tiles_in (opening_of yard) ≤ n → Serves yard new
past_serves yard old new n serves own told past =
    let o : Opening = opening_of yard in
    let drawn : Drawn o old.me n new.me = drawn_is o old.me new.me n serves.sits told in
    record { own = own ∙ serves.own; sits = subst (λ (me : Me Slot View). Sits o me) (sym (drawn.told past)) (told_sits o old.me n serves.sits) }

module _ (yard : Yard) (old mid : Seat Slot View) (n : ℕ) (serves : Serves yard old) (told : DrawTold old.me.0.opening old.me n mid.me)
    (below : n < tiles_in (opening_of yard)) (slot : ℕ) (at : slot ≡ slot_at n directions) where
  abbrev o : Opening
  o = opening_of yard

  claimed : Claimed o old.me n mid.me
  claimed = (drawn_is o old.me mid.me n serves.sits told).claimed below

  -- its tile is at hand
  pub tile_held : seek slot mid.me.1 ≡ some (tile_at o n)
  tile_held = ap (λ (k : ℕ). seek k mid.me.1) at ∙ claimed.home

  module _ (new : Seat Slot View) (took : new.me ≡ (mid.me.0, (slot, vacant) ∷ drop_slot slot mid.me.1)) where
    swap : Swapped (slot_at n directions) vacant mid.me.1 new.me.1
    swap = subst (λ (k : ℕ). Swapped k vacant mid.me.1 new.me.1) at
        (subst (λ (me : Me Slot View). Swapped slot vacant mid.me.1 me.1) (sym took) (swapped slot vacant mid.me.1 claimed.once))

    viewed : (mid.me.0, new.me.1) ≡ new.me
    viewed = sym (ap (λ (me : Me Slot View). (me.0, new.me.1)) took)

    pub tile_serves : new.table_id ≡ old.table_id → Serves yard new
    tile_serves own = record {
      own = own ∙ serves.own;
      sits = subst (λ (me : Me Slot View). Sits o me) viewed (claim_sits o old.me mid.me n serves.sits below claimed new.me.1 swap);
    }

    pub tile_mail : KeepsMail old.me.0 old new
    tile_mail r d is dir = claim_mail o old.me mid.me n serves.sits below claimed new.me.1 swap r d is dir
