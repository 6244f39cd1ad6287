-- A parcel is laid into its mailbox.
use Rattle.std.proofs.Common.{◌≡◌, ℕ, ◌<◌, List, ◌∷◌, None, refl, sym, ap, ◌∙◌, subst}
use Rattle.std.proofs.Math.Decide.{ℕ_discrete}
use mathlib.Core.Option.{none, some, some-ne-none}
use Rattle.atomic_table.specs.declared.shared.Seat.{Seat}
use Rattle.atomic_table.specs.Table.{Me, rest}
use Rattle.pic_yard.specs.Fronts.{seek, drop_slot, to_front}
use Rattle.pic_tile.specs.Directions.{directions, here}
use Rattle.pic_yard.specs.declared.opening.Opening.{Opening}
use Rattle.pic_yard.specs.declared.view.View.{View}
use Rattle.pic_yard.specs.declared.yard.Yard.{Yard}
use Rattle.pic_yard.specs.Acts.{Apart}
use Rattle.pic_yard.specs.Arrivals.{behind, IsAboutToPost}
use Rattle.pic_yard.specs.Contents.{Slot, vacant, from_of, HoldsParcel}
use Rattle.pic_yard.specs.Loads.{HasLoaded}
use Rattle.pic_yard.specs.Members.{In}
use Rattle.pic_yard.specs.Sits.{slot_at, IsMine, Carries, Sits}
use Rattle.pic_yard.specs.Yards.{Serves, opening_of}
use Rattle.pic_yard.proofs.BehindLaws.{behind_here, behind_step}
use Rattle.pic_yard.proofs.ClaimedLaws.{box_not_home}
use Rattle.pic_yard.proofs.SwapLaws.{seek_rest, drop_rest, dropped_else, dropped_none, dropped_once, front_is, front_seek, front_once}

-- the mailbox comes first, behind it the home slot
module _ (o : Opening) (me : Me Slot View) (r d : ℕ) (sits : Sits o me) (lists : In (r, d) me.0.owes) (parcel : Slot)
    (is : HoldsParcel o (from_of o r d) d parcel) where
  abbrev box : ℕ
  box = slot_at r d

  abbrev home : ℕ
  home = slot_at r directions

  abbrev fronted : List (ℕ × Slot)
  fronted = to_front home me.1

  abbrev left : List (ℕ × Slot)
  left = drop_slot box fronted

  had : Carries o me.0 me.1
  had = sits.carries

  dir : d < directions
  dir = (had.near r d lists).1

  once_first : Apart fronted
  once_first = front_once home me.1 had.once

  pub box_there : seek box fronted ≡ some None
  box_there = front_seek box home me.1 had.once ∙ had.box r d lists

  home_first : d ≡ here → fronted ≡ (home, vacant) ∷ drop_slot home me.1
  home_first same = front_is home vacant me.1 (had.home r (subst (λ (e : ℕ). In (r, e) me.0.owes) same lists))

  home_left : d ≡ here → left ≡ (home, vacant) ∷ drop_slot box (drop_slot home me.1)
  home_left same =
      ap (λ (l : List (ℕ × Slot)). drop_slot box l) (home_first same)
      ∙ drop_rest box (home, vacant) (drop_slot home me.1) (λ e. box_not_home r d r dir (sym e))

  none_home : d ≡ here → seek home (behind d left) ≡ none
  none_home same =
      ap (λ (l : List (ℕ × Slot)). seek home l) (behind_here d left same ∙ ap (λ (l : List (ℕ × Slot)). rest l) (home_left same))
      ∙ dropped_else home box (drop_slot home me.1) (λ e. box_not_home r d r dir (sym e)) ∙ dropped_none home me.1 had.once

  -- the slots behind have what they had
  pub left_others : (slot : ℕ) → (slot ≡ box → ⊥) → (d ≡ here → slot ≡ home → ⊥) → seek slot (behind d left) ≡ seek slot me.1
  left_others slot not_box not_home = elim (ℕ_discrete d here) [
    | yes same ↦
        ap (λ (l : List (ℕ × Slot)). seek slot l) (behind_here d left same ∙ ap (λ (l : List (ℕ × Slot)). rest l) (home_left same))
        ∙ dropped_else slot box (drop_slot home me.1) not_box ∙ dropped_else slot home me.1 (not_home same)
    | no apart ↦
        ap (λ (l : List (ℕ × Slot)). seek slot l) (behind_step d left apart) ∙ dropped_else slot box fronted not_box ∙ front_seek slot home me.1 had.once
  ]

  none_box : seek box (behind d left) ≡ none
  none_box = elim (ℕ_discrete d here) [
    | yes same ↦
        ap (λ (l : List (ℕ × Slot)). seek box l) (behind_here d left same)
        ∙ sym (seek_rest box (home, vacant) (rest left) (λ e. box_not_home r d r dir (sym e)))
        ∙ ap (λ (l : List (ℕ × Slot)). seek box l) (sym (subst (λ (l : List (ℕ × Slot)). l ≡ (home, vacant) ∷ rest l) (sym (home_left same)) refl))
        ∙ dropped_none box fronted once_first
    | no apart ↦ ap (λ (l : List (ℕ × Slot)). seek box l) (behind_step d left apart) ∙ dropped_none box fronted once_first
  ]

  only : (slot : ℕ) (y : Slot) → seek slot (behind d left) ≡ some y → IsMine me.0 slot
  only slot y there = elim (ℕ_discrete slot box) [
    | yes same ↦ absurd (some-ne-none y (sym there ∙ ap (λ (k : ℕ). seek k (behind d left)) same ∙ none_box))
    | no apart ↦
        let not_home : d ≡ here → slot ≡ home → ⊥ = λ at same. some-ne-none y (sym there ∙ ap (λ (k : ℕ). seek k (behind d left)) same ∙ none_home at) in
        had.only slot y (sym (left_others slot apart not_home) ∙ there)
  ]

  pub is_loaded : IsAboutToPost o (me.0, (box, parcel) ∷ left) r d parcel left
  is_loaded = record {
    live = sits.live;
    opened = sits.opened;
    owes = lists;
    first = refl;
    is = is;
    home = λ same. subst (λ (l : List (ℕ × Slot)). l ≡ (home, vacant) ∷ rest l) (sym (home_left same)) refl;
    only = only;
    once = (dropped_none box fronted once_first, dropped_once box fronted once_first);
  }

-- through the calls
module _ (yard : Yard) (old first : Seat Slot View) (r d : ℕ) (serves : Serves yard old) (lists : In (r, d) old.me.0.owes) (parcel : Slot)
    (is : HoldsParcel (opening_of yard) (from_of (opening_of yard) r d) d parcel) (home slot : ℕ) (home_is : home ≡ slot_at r directions)
    (slot_is : slot ≡ slot_at r d) (front : first.me ≡ (old.me.0, to_front home old.me.1)) where
  abbrev opened : Opening
  opened = opening_of yard

  abbrev brought : List (ℕ × Slot)
  brought = to_front (slot_at r directions) old.me.1

  first_is : first.me ≡ (old.me.0, brought)
  first_is = front ∙ ap (λ (k : ℕ). (old.me.0, to_front k old.me.1)) home_is

  -- the mailbox is at hand, and empty
  pub box_held : seek slot first.me.1 ≡ some None
  box_held =
      ap (λ (k : ℕ). seek k first.me.1) slot_is ∙ ap (λ (me : Me Slot View). seek (slot_at r d) me.1) first_is
      ∙ box_there opened old.me r d serves.sits lists parcel is

  module _ (new : Seat Slot View) (laid : new.me ≡ (first.me.0, (slot, parcel) ∷ drop_slot slot first.me.1)) where
    is_new : new.me ≡ (old.me.0, (slot_at r d, parcel) ∷ drop_slot (slot_at r d) brought)
    is_new =
        laid ∙ ap (λ (k : ℕ). (first.me.0, (k, parcel) ∷ drop_slot k first.me.1)) slot_is
        ∙ ap (λ (me : Me Slot View). (me.0, (slot_at r d, parcel) ∷ drop_slot (slot_at r d) me.1)) first_is

    pub has_loaded : new.table_id ≡ old.table_id → HasLoaded opened old new r d
    has_loaded table = record {
      table = table;
      view = ap (λ (me : Me Slot View). me.0) is_new;
      parcel = parcel;
      loaded = subst (λ (me : Me Slot View). IsAboutToPost opened me r d parcel (rest me.1)) (sym is_new)
          (is_loaded opened old.me r d serves.sits lists parcel is);
      others = λ at not_box not_home.
          ap (λ (me : Me Slot View). seek at (behind d (rest me.1))) is_new
          ∙ left_others opened old.me r d serves.sits lists parcel is at not_box not_home;
    }
