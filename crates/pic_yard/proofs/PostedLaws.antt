-- What a seat has after a post.
use Rattle.std.proofs.Common.{◌≡◌, ℕ, suc, ◌<◌, List, ◌∷◌, Bool, true, Some, None, inl, inr, eq-eqb, ne_eqb, if◌then◌else◌, refl, sym, ap, ◌∙◌, subst, arith}
use Rattle.std.proofs.Math.Decide.{ℕ_discrete}
use mathlib.Core.Option.{some, some-ne-none}
use Rattle.atomic_table.specs.Table.{Me}
use Rattle.pic_yard.specs.Fronts.{seek}
use Rattle.pic_tile.specs.Directions.{directions, here}
use Rattle.pic_yard.specs.declared.opening.Opening.{Opening}
use Rattle.pic_yard.specs.declared.view.View.{View}
use Rattle.pic_yard.specs.Arrivals.{behind, IsAboutToPost, HasAllMail, Arrived}
use Rattle.pic_yard.specs.Contents.{Slot, vacant, tiles_in}
use Rattle.pic_yard.specs.Members.{In, without, same_pair}
use Rattle.pic_yard.specs.Sits.{slot_at, IsMine, a_box, a_home, of_right, HasMail, waits, Carries, Sits}
use Rattle.pic_yard.specs.Steps.{now_has, did_post}
use Rattle.pic_yard.proofs.BehindLaws.{gone_box, gone_home, once_behind}
use Rattle.pic_yard.proofs.ClaimedLaws.{box_not_home, mail_there, mail_still, mine_still}
use Rattle.pic_yard.proofs.CollectLaws.{slot_row, slot_place, which_place}
use Rattle.pic_yard.proofs.MemberLaws.{kept, was_in, unseen_in, pair_other, pair_apart}

module _ (o : Opening) (old me : Me Slot View) (r d : ℕ) (sits : Sits o old) (lists : In (r, d) old.0.owes) (view : me.0 ≡ old.0) (parcel : Slot)
    (slots : List (ℕ × Slot)) (load : IsAboutToPost o me r d parcel slots)
    (others : (slot : ℕ) → (slot ≡ slot_at r d → ⊥) → (d ≡ here → slot ≡ slot_at r directions → ⊥) → seek slot (behind d slots) ≡ seek slot old.1) where
  abbrev v : View
  v = old.0

  abbrev had : Carries o old.0 old.1
  had = sits.carries

  abbrev left : List (ℕ × Slot)
  left = behind d slots

  abbrev owed : List (ℕ × ℕ)
  owed = without (same_pair r d) v.owes

  -- the post was counted
  abbrev counted : View
  counted = now_has v v.drawn v.told owed v.rights

  dir : d < directions
  dir = (had.near r d lists).1

  was : (q e : ℕ) → In (q, e) owed → In (q, e) v.owes
  was q e = was_in (same_pair r d) (q, e) v.owes

  else_pair : (q e : ℕ) → In (q, e) owed → (q ≡ r) × (e ≡ d) → ⊥
  else_pair q e is = pair_apart r d q e (unseen_in (same_pair r d) (q, e) v.owes is)

  same_box : (q e : ℕ) → e < suc directions → slot_at q e ≡ slot_at r d → (q ≡ r) × (e ≡ d)
  same_box q e below same = (slot_row directions q e r d below (omega (arith, dir)) same, slot_place directions q e r d below (omega (arith, dir)) same)

  same_home : (q t : ℕ) → slot_at q directions ≡ slot_at t directions → q ≡ t
  same_home q t same = slot_row directions q directions t directions (omega arith) (omega arith) same

  -- a mailbox but the one posted, and a home slot where not both go
  box_still : (q e : ℕ) → e < directions → ((q ≡ r) × (e ≡ d) → ⊥) → seek (slot_at q e) left ≡ seek (slot_at q e) old.1
  box_still q e way apart = others (slot_at q e) (λ same. apart (same_box q e (omega (arith, way)) same)) (λ is same. box_not_home q e r way same)

  home_still : (t : ℕ) → ((d ≡ here) × (t ≡ r) → ⊥) → seek (slot_at t directions) left ≡ seek (slot_at t directions) old.1
  home_still t apart = others (slot_at t directions) (λ same. box_not_home r d t dir (sym same)) (λ is same. apart (is, same_home t r same))

  right_else : (q e : ℕ) → In q v.rights → (q ≡ r) × (e ≡ d) → ⊥
  right_else q e is same = had.apart r d lists (subst (λ (k : ℕ). In k v.rights) same.0 is)

  pub counted_mail : (q e : ℕ) → In q v.rights → e < directions → seek (slot_at q e) left ≡ seek (slot_at q e) old.1
  counted_mail q e is way = box_still q e way (right_else q e is)

  not_box : (slot : ℕ) (y : Slot) → seek slot left ≡ some y → slot ≡ slot_at r d → ⊥
  not_box slot y there same =
      some-ne-none y (sym there ∙ ap (λ (k : ℕ). seek k left) same ∙ gone_box o me r d parcel slots load (λ e. box_not_home r d r dir (sym e)))

  not_home : (slot : ℕ) (y : Slot) → seek slot left ≡ some y → d ≡ here → slot ≡ slot_at r directions → ⊥
  not_home slot y there is same = some-ne-none y (sym there ∙ ap (λ (k : ℕ). seek k left) same ∙ gone_home o me r d parcel slots load is)

  mine_left : (slot : ℕ) (y : Slot) → seek slot left ≡ some y → IsMine v slot → IsMine counted slot
  mine_left slot y there (a_box q e way same is) = a_box q e way same (kept (same_pair r d) (q, e) v.owes is
      (pair_other r d q e (λ both. not_box slot y there (same ∙ (λ i. slot_at (both.0 i) (both.1 i))))))
  mine_left slot y there (a_home t same is) = a_home t same (kept (same_pair r d) (t, here) v.owes is
      (pair_other r d t here (λ both. not_home slot y there (sym both.1) (same ∙ ap (λ (k : ℕ). slot_at k directions) both.0))))
  mine_left slot y there (of_right q k below same is) = of_right q k below same is

  pub counted_carries : Carries o counted left
  counted_carries = record {
    near = λ q e is. had.near q e (was q e is);
    inside = had.inside;
    apart = λ q e is right. had.apart q e (was q e is) right;
    box = λ q e is. box_still q e (had.near q e (was q e is)).1 (else_pair q e is) ∙ had.box q e (was q e is);
    home = λ t is. home_still t (λ both. else_pair t here is (both.1, sym both.0)) ∙ had.home t (was t here is);
    mail = λ q e is way. mail_still o old.1 left q e (counted_mail q e is way) (had.mail q e is way);
    right = λ q is. home_still q (λ both. right_else q d is (both.1, refl)) ∙ had.right q is;
    only = λ slot y there. mine_left slot y there (had.only slot y (sym (others slot (not_box slot y there) (not_home slot y there)) ∙ there));
    once = once_behind o me r d parcel slots load;
  }

  -- the post was the last
  module _ (new : List (ℕ × Slot)) (all : HasAllMail o r left new) where
    abbrev ready : View
    ready = now_has v v.drawn v.told owed (r ∷ v.rights)

    not_of_r : (slot : ℕ) (y : Slot) → seek slot left ≡ some y → (k : ℕ) → k < suc directions → slot ≡ slot_at r k → ⊥
    not_of_r slot y there k below same = some-ne-none y (sym there ∙ ap (λ (j : ℕ). seek j left) same ∙ all.fresh k below)

    still : (slot : ℕ) (y : Slot) → seek slot left ≡ some y → seek slot new ≡ some y
    still slot y there = all.others slot (not_of_r slot y there) ∙ there

    pub ready_mail : (q e : ℕ) → In q v.rights → e < directions → seek (slot_at q e) new ≡ seek (slot_at q e) old.1
    ready_mail q e is way =
        let found = mail_there o left q e (counted_carries.mail q e is way) in
        still (slot_at q e) found.0 found.1 ∙ sym found.1 ∙ counted_mail q e is way

    ready_only : (slot : ℕ) (y : Slot) → seek slot new ≡ some y → IsMine ready slot
    ready_only slot y there = elim (which_place (suc directions) (λ k. slot_at r k) slot) [
      | inl hit ↦ of_right r hit.0 hit.1 hit.2 (inl refl)
      | inr not ↦ mine_still counted ready slot (λ q e is. is) (λ q is. inr is) (counted_carries.only slot y (sym (all.others slot not) ∙ there))
    ]

    pub ready_carries : Carries o ready new
    ready_carries = record {
      near = counted_carries.near;
      inside = λ q is. elim is [
        | inl same ↦ subst (λ (k : ℕ). k < tiles_in o) (sym same) (had.near r d lists).0
        | inr more ↦ had.inside q more
      ];
      apart = λ q e is right. elim right [
        | inl same ↦
            let way : e < directions = (counted_carries.near q e is).1 in
            not_of_r (slot_at q e) None (counted_carries.box q e is) e (omega (arith, way)) (ap (λ (k : ℕ). slot_at k e) same)
        | inr more ↦ counted_carries.apart q e is more
      ];
      box = λ q e is. still (slot_at q e) None (counted_carries.box q e is);
      home = λ t is. still (slot_at t directions) vacant (counted_carries.home t is);
      mail = λ q e is way. elim is [
        | inl same ↦ subst (λ (k : ℕ). HasMail o new k e) (sym same) (waits (all.parcel e) (all.mail e way) (all.is e way))
        | inr more ↦ mail_still o old.1 new q e (ready_mail q e more way) (had.mail q e more way)
      ];
      right = λ q is. elim is [
        | inl same ↦ ap (λ (k : ℕ). seek (slot_at k directions) new) same ∙ all.home
        | inr more ↦ still (slot_at q directions) vacant (counted_carries.right q more)
      ];
      only = ready_only;
      once = all.once;
    }

  seat_of : (w : View) (slots : List (ℕ × Slot)) → w.live ≡ true → w.opening ≡ Some o → Carries o w slots → Sits o (w, slots)
  seat_of w slots live opened carries = record { sound = sits.sound; opens = sits.opens; live = live; opened = opened; carries = carries }

  module _ (n : ℕ) (after : Me Slot View) (told : Arrived o r d slots me n after) where
    after_view : after.0 ≡ did_post directions r d n v
    after_view = told.view ∙ ap (λ (w : View). did_post directions r d n w) view

    counted_view : suc n < directions → did_post directions r d n v ≡ counted
    counted_view less =
        ap (λ (b : Bool). now_has v v.drawn v.told owed (if b then r ∷ v.rights else v.rights))
        (ne_eqb (suc n) directions (λ e. omega (arith, e, less)))

    ready_view : suc n ≡ directions → did_post directions r d n v ≡ now_has v v.drawn v.told owed (r ∷ v.rights)
    ready_view full = ap (λ (b : Bool). now_has v v.drawn v.told owed (if b then r ∷ v.rights else v.rights)) (eq-eqb (suc n) directions full)

    counted_after : suc n < directions → (counted, left) ≡ after
    counted_after less = λ i. (sym (after_view ∙ counted_view less) i, sym (told.counted less) i)

    pub posted_sits : Sits o after
    posted_sits = elim (ℕ_discrete (suc n) directions) [
      | yes full ↦ subst (λ (w : View). Sits o (w, after.1)) (sym (after_view ∙ ready_view full))
          (seat_of (now_has v v.drawn v.told owed (r ∷ v.rights)) after.1 sits.live sits.opened (ready_carries after.1 (told.last full)))
      | no apart ↦
          let less : suc n < directions = let few = told.few in omega (arith, few, apart) in
          subst (λ (m : Me Slot View). Sits o m) (counted_after less) (seat_of counted left sits.live sits.opened counted_carries)
    ]

    pub posted_mail : (q e : ℕ) → In q v.rights → e < directions → seek (slot_at q e) after.1 ≡ seek (slot_at q e) old.1
    posted_mail q e is way = elim (ℕ_discrete (suc n) directions) [
      | yes full ↦ ready_mail after.1 (told.last full) q e is way
      | no apart ↦
          let less : suc n < directions = let few = told.few in omega (arith, few, apart) in
          ap (λ (l : List (ℕ × Slot)). seek (slot_at q e) l) (told.counted less) ∙ counted_mail q e is way
    ]
