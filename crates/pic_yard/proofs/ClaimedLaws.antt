-- What a seat has after a draw.
use Rattle.std.proofs.Common.{◌≡◌, ℕ, ◌<◌, List, None, inl, inr, sym, ap, ◌∙◌, subst, arith}
use Rattle.std.proofs.Math.Decide.{ℕ_discrete}
use mathlib.Core.Option.{some, some-ne-none}
use Rattle.atomic_table.specs.Table.{Me}
use Rattle.pic_yard.specs.Fronts.{seek}
use Rattle.pic_tile.specs.Directions.{directions, here}
use Rattle.pic_yard.specs.declared.opening.Opening.{Opening}
use Rattle.pic_yard.specs.declared.view.View.{View}
use Rattle.pic_yard.specs.Contents.{Slot, vacant, tiles_in, to_of}
use Rattle.pic_yard.specs.Members.{In}
use Rattle.pic_yard.specs.Sits.{slot_at, IsMine, a_box, a_home, of_right, HasMail, waits, received, Carries, Sits, IsOfClaim, claim_box, claim_home, Claimed}
use Rattle.pic_yard.specs.Steps.{boxes_of, did_claim, was_told}
use Rattle.pic_yard.proofs.CollectLaws.{slot_place}
use Rattle.pic_yard.proofs.MemberLaws.{in_left, in_right, in_parts, in_boxes, boxes_in}
use Rattle.pic_yard.proofs.SwapLaws.{Swapped}
use Rattle.pic_yard.proofs.WayLaws.{ways_of}

-- a mailbox is no home slot
pub box_not_home : (r d t : ℕ) → d < directions → slot_at r d ≡ slot_at t directions → ⊥
box_not_home r d t dir same =
    let col : d ≡ directions = slot_place directions r d t directions (omega (arith, dir)) (omega arith) same in omega (arith, col, dir)

-- a mailbox that lies there has something
pub mail_there : (o : Opening) (slots : List (ℕ × Slot)) (r d : ℕ) → HasMail o slots r d → (y : Slot) × (seek (slot_at r d) slots ≡ some y)
mail_there o slots r d (waits y there is) = (y, there)
mail_there o slots r d (received there) = (None, there)

-- what lies there is the same
pub mail_still : (o : Opening) (old new : List (ℕ × Slot)) (r d : ℕ) → seek (slot_at r d) new ≡ seek (slot_at r d) old → HasMail o old r d → HasMail o new r d
mail_still o old new r d same (waits y there is) = waits y (same ∙ there) is
mail_still o old new r d same (received there) = received (same ∙ there)

-- a seat that lists no less may move what it could
pub mine_still : (v w : View) (slot : ℕ) → ((r d : ℕ) → In (r, d) v.owes → In (r, d) w.owes) → ((r : ℕ) → In r v.rights → In r w.rights)
    → IsMine v slot → IsMine w slot
mine_still v w slot owes rights (a_box r d dir same is) = a_box r d dir same (owes r d is)
mine_still v w slot owes rights (a_home t same is) = a_home t same (owes t here is)
mine_still v w slot owes rights (of_right r k below same is) = of_right r k below same (rights r is)

-- a seat that was told that no tile is left
pub told_sits : (o : Opening) (me : Me Slot View) (n : ℕ) → Sits o me → Sits o (was_told n me.0, me.1)
told_sits o me n sits = record {
  sound = sits.sound;
  opens = sits.opens;
  live = sits.live;
  opened = sits.opened;
  carries = record {
    near = sits.carries.near;
    inside = sits.carries.inside;
    apart = sits.carries.apart;
    box = sits.carries.box;
    home = sits.carries.home;
    mail = sits.carries.mail;
    right = sits.carries.right;
    only = λ slot y there. mine_still me.0 (was_told n me.0) slot (λ r d is. is) (λ r is. is) (sits.carries.only slot y there);
    once = sits.carries.once;
  };
}

module _ (o : Opening) (me mid : Me Slot View) (n : ℕ) (sits : Sits o me) (tile : n < tiles_in o) (told : Claimed o me n mid)
    (slots : List (ℕ × Slot)) (took : Swapped (slot_at n directions) vacant mid.1 slots) where
  abbrev after : View
  after = did_claim (to_of o) directions n me.0

  abbrev had : Carries o me.0 me.1
  had = sits.carries

  -- what lies with the seat lies there still, but for the home slot of the tile
  still : (slot : ℕ) (y : Slot) → (slot ≡ slot_at n directions → ⊥) → seek slot me.1 ≡ some y → seek slot slots ≡ some y
  still slot y apart there = took.others slot apart ∙ told.kept slot y there

  home_still : (t : ℕ) → seek (slot_at t directions) me.1 ≡ some vacant → seek (slot_at t directions) slots ≡ some vacant
  home_still t there = elim (ℕ_discrete (slot_at t directions) (slot_at n directions)) [
    | yes same ↦ ap (λ (slot : ℕ). seek slot slots) same ∙ took.here
    | no apart ↦ still (slot_at t directions) vacant apart there
  ]

  -- a mailbox of a right has what it had
  pub claim_mail : (r d : ℕ) → In r me.0.rights → d < directions → seek (slot_at r d) slots ≡ seek (slot_at r d) me.1
  claim_mail r d is dir =
      let found = mail_there o me.1 r d (had.mail r d is dir) in
      still (slot_at r d) found.0 (box_not_home r d n dir) found.1 ∙ sym found.1

  own : to_of o n here ≡ n
  own = (ways_of o).stays n tile

  claimed_mine : (slot : ℕ) → IsOfClaim o n slot → IsMine after slot
  claimed_mine slot (claim_box d dir same) = a_box (to_of o n d) d dir same
      (in_left (to_of o n d, d) (boxes_of (to_of o n) directions) me.0.owes (in_boxes (to_of o n) d directions dir))
  claimed_mine slot (claim_home same) =
      let is : In (to_of o n here, here) after.owes =
      in_left (to_of o n here, here) (boxes_of (to_of o n) directions) me.0.owes (in_boxes (to_of o n) here directions (omega arith)) in
      a_home n same (subst (λ (t : ℕ). In (t, here) after.owes) own is)

  mine_more : (slot : ℕ) → IsMine me.0 slot → IsMine after slot
  mine_more slot = mine_still me.0 after slot (λ r d is. in_right (r, d) (boxes_of (to_of o n) directions) me.0.owes is) (λ r is. is)

  only : (slot : ℕ) (y : Slot) → seek slot slots ≡ some y → IsMine after slot
  only slot y there = elim (ℕ_discrete slot (slot_at n directions)) [
    | yes same ↦ claimed_mine slot (claim_home same)
    | no apart ↦ elim (told.came slot y (sym (took.others slot apart) ∙ there)) [
      | inl new ↦ claimed_mine slot new
      | inr old ↦ mine_more slot (had.only slot y old)
    ]
  ]

  claim_carries : Carries o after slots
  claim_carries = record {
    near = λ r d is. elim (in_parts (r, d) (boxes_of (to_of o n) directions) me.0.owes is) [
      | inl new ↦ let is_new = boxes_in (to_of o n) r d directions new in
          (subst (λ (q : ℕ). q < tiles_in o) (sym is_new.1) ((ways_of o).to_below n d tile is_new.0), is_new.0)
      | inr old ↦ had.near r d old
    ];
    inside = had.inside;
    apart = λ r d is right. elim (in_parts (r, d) (boxes_of (to_of o n) directions) me.0.owes is) [
      | inl new ↦ let is_new = boxes_in (to_of o n) r d directions new in
          let found = mail_there o me.1 r d (had.mail r d right is_new.0) in
          some-ne-none found.0 (sym found.1 ∙ ap (λ (q : ℕ). seek (slot_at q d) me.1) is_new.1 ∙ told.fresh d is_new.0)
      | inr old ↦ had.apart r d old right
    ];
    box = λ r d is. elim (in_parts (r, d) (boxes_of (to_of o n) directions) me.0.owes is) [
      | inl new ↦ let is_new = boxes_in (to_of o n) r d directions new in
          took.others (slot_at r d) (box_not_home r d n is_new.0) ∙ ap (λ (q : ℕ). seek (slot_at q d) mid.1) is_new.1 ∙ told.boxes d is_new.0
      | inr old ↦ still (slot_at r d) None (box_not_home r d n (had.near r d old).1) (had.box r d old)
    ];
    home = λ t is. elim (in_parts (t, here) (boxes_of (to_of o n) directions) me.0.owes is) [
      | inl new ↦ let is_new = boxes_in (to_of o n) t here directions new in
          ap (λ (q : ℕ). seek (slot_at q directions) slots) (is_new.1 ∙ own) ∙ took.here
      | inr old ↦ home_still t (had.home t old)
    ];
    mail = λ r d is dir. mail_still o me.1 slots r d (claim_mail r d is dir) (had.mail r d is dir);
    right = λ r is. home_still r (had.right r is);
    only = only;
    once = took.once;
  }

  pub claim_sits : Sits o (mid.0, slots)
  claim_sits = subst (λ (v : View). Sits o (v, slots)) (sym told.view) (record {
    sound = sits.sound;
    opens = sits.opens;
    live = sits.live;
    opened = sits.opened;
    carries = claim_carries;
  })
