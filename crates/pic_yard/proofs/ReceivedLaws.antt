-- What a seat has when a parcel is received, and when a tile is given back.
use Rattle.std.proofs.Common.{◌≡◌, ℕ, suc, ◌<◌, List, eqb, ne_eqb, None, sym, ap, ◌∙◌, subst, arith}
use Rattle.std.proofs.Math.Decide.{ℕ_discrete}
use Rattle.std.proofs.lemmas.Bool.{eqb-false}
use mathlib.Core.Option.{none, some, some-ne-none}
use Rattle.atomic_table.specs.Table.{Me}
use Rattle.pic_yard.specs.Fronts.{seek}
use Rattle.pic_tile.specs.Directions.{directions, here}
use Rattle.pic_yard.specs.declared.opening.Opening.{Opening}
use Rattle.pic_yard.specs.declared.view.View.{View}
use Rattle.pic_yard.specs.Contents.{Slot}
use Rattle.pic_yard.specs.Members.{In}
use Rattle.pic_yard.specs.Returns.{shed, all_shed}
use Rattle.pic_yard.specs.Sits.{slot_at, IsMine, a_box, a_home, of_right, received, Carries, Sits}
use Rattle.pic_yard.specs.Steps.{gave_back}
use Rattle.pic_yard.proofs.ClaimedLaws.{box_not_home, mail_still}
use Rattle.pic_yard.proofs.CollectLaws.{slot_row, slot_place}
use Rattle.pic_yard.proofs.MemberLaws.{kept, was_in, unseen_in}
use Rattle.pic_yard.proofs.StackLaws.{shed_else, shed_once, shed_none}
use Rattle.pic_yard.proofs.SwapLaws.{Swapped, dropped_else, dropped_none, dropped_once}

-- a mailbox of a right is emptied
module _ (o : Opening) (me : Me Slot View) (r d : ℕ) (sits : Sits o me) (right : In r me.0.rights) (dir : d < directions) (slots : List (ℕ × Slot))
    (took : Swapped (slot_at r d) None me.1 slots) where
  abbrev had : Carries o me.0 me.1
  had = sits.carries

  pub mail_else : (q e : ℕ) → e < directions → ((q ≡ r) × (e ≡ d) → ⊥) → seek (slot_at q e) slots ≡ seek (slot_at q e) me.1
  mail_else q e way apart = took.others (slot_at q e) (λ same. apart (both same))
    where
      both : slot_at q e ≡ slot_at r d → (q ≡ r) × (e ≡ d)
      both same = (
        slot_row directions q e r d (omega (arith, way)) (omega (arith, dir)) same,
        slot_place directions q e r d (omega (arith, way)) (omega (arith, dir)) same,
      )

  home_else : (t : ℕ) → seek (slot_at t directions) slots ≡ seek (slot_at t directions) me.1
  home_else t = took.others (slot_at t directions) (λ same. box_not_home r d t dir (sym same))

  not_owed : (q e : ℕ) → In (q, e) me.0.owes → (q ≡ r) × (e ≡ d) → ⊥
  not_owed q e is both = had.apart q e is (subst (λ (k : ℕ). In k me.0.rights) (sym both.0) right)

  pub received_sits : Sits o (me.0, slots)
  received_sits = record {
    sound = sits.sound;
    opens = sits.opens;
    live = sits.live;
    opened = sits.opened;
    carries = record {
      near = had.near;
      inside = had.inside;
      apart = had.apart;
      box = λ q e is. mail_else q e (had.near q e is).1 (not_owed q e is) ∙ had.box q e is;
      home = λ t is. home_else t ∙ had.home t is;
      mail = λ q e is way. elim (ℕ_discrete (slot_at q e) (slot_at r d)) [
        | yes same ↦ received (ap (λ (slot : ℕ). seek slot slots) same ∙ took.here)
        | no apart ↦ mail_still o me.1 slots q e (took.others (slot_at q e) apart) (had.mail q e is way)
      ];
      right = λ q is. home_else q ∙ had.right q is;
      only = λ slot y there. elim (ℕ_discrete slot (slot_at r d)) [
        | yes same ↦ of_right r d (omega (arith, dir)) same right
        | no apart ↦ had.only slot y (sym (took.others slot apart) ∙ there)
      ];
      once = took.once;
    };
  }

-- the slots of a right go home
module _ (o : Opening) (me : Me Slot View) (r : ℕ) (sits : Sits o me) (is_right : In r me.0.rights) where
  abbrev held : Carries o me.0 me.1
  held = sits.carries

  abbrev home : ℕ
  home = slot_at r directions

  abbrev slots : List (ℕ × Slot)
  slots = all_shed r me.1

  abbrev after : View
  after = gave_back r me.0

  -- a slot of another tile has what it had
  still : (q k : ℕ) → k < suc directions → (q ≡ r → ⊥) → seek (slot_at q k) slots ≡ seek (slot_at q k) me.1
  still q k below apart =
      dropped_else (slot_at q k) home (shed r directions me.1) (λ same. apart (slot_row directions q k r directions below (omega arith) same))
      ∙ shed_else r directions (slot_at q k) me.1
      (λ j less same. apart (sym (slot_row directions r j q k (omega (arith, less)) below same)))

  gone : (k : ℕ) → k < suc directions → seek (slot_at r k) slots ≡ none
  gone k below = elim (ℕ_discrete k directions) [
    | yes is ↦ subst (λ (j : ℕ). seek (slot_at r j) slots ≡ none) (sym is)
        (dropped_none home (shed r directions me.1) (shed_once r directions me.1 held.once))
    | no apart ↦
        let less : k < directions = omega (arith, below, apart) in
        dropped_else (slot_at r k) home (shed r directions me.1) (box_not_home r k r less)
        ∙ shed_none r directions k me.1 (omega arith) held.once less
  ]

  else_tile : (q e : ℕ) → In (q, e) me.0.owes → q ≡ r → ⊥
  else_tile q e is same = held.apart q e is (subst (λ (k : ℕ). In k me.0.rights) (sym same) is_right)

  was : (q : ℕ) → In q after.rights → In q me.0.rights
  was q = was_in (eqb r) q me.0.rights

  pub else_right : (q : ℕ) → In q after.rights → q ≡ r → ⊥
  else_right q is same = eqb-false r q (unseen_in (eqb r) q me.0.rights is) (sym same)

  pub back_mail : (q e : ℕ) → In q after.rights → e < directions → seek (slot_at q e) slots ≡ seek (slot_at q e) me.1
  back_mail q e is way = still q e (omega (arith, way)) (else_right q is)

  mine : (slot : ℕ) → ((k : ℕ) → k < suc directions → slot ≡ slot_at r k → ⊥) → IsMine me.0 slot → IsMine after slot
  mine slot apart (a_box q e way same is) = a_box q e way same is
  mine slot apart (a_home t same is) = a_home t same is
  mine slot apart (of_right q k below same is) = of_right q k below same
      (kept (eqb r) q me.0.rights is (ne_eqb r q (λ e. apart k below (same ∙ ap (λ (j : ℕ). slot_at j k) (sym e)))))

  only : (slot : ℕ) (y : Slot) → seek slot slots ≡ some y → IsMine after slot
  only slot y there =
      let apart : (k : ℕ) → k < suc directions → slot ≡ slot_at r k → ⊥ = λ k below same.
      some-ne-none y (sym there ∙ ap (λ (j : ℕ). seek j slots) same ∙ gone k below) in
      let as_was : seek slot slots ≡ seek slot me.1 =
      dropped_else slot home (shed r directions me.1) (apart directions (omega arith))
      ∙ shed_else r directions slot me.1 (λ k less same. apart k (omega (arith, less)) (sym same)) in
      mine slot apart (held.only slot y (sym as_was ∙ there))

  pub back_sits : Sits o (after, slots)
  back_sits = record {
    sound = sits.sound;
    opens = sits.opens;
    live = sits.live;
    opened = sits.opened;
    carries = record {
      near = held.near;
      inside = λ q is. held.inside q (was q is);
      apart = λ q e is right. held.apart q e is (was q right);
      box = λ q e is. let way : e < directions = (held.near q e is).1 in still q e (omega (arith, way)) (else_tile q e is) ∙ held.box q e is;
      home = λ t is. still t directions (omega arith) (else_tile t here is) ∙ held.home t is;
      mail = λ q e is way. mail_still o me.1 slots q e (back_mail q e is way) (held.mail q e (was q is) way);
      right = λ q is. still q directions (omega arith) (else_right q is) ∙ held.right q (was q is);
      only = only;
      once = dropped_once home (shed r directions me.1) (shed_once r directions me.1 held.once);
    };
  }
