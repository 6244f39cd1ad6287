-- The mailboxes of a tile come first among the slots of a seat.
use Rattle.std.proofs.Common.{◌≡◌, ℕ, zero, suc, ◌+◌, ◌<◌, ◌≤◌, List, ◌∷◌, None, refl, sym, ap, ◌∙◌, subst, arith}
use Rattle.std.proofs.Math.Decide.{ℕ_discrete}
use mathlib.Core.Option.{none, some}
use Rattle.atomic_table.specs.Table.{Me}
use Rattle.pic_yard.specs.Fronts.{seek, drop_slot, to_front}
use Rattle.pic_tile.specs.Directions.{directions}
use Rattle.pic_yard.specs.declared.view.View.{View}
use Rattle.pic_yard.specs.Acts.{Apart}
use Rattle.pic_yard.specs.Contents.{Slot}
use Rattle.pic_yard.specs.Returns.{boxes_on, shed, all_shed, past}
use Rattle.pic_yard.specs.Sits.{slot_at}
use Rattle.pic_yard.proofs.CollectLaws.{slot_place}
use Rattle.pic_yard.proofs.SwapLaws.{seek_rest, drop_rest, dropped_else, dropped_none, dropped_once, front_is}

-- the slot is none of the first n mailboxes of r
abbrev pub IsNoBox : ℕ → ℕ → ℕ → Type 0
IsNoBox r n slot = (k : ℕ) → k < n → slot_at r k ≡ slot → ⊥

pub other_box : (r n k : ℕ) → n ≤ k → k < suc directions → IsNoBox r n (slot_at r k)
other_box r n k least most j below same =
    let is : j ≡ k = slot_place directions r j r k (omega (arith, below, least, most)) (omega (arith, most)) same in omega (arith, is, below, least)

pub stack_seek : (r n slot : ℕ) (xs : List (ℕ × Slot)) → IsNoBox r n slot → seek slot (boxes_on r n xs) ≡ seek slot xs
unfolding boxes_on
stack_seek r zero slot xs apart = refl
stack_seek r (suc n) slot xs apart =
    seek_rest slot (slot_at r n, None) (boxes_on r n xs) (apart n (omega arith)) ∙ stack_seek r n slot xs (λ k below. apart k (omega (arith, below)))

stack_drop : (r n slot : ℕ) (xs : List (ℕ × Slot)) → IsNoBox r n slot → drop_slot slot (boxes_on r n xs) ≡ boxes_on r n (drop_slot slot xs)
unfolding boxes_on
stack_drop r zero slot xs apart = refl
stack_drop r (suc n) slot xs apart =
    drop_rest slot (slot_at r n, None) (boxes_on r n xs) (apart n (omega arith))
    ∙ ap (λ (l : List (ℕ × Slot)). (slot_at r n, None) ∷ l) (stack_drop r n slot xs (λ k below. apart k (omega (arith, below))))

-- what is left has no mailbox of r, and all else as before
pub shed_else : (r n slot : ℕ) (xs : List (ℕ × Slot)) → IsNoBox r n slot → seek slot (shed r n xs) ≡ seek slot xs
unfolding shed
shed_else r zero slot xs apart = refl
shed_else r (suc n) slot xs apart =
    dropped_else slot (slot_at r n) (shed r n xs) (λ e. apart n (omega arith) (sym e)) ∙ shed_else r n slot xs (λ k below. apart k (omega (arith, below)))

pub shed_once : (r n : ℕ) (xs : List (ℕ × Slot)) → Apart xs → Apart (shed r n xs)
unfolding shed
shed_once r zero xs once = once
shed_once r (suc n) xs once = dropped_once (slot_at r n) (shed r n xs) (shed_once r n xs once)

pub shed_none : (r n k : ℕ) (xs : List (ℕ × Slot)) → n ≤ directions → Apart xs → k < n → seek (slot_at r k) (shed r n xs) ≡ none
unfolding shed
shed_none r zero k xs few once below = absurd (omega (arith, below))
shed_none r (suc n) k xs few once below = by_case (λ less. shed_none r n k xs (omega (arith, few)) once less)
  where
    by_case : (k < n → seek (slot_at r k) (shed r n xs) ≡ none) → seek (slot_at r k) (drop_slot (slot_at r n) (shed r n xs)) ≡ none
    by_case before = elim (ℕ_discrete k n) [
      | yes is ↦ subst (λ (j : ℕ). seek (slot_at r j) (drop_slot (slot_at r n) (shed r n xs)) ≡ none) (sym is)
          (dropped_none (slot_at r n) (shed r n xs) (shed_once r n xs once))
      | no apart ↦
          dropped_else (slot_at r k) (slot_at r n) (shed r n xs)
          (λ same. apart (slot_place directions r k r n (omega (arith, below, few)) (omega (arith, few)) same))
          ∙ before (omega (arith, below, apart))
    ]

-- one mailbox more comes first
pub stack_more : (r n : ℕ) (xs : List (ℕ × Slot)) → n < directions → seek (slot_at r n) xs ≡ some None
    → to_front (slot_at r n) (boxes_on r n (shed r n xs)) ≡ boxes_on r (suc n) (shed r (suc n) xs)
unfolding boxes_on shed
stack_more r n xs below there =
    let apart : IsNoBox r n (slot_at r n) = other_box r n n (omega arith) (omega (arith, below)) in
    let found : seek (slot_at r n) (boxes_on r n (shed r n xs)) ≡ some None =
    stack_seek r n (slot_at r n) (shed r n xs) apart ∙ shed_else r n (slot_at r n) xs apart ∙ there in
    front_is (slot_at r n) None (boxes_on r n (shed r n xs)) found
    ∙ ap (λ (l : List (ℕ × Slot)). (slot_at r n, None) ∷ l) (stack_drop r n (slot_at r n) (shed r n xs) apart)

pub no_stack : (r : ℕ) (xs : List (ℕ × Slot)) → boxes_on r 0 (shed r 0 xs) ≡ xs
unfolding boxes_on shed
no_stack r xs = refl

past_boxes : (r n : ℕ) (xs : List (ℕ × Slot)) → past n (boxes_on r n xs) ≡ xs
unfolding boxes_on past
past_boxes r zero xs = refl
past_boxes r (suc n) xs = past_boxes r n xs

-- behind the home slot and the mailboxes
pub past_all : (r : ℕ) (x : ℕ × Slot) (xs : List (ℕ × Slot)) → past (suc directions) (x ∷ boxes_on r directions xs) ≡ xs
unfolding past
past_all r x xs = past_boxes r directions xs

-- the home slot lies behind them as before
pub home_seek : (r : ℕ) (xs : List (ℕ × Slot)) → seek (slot_at r directions) (boxes_on r directions (shed r directions xs)) ≡ seek (slot_at r directions) xs
home_seek r xs =
    let apart : IsNoBox r directions (slot_at r directions) = other_box r directions directions (omega arith) (omega arith) in
    stack_seek r directions (slot_at r directions) (shed r directions xs) apart ∙ shed_else r directions (slot_at r directions) xs apart

pub home_drop : (r : ℕ) (xs : List (ℕ × Slot))
    → drop_slot (slot_at r directions) (boxes_on r directions (shed r directions xs)) ≡ boxes_on r directions (all_shed r xs)
home_drop r xs = stack_drop r directions (slot_at r directions) (shed r directions xs) (other_box r directions directions (omega arith) (omega arith))

pub stack_next : (old before after : Me Slot View) (r n slot : ℕ) → n < directions → slot ≡ slot_at r n
    → before ≡ (old.0, boxes_on r n (shed r n old.1)) → seek (slot_at r n) old.1 ≡ some None → after ≡ (before.0, to_front slot before.1)
    → after ≡ (old.0, boxes_on r (n + 1) (shed r (n + 1) old.1))
stack_next old before after r n slot below at is there front =
    let next : suc n ≡ n + 1 = omega arith in
    front ∙ ap (λ (k : ℕ). (before.0, to_front k before.1)) at ∙ ap (λ (me : Me Slot View). (me.0, to_front (slot_at r n) me.1)) is
    ∙ ap (λ (l : List (ℕ × Slot)). (old.0, l)) (stack_more r n old.1 below there) ∙ ap (λ (k : ℕ). (old.0, boxes_on r k (shed r k old.1))) next
