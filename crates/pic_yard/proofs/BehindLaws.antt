-- The slots of a seat behind those that a post gives.
use Rattle.std.proofs.Common.{◌≡◌, ℕ, List, ◌∷◌, Bool, eqb, eq-eqb, ne_eqb, if◌then◌else◌, sym, ap, ◌∙◌, subst}
use Rattle.std.proofs.Math.Decide.{ℕ_discrete}
use mathlib.Core.Option.{none, some}
use Rattle.atomic_table.specs.Table.{Me, Act, chain, gives, rest}
use Rattle.pic_yard.specs.Fronts.{seek}
use Rattle.pic_tile.specs.Directions.{directions, here}
use Rattle.pic_yard.specs.declared.opening.Opening.{Opening}
use Rattle.pic_yard.specs.declared.view.View.{View}
use Rattle.pic_yard.specs.Acts.{Apart}
use Rattle.pic_yard.specs.Arrivals.{behind, IsAboutToPost}
use Rattle.pic_yard.specs.Contents.{Slot, vacant}
use Rattle.pic_yard.specs.Sits.{slot_at}

-- how often a post gives its first slot: with the parcel of no step the home slot goes too
unfoldable pub post_act : ℕ → Act Slot
post_act d = if eqb d here then chain gives gives else gives

module _ (d : ℕ) (slots : List (ℕ × Slot)) where
  pub behind_here : d ≡ here → behind d slots ≡ rest slots
  unfolding behind
  behind_here is = ap (λ (b : Bool). if b then rest slots else slots) (eq-eqb d here is)

  pub behind_step : (d ≡ here → ⊥) → behind d slots ≡ slots
  unfolding behind
  behind_step apart = ap (λ (b : Bool). if b then rest slots else slots) (ne_eqb d here apart)

  pub act_here : d ≡ here → post_act d ≡ chain gives gives
  unfolding post_act
  act_here is = ap (λ (b : Bool). if b then chain gives gives else gives) (eq-eqb d here is)

  pub act_step : (d ≡ here → ⊥) → post_act d ≡ gives
  unfolding post_act
  act_step apart = ap (λ (b : Bool). if b then chain gives gives else gives) (ne_eqb d here apart)

module _ (o : Opening) (me : Me Slot View) (r d : ℕ) (parcel : Slot) (slots : List (ℕ × Slot)) (load : IsAboutToPost o me r d parcel slots) where
  abbrev box : ℕ
  box = slot_at r d

  abbrev home : ℕ
  home = slot_at r directions

  once : (seek box slots ≡ none) × Apart slots
  once = subst (λ (c : List (ℕ × Slot)). Apart c) load.first load.once

  two : d ≡ here → (seek home (rest slots) ≡ none) × Apart (rest slots)
  two is = subst (λ (c : List (ℕ × Slot)). Apart c) (load.home is) once.1

  -- the mailbox lies there no more, nor does the home slot, and no slot twice
  pub gone_box : (home ≡ box → ⊥) → seek box (behind d slots) ≡ none
  gone_box differs = elim (ℕ_discrete d here) [
    | yes is ↦
        let skip : seek box ((home, vacant) ∷ rest slots) ≡ seek box (rest slots) =
        ap (λ (b : Bool). if b then some vacant else seek box (rest slots)) (ne_eqb home box differs) in
        ap (λ (c : List (ℕ × Slot)). seek box c) (behind_here d slots is) ∙ sym skip
        ∙ ap (λ (c : List (ℕ × Slot)). seek box c) (sym (load.home is)) ∙ once.0
    | no apart ↦ ap (λ (c : List (ℕ × Slot)). seek box c) (behind_step d slots apart) ∙ once.0
  ]

  pub gone_home : d ≡ here → seek home (behind d slots) ≡ none
  gone_home is = ap (λ (c : List (ℕ × Slot)). seek home c) (behind_here d slots is) ∙ (two is).0

  pub once_behind : Apart (behind d slots)
  once_behind = elim (ℕ_discrete d here) [
    | yes is ↦ subst (λ (c : List (ℕ × Slot)). Apart c) (sym (behind_here d slots is)) (two is).1
    | no apart ↦ subst (λ (c : List (ℕ × Slot)). Apart c) (sym (behind_step d slots apart)) once.1
  ]
