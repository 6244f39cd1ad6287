-- What a seat owns of its slots is the same in another order. Assumes `Logic`.
use Rattle.std.proofs.Common.{◌≡◌, ℕ, ◌<◌, Bool, true, false, eqb, eqb-true, refl, subst, List, [], ◌∷◌, if◌then◌else◌}
use mathlib.Core.Option.{Option, none, some}
use seplogic.Ra.Ura.{Ura}
use base.Share.{three_quarters}
use base.Stored.{Coded}
use base.Logic.{ent, id⊢}
use base.Fml.{Fml}
use types.Logic.{Logic, sem}
use types.Kit.{‵, ◌$◌, ◌∵◌, !, qed, by, move, frame, fsplit3, use1, done}
use denote.RattleType.{RattleType}
use Rattle.atomic_table.specs.Seated.{TableId, fact, seen, tracked, carried, age, place, names, mine}
use Rattle.pic_yard.specs.Fronts.{seek, drop_slot, put_first, to_front}

module _ {M : Type 1} {𝓤 : Ura M} (𝓛 : Logic 𝓤) (R : RattleType) {V : Type 0} (cv : Coded V) (z : TableId) where
  abbrev Slots : Type 0
  Slots = List (ℕ × R.Denot)

  abbrev out : Slots → Fml
  out = carried (age z) R (place z) (names z) z.slots

  abbrev Gives : Slots → Slots → Type 1
  Gives xs ys = ent 𝓤 (sem 𝓛 (out xs)) (sem 𝓛 (out ys))

  abbrev near : ℕ → Fml
  near k = fact (k < z.slots)

  abbrev at : ℕ → R.Denot → Fml
  at k y = tracked (age z) R (place z) (names z) k y

  -- one slot more stands before those among which k is brought to the front
  past : (k : ℕ) (x : ℕ × R.Denot) (xs ys : Slots) (found : Option R.Denot) → Gives xs (put_first k found ys) → Gives (x ∷ xs) (put_first k found (x ∷ ys))
  past k x xs ys none rest = qed 𝓛 (‵ (near x.0) ∷ ‵ (at x.0 x.1) ∷ ‵ (out xs) ∷ []) ∵ frame ! $ frame ! $ by ! rest
  past k x xs ys (some y) rest = qed 𝓛 (‵ (near x.0) ∷ ‵ (at x.0 x.1) ∷ ‵ (out xs) ∷ []) ∵ move ! (2 ∷ []) $
      use1 𝓛 (‵ (out ((k, y) ∷ ys))) rest $ fsplit3 ! $ frame ! $ frame ! $ move ! (1 ∷ 2 ∷ []) $ done !

  chosen : (k : ℕ) (x : ℕ × R.Denot) (xs : Slots) (is : Bool) → eqb x.0 k ≡ is → Gives xs (to_front k xs)
      → Gives (x ∷ xs) (put_first k (if is then some x.1 else seek k xs) (if is then xs else x ∷ drop_slot k xs))
  chosen k x xs true e rest = subst (λ (j : ℕ). Gives (x ∷ xs) ((j, x.1) ∷ xs)) (eqb-true x.0 k e) (id⊢ 𝓤 _)
  chosen k x xs false e rest = past k x xs (drop_slot k xs) (seek k xs) rest

  brought : (k : ℕ) (xs : Slots) → Gives xs (to_front k xs)
  brought k [] = id⊢ 𝓤 _
  brought k (x ∷ xs) = chosen k x xs (eqb x.0 k) refl (brought k xs)

  -- a seat whose slots come in the new order
  pub fronts : (id : ℕ) (v : V) (k : ℕ) (cs : Slots) → ent 𝓤 (sem 𝓛 (mine R cv.code z id (v, cs))) (sem 𝓛 (mine R cv.code z id (v, to_front k cs)))
  fronts id v k cs = qed 𝓛 (‵ (seen cv.code z.views_name id three_quarters v) ∷ ‵ (out cs) ∷ []) ∵ frame ! $ by ! (brought k cs)
