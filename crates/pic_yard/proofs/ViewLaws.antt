-- The views of all seats, after one of them is changed.
use Rattle.std.proofs.Common.{◌≡◌, ℕ, zero, suc, ◌<◌, ◌⊎◌, List, [], ◌∷◌, ◌++◌, length, true, set, inl, inr, refl, sym, ap, ◌∙◌, subst, arith}
use Rattle.std.proofs.Math.Decide.{ℕ_discrete}
use mathlib.Core.Option.{some, some-injective, some-ne-none}
use lib.ListN.{get_elem?}
use Rattle.atomic_table.proofs.Lists.{at_set, set_here, set_else}
use Rattle.pic_yard.specs.declared.view.View.{View}
use Rattle.pic_yard.specs.Marks.{Lists}

-- what holds of each view but that of the seat j, and of the new view of j, holds of all
pub each_view : (P : ℕ → View → Type 0) (views : List View) (j : ℕ) (u : View)
    → (u.live ≡ true → P j u) → ((i : ℕ) (x : View) → (i ≡ j → ⊥) → get_elem? views i ≡ some x → x.live ≡ true → P i x)
    → (i : ℕ) (x : View) → get_elem? (set views j u) i ≡ some x → x.live ≡ true → P i x
each_view P views j u mine others i x there live =
    let split : ((i ≡ j) × (u ≡ x)) ⊎ ((i ≡ j → ⊥) × (get_elem? views i ≡ some x)) = at_set views j i u x there in
    elim split [
      | inl same ↦
          let here : P j u = mine (ap (λ (v : View). v.live) same.1 ∙ live) in
          subst (λ (k : ℕ). P k x) (sym same.0) (subst (λ (v : View). P j v) same.1 here)
      | inr other ↦ others i x other.0 other.1 live
    ]

module _ {A : Type 0} where
  pub below_there : (xs : List A) (i : ℕ) (x : A) → get_elem? xs i ≡ some x → i < length xs
  below_there [] i x is = absurd (some-ne-none x (sym is))
  below_there (y ∷ ys) zero x is = omega arith
  below_there (y ∷ ys) (suc i) x is = let rest : i < length ys = below_there ys i x is in omega arith

  -- with one more at the end
  pub at_end : (xs : List A) (a : A) (i : ℕ) (x : A) → get_elem? (xs ++ a ∷ []) i ≡ some x
      → (get_elem? xs i ≡ some x) ⊎ ((i ≡ length xs) × (a ≡ x))
  at_end [] a zero x is = inr (refl, some-injective a x is)
  at_end [] a (suc i) x is = absurd (some-ne-none x (sym is))
  at_end (y ∷ ys) a zero x is = inl is
  at_end (y ∷ ys) a (suc i) x is =
      elim (at_end ys a i x is) [ inl there ↦ inl there | inr last ↦ inr (ap (λ (k : ℕ). suc k) last.0, last.1) ]

-- what a seat lists it lists still, where the seat that is changed does
pub lists_still : (views : List View) (j : ℕ) (v u : View) (c : ℕ) (What : View → Type 0) → get_elem? views j ≡ some v → u.live ≡ true
    → (What v → What u) → Lists views c What → Lists (set views j u) c What
lists_still views j v u c What there live keeps l = elim (ℕ_discrete c j) [
  | yes is ↦
      let found : get_elem? views j ≡ some l.view = subst (λ (k : ℕ). get_elem? views k ≡ some l.view) is l.there in
      let same : l.view ≡ v = some-injective l.view v (sym found ∙ there) in
      record {
        view = u;
        there = subst (λ (k : ℕ). get_elem? (set views j u) k ≡ some u) (sym is) (set_here views j u (below_there views j v there));
        live = live;
        lists = keeps (subst What same l.lists);
      }
  | no apart ↦ record { view = l.view; there = set_else views j c u apart ∙ l.there; live = l.live; lists = l.lists }
]

-- and the changed seat lists what its new view does
pub lists_now : (views : List View) (j : ℕ) (v u : View) (c : ℕ) (What : View → Type 0) → get_elem? views j ≡ some v → u.live ≡ true
    → c ≡ j → What u → Lists (set views j u) c What
lists_now views j v u c What there live is what = record {
  view = u;
  there = subst (λ (k : ℕ). get_elem? (set views j u) k ≡ some u) (sym is) (set_here views j u (below_there views j v there));
  live = live;
  lists = what;
}
