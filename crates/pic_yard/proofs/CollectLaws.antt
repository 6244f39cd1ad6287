-- Slots taken in one step: they are away afterwards, and all others as before.
use Rattle.std.proofs.Common.{◌≡◌, ℕ, zero, suc, ◌+◌, ◌*◌, ◌<◌, ◌≤◌, ◌⊎◌, List, [], ◌∷◌, ◌++◌, length, length-set, Bool, eqb, eq-eqb, ne_eqb, if◌then◌else◌}
use Rattle.std.proofs.Common.{set, inl, inr, refl, sym, ap, ◌∙◌, subst, arith}
use Rattle.std.proofs.Math.Decide.{ℕ_discrete}
use mathlib.Core.Option.{Option, none, some}
use lib.ListN.{get_elem?}
use Rattle.atomic_table.specs.Table.{Act, Valid, keeps, takes, chain, homes_after, carried_after}
use Rattle.atomic_table.proofs.Lists.{set_here, set_else}
use Rattle.pic_yard.specs.Fronts.{seek}
use Rattle.pic_tile.proofs.ZoneLaws.{row_end}
use Rattle.pic_yard.specs.Acts.{Apart}
use Rattle.pic_yard.specs.Places.{IsHome, slot_in}
use Rattle.pic_yard.proofs.ViewLaws.{below_there}

-- equal slots have equal tiles and places
pub slot_row : (dirs r k q l : ℕ) → k < suc dirs → l < suc dirs → slot_in dirs r k ≡ slot_in dirs q l → r ≡ q
slot_row dirs r k q l first second same =
    let a : ℕ = r * suc dirs in let b : ℕ = q * suc dirs in let is : a + k ≡ b + l = same in
    let low : r < q → ⊥ = λ less. let e : a + suc dirs ≤ b = row_end r q (suc dirs) less in omega (arith, e, is, first) in
    let high : q < r → ⊥ = λ less. let e : b + suc dirs ≤ a = row_end q r (suc dirs) less in omega (arith, e, is, second) in
    omega (arith, low, high)

pub slot_place : (dirs r k q l : ℕ) → k < suc dirs → l < suc dirs → slot_in dirs r k ≡ slot_in dirs q l → k ≡ l
slot_place dirs r k q l first second same =
    let a : ℕ = r * suc dirs in let b : ℕ = q * suc dirs in let is : a + k ≡ b + l = same in
    let rows : a ≡ b = ap (λ (t : ℕ). t * suc dirs) (slot_row dirs r k q l first second same) in
    omega (arith, is, rows)

-- a number is one of the places, or none of them
pub which_place : (n : ℕ) (place : ℕ → ℕ) (at : ℕ) → ((k : ℕ) × (k < n) × (at ≡ place k)) ⊎ ((k : ℕ) → k < n → at ≡ place k → ⊥)
which_place zero place at = inr (λ k below same. omega (arith, below))
which_place (suc n) place at = elim (ℕ_discrete at (place n)) [
  | yes is ↦ inl (n, omega arith, is)
  | no apart ↦ elim (which_place n place at) [
    | inl hit ↦ let below : hit.0 < n = hit.1 in inl (hit.0, omega (arith, below), hit.2)
    | inr not ↦ inr (λ k below same. elim (ℕ_discrete k n) [
      | yes is ↦ apart (same ∙ ap place is)
      | no differs ↦ not k (omega (arith, below, differs)) same
    ])
  ]
]

module _ {S : Type 0} where
  -- all these slots are taken, each with its value; the first of the list comes to lie first
  abbrev pub take_all : List (ℕ × S) → Act S
  take_all [] = keeps
  take_all (x ∷ xs) = chain (take_all xs) (takes x.0 x.1)

  abbrev pub cleared : List (Option S) → List (ℕ × S) → List (Option S)
  cleared homes [] = homes
  cleared homes (x ∷ xs) = set (cleared homes xs) x.0 none

  pub homes_cleared : (homes : List (Option S)) (c xs : List (ℕ × S)) → homes_after homes c (take_all xs) ≡ cleared homes xs
  homes_cleared homes c [] = refl
  homes_cleared homes c (x ∷ xs) = ap (λ (hs : List (Option S)). set hs x.0 none) (homes_cleared homes c xs)

  pub all_carried : (c xs : List (ℕ × S)) → carried_after c (take_all xs) ≡ xs ++ c
  all_carried c [] = refl
  all_carried c (x ∷ xs) = ap (λ (ys : List (ℕ × S)). x ∷ ys) (all_carried c xs)

  -- the slots place 0, .., place (n - 1) are taken, where the k-th has P k
  pub record Collected (homes : List (Option S)) (n : ℕ) (place : ℕ → ℕ) (P : ℕ → S → Type 0) : Type 0 where
    pub list : List (ℕ × S)
    pub valid : (c : List (ℕ × S)) → Valid homes c (take_all list)
    pub away : (k : ℕ) → k < n → get_elem? (cleared homes list) (place k) ≡ some none
    pub others : (at : ℕ) → ((k : ℕ) → k < n → at ≡ place k → ⊥) → get_elem? (cleared homes list) at ≡ get_elem? homes at
    pub stays : (at : ℕ) → get_elem? homes at ≡ some none → get_elem? (cleared homes list) at ≡ some none
    pub long : length (cleared homes list) ≡ length homes
    pub value : ℕ → S
    pub is : (k : ℕ) → k < n → P k (value k)
    pub found : (k : ℕ) → k < n → (c : List (ℕ × S)) → seek (place k) (list ++ c) ≡ some (value k)
    pub past : (at : ℕ) → ((k : ℕ) → k < n → at ≡ place k → ⊥) → (c : List (ℕ × S)) → seek at (list ++ c) ≡ seek at c
    pub apart : (c : List (ℕ × S)) → Apart c → ((k : ℕ) → k < n → seek (place k) c ≡ none) → Apart (list ++ c)

  seek_first : (at : ℕ) (x : ℕ × S) (xs : List (ℕ × S)) → x.0 ≡ at → seek at (x ∷ xs) ≡ some x.1
  seek_first at x xs is = ap (λ (b : Bool). if b then some x.1 else seek at xs) (eq-eqb x.0 at is)

  seek_rest : (at : ℕ) (x : ℕ × S) (xs : List (ℕ × S)) → (x.0 ≡ at → ⊥) → seek at (x ∷ xs) ≡ seek at xs
  seek_rest at x xs apart = ap (λ (b : Bool). if b then some x.1 else seek at xs) (ne_eqb x.0 at apart)

  choose : (k n : ℕ) → S → (ℕ → S) → S
  choose k n y f = if eqb k n then y else f k

  pub collect : (homes : List (Option S)) (n : ℕ) (place : ℕ → ℕ) (P : ℕ → S → Type 0) → ((k : ℕ) → k < n → IsHome homes (place k) (P k))
      → ((k l : ℕ) → k < n → l < n → place k ≡ place l → k ≡ l) → S → Collected homes n place P
  unfolding choose
  collect homes zero place P homed one y = record {
    list = [];
    valid = λ c. tt;
    away = λ k below. absurd (omega (arith, below));
    others = λ at not. refl;
    stays = λ at is. is;
    long = refl;
    value = λ k. y;
    is = λ k below. absurd (omega (arith, below));
    found = λ k below c. absurd (omega (arith, below));
    past = λ at not c. refl;
    apart = λ c once none. once;
  }
  collect homes (suc n) place P homed one y =
      let rest : Collected homes n place P = collect homes n place P (λ k below. homed k (omega arith)) (λ k l first second. one k l (omega arith)
      (omega arith)) y in
      let h : IsHome homes (place n) (P n) = homed n (omega arith) in
      let before : List (Option S) = cleared homes rest.list in
      let new : (k : ℕ) → k < n → place n ≡ place k
      → ⊥ = λ k below same. let e : n ≡ k = one n k (omega arith) (omega arith) same in omega (arith, e, below) in
      let there : get_elem? before (place n) ≡ some (some h.value) = rest.others (place n) new ∙ h.there in
      let inside : place n < length before = below_there before (place n) (some h.value) there in
      let first : (at : ℕ) → at ≡ place n → get_elem? (set before (place n) none) at ≡ some none = λ at same.
      subst (λ (i : ℕ). get_elem? (set before (place n) none) i ≡ some none) (sym same) (set_here before (place n) none inside) in
      record {
        list = (place n, h.value) ∷ rest.list;
        valid = λ c. (
          rest.valid c,
          subst (λ (hs : List (Option S)). get_elem? hs (place n) ≡ some (some h.value)) (sym
              (homes_cleared homes c rest.list)) there,
        );
        away = λ k below. elim (ℕ_discrete (place k) (place n)) [
          | yes same ↦ first (place k) same
          | no apart ↦ set_else before (place n) (place k) none apart ∙ rest.away k (let ne : k ≡ n → ⊥ = λ e. apart (ap place e) in omega (arith, below, ne))
        ];
        others = λ at not. set_else before (place n) at none (not n (omega arith)) ∙ rest.others at (λ k below. not k (omega arith));
        stays = λ at is. elim (ℕ_discrete at (place n)) [
          | yes same ↦ first at same
          | no apart ↦ set_else before (place n) at none apart ∙ rest.stays at is
        ];
        long = length-set before (place n) none ∙ rest.long;
        value = λ k. choose k n h.value rest.value;
        is = λ k below. elim (ℕ_discrete k n) [
          | yes same ↦ subst (λ (z : S). P k z) (sym (ap (λ (b : Bool). if b then h.value else rest.value k) (eq-eqb k n same)))
              (subst (λ (i : ℕ). P i h.value) (sym same) h.is)
          | no apart ↦ subst (λ (z : S). P k z) (sym (ap (λ (b : Bool). if b then h.value else rest.value k) (ne_eqb k n apart))) (rest.is k (omega
              (arith, below, apart)))
        ];
        found = λ k below c. elim (ℕ_discrete k n) [
          | yes same ↦ seek_first (place k) (place n, h.value) (rest.list ++ c) (ap place (sym same))
              ∙ ap (λ (z : S). some z) (sym (ap (λ (b : Bool). if b then h.value else rest.value k) (eq-eqb k n same)))
          | no apart ↦
              let less : k < n = omega (arith, below, apart) in
              seek_rest (place k) (place n, h.value) (rest.list ++ c) (new k less) ∙ rest.found k less c
              ∙ ap (λ (z : S). some z) (sym (ap (λ (b : Bool). if b then h.value else rest.value k) (ne_eqb k n apart)))
        ];
        past = λ at not c. seek_rest at (place n, h.value) (rest.list ++ c) (λ e. not n (omega arith) (sym e))
            ∙ rest.past at (λ k below. not k (omega arith)) c;
        apart = λ c once none. (rest.past (place n) new c ∙ none n (omega arith), rest.apart c once (λ k below. none k (omega arith)));
      }
