-- The ring solver: an equation of polynomials over whole numbers, in one line.
--
--     e : (a b : ℤ) → (a +ℤ b) *ℤ (a -ℤ b) ≡ a *ℤ a -ℤ b *ℤ b
--     e a b = ring (a ∷ b ∷ []) (search reads depth 40 fits 9000) tt
--
-- The list names what the polynomials are made of. `search` reads each side as a polynomial in it,
-- and `tt` is the proof that the normal form of their difference has no term. docs/PROOFS.md says more.
use Rattle.std.proofs.Common.{◌≡◌, ℕ, zero, suc, ◌+◌, ◌*◌, Bool, true, false, cond, ◌&&◌, List, [], ◌∷◌, ap, sym, ◌∙◌, refl, arith}
use Rattle.std.proofs.Math.IntN.{ℤ, pos, negsuc, neg_ℤ, ◌+ℤ◌, ◌*ℤ◌}
use Rattle.std.proofs.Math.Dec.{T, ltb, leb, eqb, eqb→eq}
use Rattle.std.proofs.lemmas.Int.{ints}
use mathlib.Core.Path.{ap₂}
use Rattle.pic_num.proofs.ProductLaws.{*ℤ_assoc, +ℤ-*ℤ, *ℤ-+ℤ, *ℤ_left_comm, one-*ℤ, *ℤ-one, zero-*ℤ, *ℤ-zero, minus_one-*ℤ, +ℤ_left_comm}

-- the number at a place of the list, 0 past its end
abbrev pub at : List ℤ → ℕ → ℤ
at [] i = pos 0
at (x ∷ ρ) zero = x
at (x ∷ ρ) (suc i) = at ρ i

-- how a number is made of the numbers of ρ: indexed by the number that it denotes
pub data Reads (ρ : List ℤ) : ℤ → Type 0 where
  place : (i : ℕ) → Reads ρ (at ρ i)
  lit : (k : ℤ) → Reads ρ k
  plus : {a b : ℤ} → Reads ρ a → Reads ρ b → Reads ρ (a +ℤ b)
  times : {a b : ℤ} → Reads ρ a → Reads ρ b → Reads ρ (a *ℤ b)
  minus : {a : ℤ} → Reads ρ a → Reads ρ (neg_ℤ a)

-- a monomial: the places of its factors, in order
abbrev pub mono : List ℕ → List ℤ → ℤ
mono [] ρ = pos 1
mono (i ∷ m) ρ = at ρ i *ℤ mono m ρ

abbrev pub ins : ℕ → List ℕ → List ℕ
ins i [] = i ∷ []
ins i (j ∷ m) = cond (ltb j i) (j ∷ ins i m) (i ∷ j ∷ m)

abbrev pub join : List ℕ → List ℕ → List ℕ
join [] n = n
join (i ∷ m) n = ins i (join m n)

abbrev pub same : List ℕ → List ℕ → Bool
same [] [] = true
same [] (j ∷ n) = false
same (i ∷ m) [] = false
same (i ∷ m) (j ∷ n) = eqb i j && same m n

-- a sum of monomials with their coefficients
pub data Sum : Type 0 where
  none : Sum
  more : ℤ → List ℕ → Sum → Sum

abbrev pub total : Sum → List ℤ → ℤ
total none ρ = pos 0
total (more k m s) ρ = k *ℤ mono m ρ +ℤ total s ρ

abbrev pub put : ℤ → List ℕ → Sum → Sum
put k m none = more k m none
put k m (more j n s) = cond (same m n) (more (k +ℤ j) n s) (more j n (put k m s))

abbrev pub both : Sum → Sum → Sum
both none t = t
both (more k m s) t = put k m (both s t)

-- k times the monomial m times the sum, and t
abbrev pub scale : ℤ → List ℕ → Sum → Sum → Sum
scale k m none t = t
scale k m (more j n s) t = put (k *ℤ j) (join m n) (scale k m s t)

abbrev pub product : Sum → Sum → Sum
product none t = none
product (more k m s) t = scale k m t (product s t)

abbrev pub norm : {ρ : List ℤ} {a : ℤ} → Reads ρ a → Sum
norm (place i) = more (pos 1) (i ∷ []) none
norm (lit k) = more k [] none
norm (plus x y) = both (norm x) (norm y)
norm (times x y) = product (norm x) (norm y)
norm (minus x) = scale (negsuc 0) [] (norm x) none

-- all coefficients are 0
abbrev pub Vanishes : Sum → Type 0
Vanishes none = Unit {0}
Vanishes (more (pos zero) m s) = Vanishes s
Vanishes (more (pos (suc k)) m s) = ⊥
Vanishes (more (negsuc k) m s) = ⊥

if_same : {A : Type 0} (b : Bool) (x y : A) (P : A → Type 0) → (T b → P x) → P y → P (cond b x y)
if_same true x y P f g = f tt
if_same false x y P f g = g

pub T_left : (a b : Bool) → T (a && b) → T a
T_left true b h = tt
T_left false b h = h

pub T_right : (a b : Bool) → T (a && b) → T b
T_right true b h = h
T_right false b h = absurd h

same-eq : (m n : List ℕ) → T (same m n) → m ≡ n
same-eq [] [] h = refl
same-eq [] (j ∷ n) h = absurd h
same-eq (i ∷ m) [] h = absurd h
same-eq (i ∷ m) (j ∷ n) h =
    ap₂ ◌∷◌ (eqb→eq i j (T_left (eqb i j) (same m n) h)) (same-eq m n (T_right (eqb i j) (same m n) h))

mono-ins : (i : ℕ) (m : List ℕ) (ρ : List ℤ) → mono (ins i m) ρ ≡ at ρ i *ℤ mono m ρ
mono-ins i [] ρ = refl
mono-ins i (j ∷ m) ρ =
    if_same (ltb j i) (j ∷ ins i m) (i ∷ j ∷ m) (λ x. mono x ρ ≡ at ρ i *ℤ (at ρ j *ℤ mono m ρ))
    (λ _. ap (λ (t : ℤ). at ρ j *ℤ t) (mono-ins i m ρ) ∙ *ℤ_left_comm (at ρ j) (at ρ i) (mono m ρ)) refl

mono-join : (m n : List ℕ) (ρ : List ℤ) → mono (join m n) ρ ≡ mono m ρ *ℤ mono n ρ
mono-join [] n ρ = sym (one-*ℤ (mono n ρ))
mono-join (i ∷ m) n ρ =
    mono-ins i (join m n) ρ ∙ ap (λ (t : ℤ). at ρ i *ℤ t) (mono-join m n ρ) ∙ sym (*ℤ_assoc (at ρ i) (mono m ρ) (mono n ρ))

total-put : (k : ℤ) (m : List ℕ) (s : Sum) (ρ : List ℤ) → total (put k m s) ρ ≡ k *ℤ mono m ρ +ℤ total s ρ
total-put k m none ρ = refl
total-put k m (more j n s) ρ =
    if_same (same m n) (more (k +ℤ j) n s) (more j n (put k m s))
    (λ x. total x ρ ≡ k *ℤ mono m ρ +ℤ (j *ℤ mono n ρ +ℤ total s ρ))
    (λ h. joined (same-eq m n h))
    (ap (λ (t : ℤ). j *ℤ mono n ρ +ℤ t) (total-put k m s ρ) ∙ +ℤ_left_comm (j *ℤ mono n ρ) (k *ℤ mono m ρ) (total s ρ))
  where
    joined : m ≡ n → (k +ℤ j) *ℤ mono n ρ +ℤ total s ρ ≡ k *ℤ mono m ρ +ℤ (j *ℤ mono n ρ +ℤ total s ρ)
    joined e =
        let d = +ℤ-*ℤ k j (mono n ρ) in
        let f = ap (λ (x : List ℕ). k *ℤ mono x ρ) e in omega (arith, ints, d, f)

total-both : (s t : Sum) (ρ : List ℤ) → total (both s t) ρ ≡ total s ρ +ℤ total t ρ
total-both none t ρ = omega (arith, ints)
total-both (more k m s) t ρ =
    let p = total-put k m (both s t) ρ in
    let h = total-both s t ρ in omega (arith, ints, p, h)

regroup : (k j x y : ℤ) → (k *ℤ j) *ℤ (x *ℤ y) ≡ (k *ℤ x) *ℤ (j *ℤ y)
regroup k j x y =
    *ℤ_assoc k j (x *ℤ y) ∙ ap (λ (t : ℤ). k *ℤ t) (*ℤ_left_comm j x y) ∙ sym (*ℤ_assoc k x (j *ℤ y))

total-scale : (k : ℤ) (m : List ℕ) (s t : Sum) (ρ : List ℤ)
    → total (scale k m s t) ρ ≡ k *ℤ mono m ρ *ℤ total s ρ +ℤ total t ρ
total-scale k m none t ρ = let z = *ℤ-zero (k *ℤ mono m ρ) in omega (arith, ints, z)
total-scale k m (more j n s) t ρ =
    let p = total-put (k *ℤ j) (join m n) (scale k m s t) ρ in
    let h = total-scale k m s t ρ in
    let g = ap (λ (x : ℤ). (k *ℤ j) *ℤ x) (mono-join m n ρ) ∙ regroup k j (mono m ρ) (mono n ρ) in
    let d = *ℤ-+ℤ (k *ℤ mono m ρ) (j *ℤ mono n ρ) (total s ρ) in omega (arith, ints, p, h, g, d)

total-product : (s t : Sum) (ρ : List ℤ) → total (product s t) ρ ≡ total s ρ *ℤ total t ρ
total-product none t ρ = sym (zero-*ℤ (total t ρ))
total-product (more k m s) t ρ =
    let p = total-scale k m t (product s t) ρ in
    let h = total-product s t ρ in
    let d = +ℤ-*ℤ (k *ℤ mono m ρ) (total s ρ) (total t ρ) in omega (arith, ints, p, h, d)

norm-sound : {ρ : List ℤ} {a : ℤ} (r : Reads ρ a) → a ≡ total (norm r) ρ
norm-sound {ρ} (place i) = let e = one-*ℤ (at ρ i *ℤ pos 1) in let f = *ℤ-one (at ρ i) in omega (arith, ints, e, f)
norm-sound {ρ} (lit k) = let e = *ℤ-one k in omega (arith, ints, e)
norm-sound {ρ} (plus x y) = ap₂ ◌+ℤ◌ (norm-sound x) (norm-sound y) ∙ sym (total-both (norm x) (norm y) ρ)
norm-sound {ρ} (times x y) = ap₂ ◌*ℤ◌ (norm-sound x) (norm-sound y) ∙ sym (total-product (norm x) (norm y) ρ)
norm-sound {ρ} (minus {a} x) =
    let h = norm-sound x in
    let p = total-scale (negsuc 0) [] (norm x) none ρ in
    let m = minus_one-*ℤ (total (norm x) ρ) in
    ap neg_ℤ h ∙ omega (arith, ints, p, m)

vanishing : (s : Sum) (ρ : List ℤ) → Vanishes s → total s ρ ≡ pos 0
vanishing none ρ h = refl
vanishing (more (pos zero) m s) ρ h =
    let e = vanishing s ρ h in
    let z = zero-*ℤ (mono m ρ) in omega (arith, ints, e, z)
vanishing (more (pos (suc k)) m s) ρ h = absurd h
vanishing (more (negsuc k) m s) ρ h = absurd h

-- two polynomials in the numbers of ρ are equal where no term of their difference is left
pub ring : (ρ : List ℤ) {a b : ℤ} (r : Reads ρ a × Reads ρ b)
    → Vanishes (both (norm r.0) (scale (negsuc 0) [] (norm r.1) none)) → a ≡ b
ring ρ {a} {b} r h =
    let e = norm-sound r.0 in
    let f = norm-sound r.1 in
    let d = total-both (norm r.0) (scale (negsuc 0) [] (norm r.1) none) ρ in
    let s = total-scale (negsuc 0) [] (norm r.1) none ρ in
    let m = minus_one-*ℤ (total (norm r.1) ρ) in
    let v = vanishing (both (norm r.0) (scale (negsuc 0) [] (norm r.1) none)) ρ h in
    omega (arith, ints, e, f, d, s, m, v)

-- what `search` makes the readings of: the first sixteen places of the list

abbrev pub v0 : {a : ℤ} {ρ : List ℤ} → Reads (a ∷ ρ) a
v0 {a} {ρ} = place 0

abbrev pub v1 : {a b : ℤ} {ρ : List ℤ} → Reads (a ∷ b ∷ ρ) b
v1 {a} {b} {ρ} = place 1

abbrev pub v2 : {a b c : ℤ} {ρ : List ℤ} → Reads (a ∷ b ∷ c ∷ ρ) c
v2 {a} {b} {c} {ρ} = place 2

abbrev pub v3 : {a b c d : ℤ} {ρ : List ℤ} → Reads (a ∷ b ∷ c ∷ d ∷ ρ) d
v3 {a} {b} {c} {d} {ρ} = place 3

abbrev pub v4 : {a b c d e : ℤ} {ρ : List ℤ} → Reads (a ∷ b ∷ c ∷ d ∷ e ∷ ρ) e
v4 {a} {b} {c} {d} {e} {ρ} = place 4

abbrev pub v5 : {a b c d e f : ℤ} {ρ : List ℤ} → Reads (a ∷ b ∷ c ∷ d ∷ e ∷ f ∷ ρ) f
v5 {a} {b} {c} {d} {e} {f} {ρ} = place 5

abbrev pub v6 : {a b c d e f g : ℤ} {ρ : List ℤ} → Reads (a ∷ b ∷ c ∷ d ∷ e ∷ f ∷ g ∷ ρ) g
v6 {a} {b} {c} {d} {e} {f} {g} {ρ} = place 6

abbrev pub v7 : {a b c d e f g h : ℤ} {ρ : List ℤ} → Reads (a ∷ b ∷ c ∷ d ∷ e ∷ f ∷ g ∷ h ∷ ρ) h
v7 {a} {b} {c} {d} {e} {f} {g} {h} {ρ} = place 7

abbrev pub v8 : {a b c d e f g h i : ℤ} {ρ : List ℤ} → Reads (a ∷ b ∷ c ∷ d ∷ e ∷ f ∷ g ∷ h ∷ i ∷ ρ) i
v8 {a} {b} {c} {d} {e} {f} {g} {h} {i} {ρ} = place 8

abbrev pub v9 : {a b c d e f g h i j : ℤ} {ρ : List ℤ} → Reads (a ∷ b ∷ c ∷ d ∷ e ∷ f ∷ g ∷ h ∷ i ∷ j ∷ ρ) j
v9 {a} {b} {c} {d} {e} {f} {g} {h} {i} {j} {ρ} = place 9

abbrev pub v10 : {a b c d e f g h i j k : ℤ} {ρ : List ℤ} → Reads (a ∷ b ∷ c ∷ d ∷ e ∷ f ∷ g ∷ h ∷ i ∷ j ∷ k ∷ ρ) k
v10 {a} {b} {c} {d} {e} {f} {g} {h} {i} {j} {k} {ρ} = place 10

abbrev pub v11 : {a b c d e f g h i j k l : ℤ} {ρ : List ℤ} → Reads (a ∷ b ∷ c ∷ d ∷ e ∷ f ∷ g ∷ h ∷ i ∷ j ∷ k ∷ l ∷ ρ) l
v11 {a} {b} {c} {d} {e} {f} {g} {h} {i} {j} {k} {l} {ρ} = place 11

abbrev pub v12 : {a b c d e f g h i j k l m : ℤ} {ρ : List ℤ} → Reads (a ∷ b ∷ c ∷ d ∷ e ∷ f ∷ g ∷ h ∷ i ∷ j ∷ k ∷ l ∷ m ∷ ρ) m
v12 {a} {b} {c} {d} {e} {f} {g} {h} {i} {j} {k} {l} {m} {ρ} = place 12

abbrev pub v13 : {a b c d e f g h i j k l m n : ℤ} {ρ : List ℤ} → Reads (a ∷ b ∷ c ∷ d ∷ e ∷ f ∷ g ∷ h ∷ i ∷ j ∷ k ∷ l ∷ m ∷ n ∷ ρ) n
v13 {a} {b} {c} {d} {e} {f} {g} {h} {i} {j} {k} {l} {m} {n} {ρ} = place 13

abbrev pub v14 : {a b c d e f g h i j k l m n o : ℤ} {ρ : List ℤ} → Reads (a ∷ b ∷ c ∷ d ∷ e ∷ f ∷ g ∷ h ∷ i ∷ j ∷ k ∷ l ∷ m ∷ n ∷ o ∷ ρ) o
v14 {a} {b} {c} {d} {e} {f} {g} {h} {i} {j} {k} {l} {m} {n} {o} {ρ} = place 14

abbrev pub v15 : {a b c d e f g h i j k l m n o p : ℤ} {ρ : List ℤ} → Reads (a ∷ b ∷ c ∷ d ∷ e ∷ f ∷ g ∷ h ∷ i ∷ j ∷ k ∷ l ∷ m ∷ n ∷ o ∷ p ∷ ρ) p
v15 {a} {b} {c} {d} {e} {f} {g} {h} {i} {j} {k} {l} {m} {n} {o} {p} {ρ} = place 15

-- a literal: the test computes at a numeral alone, so `pos n` of a variable n isn't taken for one
abbrev pub natural : {ρ : List ℤ} (n : ℕ) → T (leb n n) → Reads ρ (pos n)
natural n t = lit (pos n)

abbrev pub negative : {ρ : List ℤ} (n : ℕ) → T (leb n n) → Reads ρ (negsuc n)
negative n t = lit (negsuc n)

abbrev pub nat_plus : {ρ : List ℤ} {m n : ℕ} → Reads ρ (pos m) → Reads ρ (pos n) → Reads ρ (pos (m + n))
nat_plus x y = plus x y

abbrev pub nat_times : {ρ : List ℤ} {m n : ℕ} → Reads ρ (pos m) → Reads ρ (pos n) → Reads ρ (pos (m * n))
nat_times x y = times x y

pub ruleset reads = (v0, v1, v2, v3, v4, v5, v6, v7, v8, v9, v10, v11, v12, v13, v14, v15, plus, times, minus, natural, negative, nat_plus, nat_times)
