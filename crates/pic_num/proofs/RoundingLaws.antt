-- The laws of roundings: each value solves its relation and is its one solution; sizes; order.
use Rattle.std.proofs.Common.{◌≡◌, ℕ, suc, ◌+◌, ◌*◌, ◌/◌, ◌%◌, ◌^◌, ◌<◌, ◌≤◌, [], ◌∷◌, sym, ◌∙◌, ap, subst, inl, inr, add-one, pow_pos, arith}
use Rattle.std.proofs.Math.IntN.{ℤ, pos, negsuc, neg_ℤ, ◌+ℤ◌, ◌-ℤ◌, ◌*ℤ◌}
use Rattle.std.proofs.Math.Nat.{mul-le-mul_left, mul-le-mul_right, pow-succ'}
use Rattle.std.specs.Prelude.{◌<ℤ◌, ◌≤ℤ◌, unsigned_abs}
use Rattle.std.specs.Int.{int_div_euclid}
use Rattle.std.proofs.lemmas.Int.{ints, by_lt_z, to_z_pos, unsigned_abs-mul}
use Rattle.std.proofs.lemmas.Bool.{cases_lt}
use Rattle.std.proofs.Math.Pow.{pow_mono}
use lib.Signed.{shr_z}
use mir.Syntax.{w128}
use mir.Val.{to_z}
use Rattle.pic_num.specs.Sizes.{IsAtMost}
use Rattle.pic_num.specs.Rounding.{IsRounded, rounded, scaled, IsTruncated, truncated, IsResidue, residue}
use Rattle.pic_num.specs.Multiplier.{Multiplier}
use Rattle.pic_num.proofs.ProductLaws.{*ℤ_assoc, *ℤ-one}
use Rattle.pic_num.proofs.Ring.{ring, reads}

pub mul-le_mul : (a b d : ℤ) → a ≤ℤ b → pos 0 ≤ℤ d → (a *ℤ d) ≤ℤ (b *ℤ d)
mul-le_mul (pos a) (pos b) (pos d) h k = let e : a * d ≤ b * d = mul-le-mul_right d (omega (arith, ints, h)) in omega (arith, ints, e)
mul-le_mul (pos a) (negsuc b) (pos d) h k = absurd (omega (arith, ints, h))
mul-le_mul (negsuc a) (pos b) (pos d) h k = omega (arith, ints)
mul-le_mul (negsuc a) (negsuc b) (pos d) h k = let e : b * d ≤ a * d = mul-le-mul_right d (omega (arith, ints, h)) in omega (arith, ints, e)
mul-le_mul a b (negsuc d) h k = absurd (omega (arith, ints, k))

-- the floor of m / e, times e, is at most m, and less than e below it
pub floor-lower : (m e : ℤ) → pos 0 <ℤ e → (int_div_euclid m e *ℤ e) ≤ℤ m
floor-lower (pos a) (pos e) h = omega (arith, ints, h)
floor-lower (negsuc a) (pos e) h = omega (arith, ints, h)
floor-lower m (negsuc e) h = absurd (omega (arith, ints, h))

pub floor-upper : (m e : ℤ) → pos 0 <ℤ e → m <ℤ (int_div_euclid m e *ℤ e +ℤ e)
floor-upper (pos a) (pos e) h = omega (arith, ints, h)
floor-upper (negsuc a) (pos e) h = omega (arith, ints, h)
floor-upper m (negsuc e) h = absurd (omega (arith, ints, h))

doubled : (r d : ℤ) → r *ℤ (pos 2 *ℤ d) ≡ pos 2 *ℤ r *ℤ d
doubled r d = ring (r ∷ d ∷ []) (search reads depth 40 fits 9000) tt

pub rounded-is : (n d : ℤ) → pos 0 <ℤ d → IsRounded n d (rounded n d)
unfolding rounded
rounded-is n d h =
    let two : pos 0 <ℤ (pos 2 *ℤ d) = omega (arith, ints, h) in
    let low = floor-lower (pos 2 *ℤ n +ℤ d) (pos 2 *ℤ d) two in
    let high = floor-upper (pos 2 *ℤ n +ℤ d) (pos 2 *ℤ d) two in
    let e = doubled (rounded n d) d in
    record { above = omega (arith, ints, high, e); below = omega (arith, ints, low, e) }

-- of two numbers near n / d the one that is not above it by more than a half is no larger
rounded-below : (n d r s : ℤ) → pos 0 <ℤ d → (pos 2 *ℤ n -ℤ d) <ℤ (pos 2 *ℤ s *ℤ d) → (pos 2 *ℤ r *ℤ d) ≤ℤ (pos 2 *ℤ n +ℤ d) → r ≤ℤ s
rounded-below n d r s h u v =
    by_lt_z s r
    (λ k.
    let p : ((s +ℤ pos 1) *ℤ (pos 2 *ℤ d)) ≤ℤ (r *ℤ (pos 2 *ℤ d)) =
    mul-le_mul (s +ℤ pos 1) r (pos 2 *ℤ d) (omega (arith, ints, k)) (omega (arith, ints, h)) in
    let e = doubled r d in
    let f : (s +ℤ pos 1) *ℤ (pos 2 *ℤ d) ≡ pos 2 *ℤ s *ℤ d +ℤ pos 2 *ℤ d = ring (s ∷ d ∷ []) (search reads depth 40 fits 9000) tt in
    absurd (omega (arith, ints, p, e, f, u, v)))
    (λ k. k)

pub rounded-unique : (n d r : ℤ) → pos 0 <ℤ d → IsRounded n d r → r ≡ rounded n d
rounded-unique n d r h k =
    let is = rounded-is n d h in
    let up = rounded-below n d r (rounded n d) h is.above k.below in
    let down = rounded-below n d (rounded n d) r h k.above is.below in omega (arith, ints, up, down)

pub rounded-at_most : (n d k : ℤ) → pos 0 <ℤ d → n ≤ℤ (k *ℤ d) → rounded n d ≤ℤ k
rounded-at_most n d k h u =
    let is = rounded-is n d h in
    let e : pos 2 *ℤ (k *ℤ d) ≡ pos 2 *ℤ k *ℤ d = ring (k ∷ d ∷ []) (search reads depth 40 fits 9000) tt in
    rounded-below (k *ℤ d) d (rounded n d) k h (omega (arith, ints, e, h)) (omega (arith, ints, is.below, u))

pub rounded-at_least : (n d k : ℤ) → pos 0 <ℤ d → (k *ℤ d) ≤ℤ n → k ≤ℤ rounded n d
rounded-at_least n d k h u =
    let is = rounded-is n d h in
    let e : pos 2 *ℤ (k *ℤ d) ≡ pos 2 *ℤ k *ℤ d = ring (k ∷ d ∷ []) (search reads depth 40 fits 9000) tt in
    rounded-below n d k (rounded n d) h is.above (omega (arith, ints, e, u, h))

-- a quotient by at least c of at most m c is at most m in size
pub rounded-size : (n d : ℤ) (m c : ℕ) → 0 < c → pos c ≤ℤ d → unsigned_abs n ≤ m * c → unsigned_abs (rounded n d) ≤ m
rounded-size n d m c h k u =
    let above_zero : pos 0 <ℤ d = omega (arith, ints, h, k) in
    let p : (pos m *ℤ pos c) ≤ℤ (pos m *ℤ d) = times_d in
    let q : neg_ℤ (pos m) *ℤ d ≡ neg_ℤ (pos m *ℤ d) = ring (pos m ∷ d ∷ []) (search reads depth 40 fits 9000) tt in
    let high = rounded-at_most n d (pos m) above_zero (omega (arith, ints, p, u)) in
    let low = rounded-at_least n d (neg_ℤ (pos m)) above_zero (omega (arith, ints, p, q, u)) in
    omega (arith, ints, high, low)
  where
    times_d : (pos m *ℤ pos c) ≤ℤ (pos m *ℤ d)
    times_d =
        let p = mul-le_mul (pos c) d (pos m) k (omega (arith, ints)) in
        let e : d *ℤ pos m ≡ pos m *ℤ d = ring (pos m ∷ d ∷ []) (search reads depth 40 fits 9000) tt in
        omega (arith, ints, p, e)

pub rounded-no_larger : (n d : ℤ) → pos 0 <ℤ d → unsigned_abs (rounded n d) ≤ unsigned_abs n
rounded-no_larger n d h =
    rounded-size n d (unsigned_abs n) 1 (omega arith) (omega (arith, ints, h)) (omega arith)

-- rounding k d / d leaves k
pub rounded-whole : (k d : ℤ) → pos 0 <ℤ d → rounded (k *ℤ d) d ≡ k
rounded-whole k d h =
    let high = rounded-at_most (k *ℤ d) d k h (omega (arith, ints)) in
    let low = rounded-at_least (k *ℤ d) d k h (omega (arith, ints)) in omega (arith, ints, high, low)

pub power_above_zero : (k : ℕ) → pos 0 <ℤ pos (2 ^ k)
power_above_zero k = let h = pow_pos k in omega (arith, ints, h)

power_twice : (k : ℕ) → 2 ^ (k + 1) ≡ 2 * 2 ^ k
power_twice k = ap (λ n. 2 ^ n) (add-one k) ∙ pow-succ' 2 k

-- scaling makes no number larger than its product with the multiplier's n
pub scaled-no_larger : (v : ℤ) (by : Multiplier) → unsigned_abs (scaled v by) ≤ unsigned_abs (v *ℤ by.n)
unfolding scaled
scaled-no_larger v by = rounded-no_larger (v *ℤ by.n) (pos (2 ^ by.k)) (power_above_zero by.k)

pub scaled-is : (v : ℤ) (by : Multiplier) → IsRounded (v *ℤ by.n) (pos (2 ^ by.k)) (scaled v by)
unfolding scaled
scaled-is v by = rounded-is (v *ℤ by.n) (pos (2 ^ by.k)) (power_above_zero by.k)

pub scaled-unique : (v : ℤ) (by : Multiplier) (r : ℤ) → IsRounded (v *ℤ by.n) (pos (2 ^ by.k)) r → r ≡ scaled v by
unfolding scaled
scaled-unique v by r h = rounded-unique (v *ℤ by.n) (pos (2 ^ by.k)) r (power_above_zero by.k) h

-- the sign of a product of three, the first being the quotient's
same_sign : (q a b : ℕ) → pos 0 ≤ℤ (pos q *ℤ pos a *ℤ pos b)
same_sign q a b = omega (arith, ints)

first_last : (x y z : ℤ) → neg_ℤ x *ℤ y *ℤ neg_ℤ z ≡ x *ℤ y *ℤ z
first_last x y z = ring (x ∷ y ∷ z ∷ []) (search reads depth 40 fits 9000) tt

first_middle : (x y z : ℤ) → neg_ℤ x *ℤ neg_ℤ y *ℤ z ≡ x *ℤ y *ℤ z
first_middle x y z = ring (x ∷ y ∷ z ∷ []) (search reads depth 40 fits 9000) tt

middle_last : (x y z : ℤ) → x *ℤ neg_ℤ y *ℤ neg_ℤ z ≡ x *ℤ y *ℤ z
middle_last x y z = ring (x ∷ y ∷ z ∷ []) (search reads depth 40 fits 9000) tt

unsigned_abs-neg : (z : ℤ) → unsigned_abs (neg_ℤ z) ≡ unsigned_abs z
unsigned_abs-neg z = omega (arith, ints)

pub truncated-is : (n d : ℤ) → 0 < unsigned_abs d → IsTruncated n d (truncated n d)
unfolding truncated
truncated-is (pos a) (pos b) h =
    record { least = omega (arith, ints, h); most = omega (arith, ints, h); sign = same_sign (a / b) a b }
truncated-is (pos a) (negsuc b) h =
    let e = first_last (pos (a / suc b)) (pos a) (pos (suc b)) in
    let s = same_sign (a / suc b) a (suc b) in
    let size = unsigned_abs-neg (pos (a / suc b)) in
    record { least = rw size (omega arith); most = rw size (omega arith); sign = omega (arith, ints, e, s) }
truncated-is (negsuc a) (pos b) h =
    let e = first_middle (pos (suc a / b)) (pos (suc a)) (pos b) in
    let s = same_sign (suc a / b) (suc a) b in
    let size = unsigned_abs-neg (pos (suc a / b)) in
    record { least = rw size (omega (arith, h)); most = rw size (omega (arith, h)); sign = omega (arith, ints, e, s) }
truncated-is (negsuc a) (negsuc b) h =
    let e = middle_last (pos (suc a / suc b)) (pos (suc a)) (pos (suc b)) in
    let s = same_sign (suc a / suc b) (suc a) (suc b) in
    record { least = omega (arith, ints, h); most = omega (arith, ints, h); sign = omega (arith, ints, e, s) }

pub truncated-no_larger : (n d : ℤ) → 0 < unsigned_abs d → unsigned_abs (truncated n d) ≤ unsigned_abs n
truncated-no_larger n d h =
    let is = truncated-is n d h in
    let p : unsigned_abs (truncated n d) * 1 ≤ unsigned_abs (truncated n d) * unsigned_abs d = mul-le-mul_left (unsigned_abs (truncated n d)) h in
    omega (arith, p, is.least)

-- two numbers of one size differ at most by the sign
by_sign : {P : Type 0} (r s : ℤ) → unsigned_abs r ≡ unsigned_abs s → (r ≡ s → P) → (r ≡ neg_ℤ s → 0 < unsigned_abs s → P) → P
by_sign (pos a) (pos b) e same other = same (omega (arith, ints, e))
by_sign (pos a) (negsuc b) e same other = other (omega (arith, ints, e)) (omega (arith, e))
by_sign (negsuc a) (pos b) e same other = other (omega (arith, ints, e)) (omega (arith, e))
by_sign (negsuc a) (negsuc b) e same other = same (omega (arith, ints, e))

-- sizes of quotients that share n and d are one
one_size : (r s d n : ℕ) → r * d ≤ n → n < (s + 1) * d → r ≤ s
one_size r s d n h k =
    elim (cases_lt s r) [ inl u ↦ (let p : (s + 1) * d ≤ r * d = mul-le-mul_right d (omega (arith, u)) in absurd (omega (arith, p, h, k))) | inr u ↦ u ]

pub truncated-unique : (n d r : ℤ) → 0 < unsigned_abs d → IsTruncated n d r → r ≡ truncated n d
truncated-unique n d r h k =
    let is = truncated-is n d h in
    let s : ℤ = truncated n d in
    let up = one_size (unsigned_abs r) (unsigned_abs s) (unsigned_abs d) (unsigned_abs n) k.least is.most in
    let down = one_size (unsigned_abs s) (unsigned_abs r) (unsigned_abs d) (unsigned_abs n) is.least k.most in
    by_sign r s (omega (arith, up, down)) (λ e. e) (λ e above. absurd (no_sign s above is k e))
  where
    no_sign : (s : ℤ) → 0 < unsigned_abs s → IsTruncated n d s → IsTruncated n d r → r ≡ neg_ℤ s → ⊥
    no_sign s above is k e =
        let turned : neg_ℤ s *ℤ n *ℤ d ≡ neg_ℤ (s *ℤ n *ℤ d) = ring (s ∷ n ∷ d ∷ []) (search reads depth 40 fits 9000) tt in
        let both : pos 0 ≤ℤ neg_ℤ (s *ℤ n *ℤ d) = subst (λ (z : ℤ). pos 0 ≤ℤ z) (ap (λ (z : ℤ). z *ℤ n *ℤ d) e ∙ turned) k.sign in
        let product : unsigned_abs (s *ℤ n *ℤ d) ≡ unsigned_abs s * unsigned_abs n * unsigned_abs d =
        unsigned_abs-mul (s *ℤ n) d ∙ ap (λ t. t * unsigned_abs d) (unsigned_abs-mul s n) in
        let n_above : 0 < unsigned_abs n = n_size in
        let p : 0 < unsigned_abs s * unsigned_abs n = product_above (unsigned_abs s) (unsigned_abs n) above n_above in
        let q : 0 < unsigned_abs s * unsigned_abs n * unsigned_abs d = product_above (unsigned_abs s * unsigned_abs n) (unsigned_abs d) p h in
        omega (arith, ints, both, product, q, is.sign)
      where
        product_above : (a b : ℕ) → 0 < a → 0 < b → 0 < a * b
        product_above a b u v = let t : 1 * b ≤ a * b = mul-le-mul_right b (omega (arith, u)) in omega (arith, t, v)

        n_size : 0 < unsigned_abs n
        n_size =
            let t : 1 * unsigned_abs d ≤ unsigned_abs s * unsigned_abs d = mul-le-mul_right (unsigned_abs d) (omega (arith, above)) in
            omega (arith, t, h, is.least)

pub residue-is : (p : ℤ) (len : ℕ) → 0 < len → IsResidue p len (residue p len)
unfolding residue
residue-is (pos a) len h = record { below = omega (arith, h); turns = (pos (a / len), omega (arith, ints, h)) }
residue-is (negsuc a) len h = record { below = omega (arith, h); turns = (negsuc (a / len), omega (arith, ints, h)) }

-- of two ways to count whole lens the one that leaves a residue below len counts at least as many
turns_below : (m k : ℤ) (len r s : ℕ) → m *ℤ pos len +ℤ pos r ≡ k *ℤ pos len +ℤ pos s → s < len → m ≤ℤ k
turns_below m k len r s e h =
    by_lt_z k m
    (λ u.
    let p : ((k +ℤ pos 1) *ℤ pos len) ≤ℤ (m *ℤ pos len) = mul-le_mul (k +ℤ pos 1) m (pos len) (omega (arith, ints, u)) (omega (arith, ints)) in
    let f : (k +ℤ pos 1) *ℤ pos len ≡ k *ℤ pos len +ℤ pos len = ring (k ∷ pos len ∷ []) (search reads depth 40 fits 9000) tt in
    absurd (omega (arith, ints, p, f, e, h)))
    (λ u. u)

pub residue-unique : (p : ℤ) (len r : ℕ) → 0 < len → IsResidue p len r → r ≡ residue p len
residue-unique p len r h k =
    let is = residue-is p len h in
    let same : k.turns.0 *ℤ pos len +ℤ pos r ≡ is.turns.0 *ℤ pos len +ℤ pos (residue p len) = sym k.turns.1 ∙ is.turns.1 in
    let up = turns_below k.turns.0 is.turns.0 len r (residue p len) same is.below in
    let down = turns_below is.turns.0 k.turns.0 len (residue p len) r (sym same) k.below in
    let one : k.turns.0 ≡ is.turns.0 = omega (arith, ints, up, down) in
    let f = ap (λ (m : ℤ). m *ℤ pos len) one in omega (arith, ints, same, f)

pub power_size : (k : ℕ) → k ≤ 62 → IsAtMost (pos (2 ^ k)) (2 ^ 62)
power_size k h = record { size = pow_mono h }

-- what the code's `1 << k` is
pub shifted_size : (k : ℕ) → k ≤ 62 → 1 * 2 ^ k % 2 ^ 128 ≤ 2 ^ 62
shifted_size k h =
    let most : 2 ^ k ≤ 2 ^ 62 = pow_mono h in omega (arith, most)

pub shifted : (k : ℕ) → k ≤ 62 → to_z w128 (1 * 2 ^ k % 2 ^ 128) ≡ pos (2 ^ k)
shifted k h =
    let most : 2 ^ k ≤ 2 ^ 62 = pow_mono h in
    let e : 1 * 2 ^ k % 2 ^ 128 ≡ 2 ^ k = omega (arith, most) in
    ap (to_z w128) e ∙ to_z_pos w128 (2 ^ k) (omega (arith, most))

-- what the code's `x >> (k + 1)` is: the floor of x / (2 2^k)
shr-floor : (x : ℤ) (k : ℕ) → shr_z x (2 ^ (k + 1)) ≡ int_div_euclid x (pos 2 *ℤ pos (2 ^ k))
shr-floor (pos a) k = ap (λ m. pos (a / m)) (power_twice k)
shr-floor (negsuc a) k = ap (λ m. negsuc (a / m)) (power_twice k)

-- the code of scaling: twice the product and 2^k, shifted down by k + 1
pub scaled-shr : (v : ℤ) (by : Multiplier) → shr_z (pos 2 *ℤ v *ℤ by.n +ℤ pos (2 ^ by.k)) (2 ^ (by.k + 1)) ≡ scaled v by
unfolding scaled rounded
scaled-shr v by =
    shr-floor (pos 2 *ℤ v *ℤ by.n +ℤ pos (2 ^ by.k)) by.k
    ∙ ap (λ (x : ℤ). int_div_euclid (x +ℤ pos (2 ^ by.k)) (pos 2 *ℤ pos (2 ^ by.k))) (*ℤ_assoc (pos 2) v by.n)

-- so a rounding by a power of two is a shift
pub rounded-shr : (n : ℤ) (k : ℕ) → shr_z (pos 2 *ℤ n +ℤ pos (2 ^ k)) (2 ^ (k + 1)) ≡ rounded n (pos (2 ^ k))
unfolding scaled
rounded-shr n k =
    ap (λ (m : ℤ). shr_z (m +ℤ pos (2 ^ k)) (2 ^ (k + 1))) (sym (*ℤ-one (pos 2 *ℤ n)))
    ∙ scaled-shr n (record { n = pos 1; k = k })
    ∙ ap (λ (m : ℤ). rounded m (pos (2 ^ k))) (*ℤ-one n)
