-- The bytes of a wide number are those of its words.
use Rattle.std.proofs.Common.{◌≡◌, ℕ, zero, suc, ◌+◌, ◌-◌, ◌*◌, ◌/◌, ◌%◌, ◌^◌, ◌<◌, ◌≤◌, ◌++◌, ◌∷◌, ◌∙◌, ap, sym, refl, subst, arith}
use Rattle.std.proofs.Math.Arith.{mod-mul}
use Rattle.std.proofs.Math.Nat.{add_comm, div-div-eq-div-mul, div-one, dvd-mul_right, mod-lt, mod-mod_of_dvd, one-le-pow, pow-succ'}
use Rattle.std.proofs.lemmas.Nat.{div-mul-add, pow-add}
use Rattle.std.specs.Int.{◌∣◌, byte_at, bytes_high_first}

-- a byte of a number, by its place
pub byte_at-pow : (k n : ℕ) → byte_at k n ≡ n / 256 ^ k % 256
byte_at-pow zero n = ap (λ (q : ℕ). q % 256) (sym (div-one n))
byte_at-pow (suc k) n = refl

pow_above_zero : (k : ℕ) → zero < 256 ^ k
pow_above_zero k = let h = one-le-pow k 256 (omega arith) in omega (arith, h)

-- a low byte of a number doesn't depend on what stands above it
byte_at-low : (j k n : ℕ) → byte_at k (n % 256 ^ (suc j + k)) ≡ byte_at k n
byte_at-low j k n =
    let low = 256 ^ k in
    let high = 256 ^ suc j in
    let whole : 256 ∣ high = subst (λ (p : ℕ). 256 ∣ p) (sym (pow-succ' 256 j)) (dvd-mul_right 256 (256 ^ j)) in
    byte_at-pow k (n % 256 ^ (suc j + k))
    ∙ ap (λ (p : ℕ). n % p / low % 256) (pow-add 256 (suc j) k)
    ∙ ap (λ (r : ℕ). r / low % 256) (mod-mul n (pow_above_zero (suc j)) (pow_above_zero k))
    ∙ ap (λ (q : ℕ). q % 256) (div-mul-add (n / low % high) low (n % low) (mod-lt n (pow_above_zero k)))
    ∙ mod-mod_of_dvd 256 (n / low) whole
    ∙ sym (byte_at-pow k n)

-- nor do the low bytes
pub bytes-low : (k m n : ℕ) → k ≤ m → bytes_high_first k (n % 256 ^ m) ≡ bytes_high_first k n
bytes-low zero m n most = refl
bytes-low (suc k) m n most =
    let j = m - suc k in
    let is : m ≡ suc j + k = omega (arith, most) in
    let head = ap (λ (e : ℕ). byte_at k (n % 256 ^ e)) is ∙ byte_at-low j k n in
    let rest = bytes-low k m n (omega (arith, most)) in
    λ i. head i ∷ rest i

-- the high bytes of a number are those of what stands above the low ones
bytes-high : (j k n : ℕ) → bytes_high_first j (n / 256 ^ k) ++ bytes_high_first k n ≡ bytes_high_first (j + k) n
bytes-high zero k n = let is : k ≡ 0 + k = omega arith in ap (λ (e : ℕ). bytes_high_first e n) is
bytes-high (suc j) k n =
    let power : 256 ^ k * 256 ^ j ≡ 256 ^ (j + k) = sym (pow-add 256 k j) ∙ ap (λ (e : ℕ). 256 ^ e) (add_comm k j) in
    let head = byte_at-pow j (n / 256 ^ k)
    ∙ ap (λ (q : ℕ). q % 256) (div-div-eq-div-mul n (256 ^ k) (256 ^ j) ∙ ap (λ (p : ℕ). n / p) power)
    ∙ sym (byte_at-pow (j + k) n) in
    let rest = bytes-high j k n in
    let is : suc (j + k) ≡ suc j + k = omega arith in
    (λ i. head i ∷ rest i) ∙ ap (λ (e : ℕ). bytes_high_first e n) is

-- a number's bytes: those of what stands above its lowest k, and then the lowest k
pub bytes-in_two : (j k n : ℕ) → bytes_high_first j (n / 256 ^ k) ++ bytes_high_first k (n % 256 ^ k) ≡ bytes_high_first (j + k) n
bytes-in_two j k n = ap (λ low. bytes_high_first j (n / 256 ^ k) ++ low) (bytes-low k k n (omega arith)) ∙ bytes-high j k n
