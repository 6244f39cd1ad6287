-- The spellings of numbers.
use Rattle.std.proofs.Common.{◌≡◌, ℕ, ℤ, zero, suc, ◌+◌, ◌*◌, ◌/◌, ◌%◌, ◌^◌, ◌<◌, ◌≤◌, Bool, true, List, [], ◌∷◌, ◌++◌}
use Rattle.std.proofs.Common.{length, get_or, take, refl, sym, ap, subst, ◌∙◌, arith, append-nil, add-one, to_z, of_z}
use Rattle.std.specs.Prelude.{nat_eq}
use Rattle.std.specs.List.{flat_map}
use Rattle.std.proofs.Math.Seq.{take-length}
use Rattle.std.proofs.lemmas.Bool.{eqb-true, eq-eqb}
use Rattle.std.proofs.lemmas.List.{length-take-le, take_more}
use Rattle.std.specs.Int.{w32, w64, w128, byte_at as digit, bytes_high_first, to_be_bytes, from_be_bytes}
use Rattle.std.proofs.Math.Facts.{Fits-of_z, Fits-of_lt, sfits_to_z, to_z-of_z, of_z-to_z}
use Rattle.std.proofs.Math.Nat.{mod-lt, mul-add-mod_self_right}
use Rattle.std.proofs.lemmas.Nat.{be_bytes_4, be_bytes_8, from_be_bytes-to_be_bytes_4, from_be_bytes-to_be_bytes_8, div-mul-add}
use Rattle.byteorder.specs.Endian.{big_from}
use Rattle.byteorder.specs.Numbers.{big_from-cons, big_from-lt, big_number-reads_back}
use mir.Val.{SFits}
use Rattle.pic_num.specs.Bytes.{u32_bytes, i32_bytes, u128_bytes, i128_bytes}
use Rattle.pic_num.proofs.WordLaws.{byte_at-pow, bytes-low}
use Rattle.pic_fields.specs.Parser.{mapped, field}
use Rattle.pic_fields.specs.Number.{byte_of, u32_of, i32_of, i64_of, u128_of, i128_of, byte_at, u32_at, i32_at, i64_at, i64_bytes, u128_at, i128_at}
use Rattle.pic_fields.specs.Number.{is_from_to, within, is_between, between, is_at_most, at_most, letter, exactly}
use Rattle.pic_fields.specs.Bytes.{IsBytes}
use Rattle.pic_fields.proofs.Spells.{Spells}
use Rattle.pic_fields.proofs.SpellLaws.{IsField, FitsEach, spells_field, spells_mapped, spells_checked, spells_so, spells_each, fits_each}

-- bytes of one length that a value is read from
pub spells_number : {B : Type 0} (n : ℕ) (read : List ℕ → B) (spell : B → List ℕ) (Fits : B → Type 0)
    → ((b : B) → Fits b → IsField n (spell b)) → ((b : B) → Fits b → read (spell b) ≡ b)
    → ((bytes : List ℕ) → IsField n bytes → Fits (read bytes)) → ((bytes : List ℕ) → IsField n bytes → spell (read bytes) ≡ bytes)
    → Spells (mapped read (field n)) spell Fits
spells_number n read spell Fits size back fits forth = spells_mapped read spell Fits size back fits forth (spells_field n)

small_bytes : (n x : ℕ) → IsBytes (bytes_high_first n x)
small_bytes zero x i = omega arith
small_bytes (suc n) x zero = (let small : x / 256 ^ n % 256 < 256 = mod-lt (x / 256 ^ n) (omega arith) in rw (byte_at-pow n x) small)
small_bytes (suc n) x (suc i) = small_bytes n x i

-- the low bytes of a number don't depend on what stands above them
bytes_same : (n c m : ℕ) → bytes_high_first n (c * 256 ^ n + m) ≡ bytes_high_first n m
bytes_same n c m =
    sym (bytes-low n n (c * 256 ^ n + m) (omega arith)) ∙ ap (λ (r : ℕ). bytes_high_first n r) (mul-add-mod_self_right c (256 ^ n) m)
    ∙ bytes-low n n m (omega arith)

-- the bytes of the number that some bytes give
written_back : (n : ℕ) (bytes : List ℕ) → length bytes ≡ n → IsBytes bytes → bytes_high_first n (big_from 0 n bytes) ≡ bytes
written_back zero [] size small = refl
written_back zero (b ∷ bytes) size small = absurd (omega (arith, size))
written_back (suc n) [] size small = absurd (omega (arith, size))
written_back (suc n) (b ∷ bytes) size small =
    let m = big_from 0 n bytes in
    let below : m < 256 ^ n = big_from-lt 0 n bytes (λ k. small (suc k)) in
    let first = small 0 in
    let number : big_from 0 (suc n) (b ∷ bytes) ≡ b * 256 ^ n + m = ap (λ (r : ℕ). b * 256 ^ n + r) (big_from-cons 0 n b bytes) in
    let high : (b * 256 ^ n + m) / 256 ^ n % 256 ≡ b = ap (λ (y : ℕ). y % 256) (div-mul-add b (256 ^ n) m below) ∙ omega (arith, first) in
    let head : digit n (b * 256 ^ n + m) ≡ b = byte_at-pow n (b * 256 ^ n + m) ∙ high in
    let rest : bytes_high_first n (b * 256 ^ n + m) ≡ bytes = bytes_same n b m
    ∙ written_back n bytes (omega (arith, size)) (λ k. small (suc k)) in
    ap (bytes_high_first (suc n)) number ∙ (λ i. head i ∷ rest i)

-- 16 bytes
from_16 : (bytes : List ℕ) → from_be_bytes w128 bytes ≡ big_from 0 16 bytes
from_16 bytes = omega arith

from_16_below : (bytes : List ℕ) → IsBytes bytes → from_be_bytes w128 bytes < 2 ^ 128
from_16_below bytes small = let below : big_from 0 16 bytes < 256 ^ 16 = big_from-lt 0 16 bytes small in rw (from_16 bytes) below

to_16_back : (bytes : List ℕ) → IsField 16 bytes → to_be_bytes w128 (from_be_bytes w128 bytes) ≡ bytes
to_16_back bytes fits = ap (bytes_high_first 16) (from_16 bytes) ∙ written_back 16 bytes fits.size fits.small

from_16_back : (n : ℕ) → n < 2 ^ 128 → from_be_bytes w128 (to_be_bytes w128 n) ≡ n
from_16_back n below =
    from_16 (bytes_high_first 16 n) ∙ ap (big_from 0 16) (sym (append-nil (bytes_high_first 16 n))) ∙ big_number-reads_back 16 n [] below

-- 4 bytes
from_4_below : (bytes : List ℕ) → IsBytes bytes → from_be_bytes w32 bytes < 2 ^ 32
from_4_below bytes small =
    let a = small 0 in
    let b = small 1 in
    let c = small 2 in
    let d = small 3 in
    omega (arith, a, b, c, d)

to_4_back : (bytes : List ℕ) → IsField 4 bytes → to_be_bytes w32 (from_be_bytes w32 bytes) ≡ bytes
to_4_back bytes fits = be_bytes_4 bytes (from_be_bytes w32 bytes) fits.size fits.small refl

-- 8 bytes
from_8_below : (bytes : List ℕ) → IsBytes bytes → from_be_bytes w64 bytes < 2 ^ 64
from_8_below bytes small =
    let a = small 0 in
    let b = small 1 in
    let c = small 2 in
    let d = small 3 in
    let e = small 4 in
    let f = small 5 in
    let g = small 6 in
    let h = small 7 in
    omega (arith, a, b, c, d, e, f, g, h)

to_8_back : (bytes : List ℕ) → IsField 8 bytes → to_be_bytes w64 (from_be_bytes w64 bytes) ≡ bytes
to_8_back bytes fits = be_bytes_8 bytes (from_be_bytes w64 bytes) fits.size fits.small refl

-- a byte
abbrev pub one_byte : ℕ → List ℕ
one_byte n = n ∷ []

one_small : (n : ℕ) → n < 256 → IsBytes (one_byte n)
one_small n below zero = below
one_small n below (suc i) = omega arith

one_back : (bytes : List ℕ) → length bytes ≡ 1 → one_byte (get_or bytes 0 0) ≡ bytes
one_back [] size = absurd (omega (arith, size))
one_back (b ∷ []) size = refl
one_back (b ∷ (c ∷ bytes)) size = absurd (omega (arith, size))

pub spells_byte : Spells byte_at one_byte (λ n. n < 256)
unfolding byte_at byte_of
spells_byte =
    spells_number 1 (λ bytes. get_or bytes 0 0) one_byte (λ n. n < 256) (λ n below. record { size = refl; small = one_small n below }) (λ n below. refl)
    (λ bytes fits. fits.small 0) (λ bytes fits. one_back bytes fits.size)

pub spells_u32 : Spells u32_at u32_bytes (λ n. n < 2 ^ 32)
unfolding u32_at u32_of u32_bytes
spells_u32 =
    spells_number 4 (from_be_bytes w32) (to_be_bytes w32) (λ n. n < 2 ^ 32)
    (λ n below. record { size = refl; small = small_bytes 4 n }) from_be_bytes-to_be_bytes_4
    (λ bytes fits. from_4_below bytes fits.small) to_4_back

pub spells_i32 : Spells i32_at i32_bytes (SFits w32)
unfolding i32_at i32_of i32_bytes
spells_i32 =
    spells_number 4 (λ bytes. to_z w32 (from_be_bytes w32 bytes)) (λ z. to_be_bytes w32 (of_z w32 z)) (SFits w32)
    (λ z fits. record { size = refl; small = small_bytes 4 (of_z w32 z) })
    (λ z fits. ap (to_z w32) (from_be_bytes-to_be_bytes_4 (of_z w32 z) (Fits-of_z fits).fits) ∙ to_z-of_z fits)
    (λ bytes fits. sfits_to_z (Fits-of_lt (from_4_below bytes fits.small)))
    (λ bytes fits. ap (to_be_bytes w32) (of_z-to_z {w = w32} (Fits-of_lt (from_4_below bytes fits.small))) ∙ to_4_back bytes fits)

pub spells_i64 : Spells i64_at i64_bytes (SFits w64)
unfolding i64_at i64_of i64_bytes
spells_i64 =
    spells_number 8 (λ bytes. to_z w64 (from_be_bytes w64 bytes)) (λ z. to_be_bytes w64 (of_z w64 z)) (SFits w64)
    (λ z fits. record { size = refl; small = small_bytes 8 (of_z w64 z) })
    (λ z fits. ap (to_z w64) (from_be_bytes-to_be_bytes_8 (of_z w64 z) (Fits-of_z fits).fits) ∙ to_z-of_z fits)
    (λ bytes fits. sfits_to_z (Fits-of_lt (from_8_below bytes fits.small)))
    (λ bytes fits. ap (to_be_bytes w64) (of_z-to_z {w = w64} (Fits-of_lt (from_8_below bytes fits.small))) ∙ to_8_back bytes fits)

pub spells_u128 : Spells u128_at u128_bytes (λ n. n < 2 ^ 128)
unfolding u128_at u128_of u128_bytes
spells_u128 =
    spells_number 16 (from_be_bytes w128) (to_be_bytes w128) (λ n. n < 2 ^ 128) (λ n below. record { size = refl; small = small_bytes 16 n }) from_16_back
    (λ bytes fits. from_16_below bytes fits.small) to_16_back

pub spells_i128 : Spells i128_at i128_bytes (SFits w128)
unfolding i128_at i128_of i128_bytes
spells_i128 =
    spells_number 16 (λ bytes. to_z w128 (from_be_bytes w128 bytes)) (λ z. to_be_bytes w128 (of_z w128 z)) (SFits w128)
    (λ z fits. record { size = refl; small = small_bytes 16 (of_z w128 z) })
    (λ z fits. ap (to_z w128) (from_16_back (of_z w128 z) (Fits-of_z fits).fits) ∙ to_z-of_z fits)
    (λ bytes fits. sfits_to_z (Fits-of_lt (from_16_below bytes fits.small)))
    (λ bytes fits. ap (to_be_bytes w128) (of_z-to_z {w = w128} (Fits-of_lt (from_16_below bytes fits.small))) ∙ to_16_back bytes fits)

-- numbers that pass a test
abbrev pub FitsU32 : (ℕ → Bool) → ℕ → Type 0
FitsU32 test n = (n < 2 ^ 32) × (test n ≡ true)

pub spells_within : (cause low high : ℕ) → Spells (within cause low high) u32_bytes (FitsU32 (is_from_to low high))
unfolding within
spells_within cause low high = spells_checked cause (is_from_to low high) spells_u32

-- a signed number that passes a test
abbrev pub FitsI32 : (ℤ → Bool) → ℤ → Type 0
FitsI32 test z = SFits w32 z × (test z ≡ true)

pub spells_between : (cause : ℕ) (low high : ℤ) → Spells (between cause low high) i32_bytes (FitsI32 (is_between low high))
unfolding between
spells_between cause low high = spells_checked cause (is_between low high) spells_i32

-- one at most so large in size
abbrev pub FitsI64 : (ℤ → Bool) → ℤ → Type 0
FitsI64 test z = SFits w64 z × (test z ≡ true)

pub spells_at_most : (cause most : ℕ) → Spells (at_most cause most) i64_bytes (FitsI64 (is_at_most most))
unfolding at_most
spells_at_most cause most = spells_checked cause (is_at_most most) spells_i64

-- a text
letters_are : (xs : List ℕ) → flat_map one_byte xs ≡ xs
letters_are [] = refl
letters_are (x ∷ xs) = ap (λ l. x ∷ l) (letters_are xs)

abbrev IsLetter : List ℕ → List ℕ → ℕ → Type 0
IsLetter text before n = (n < 256) × (nat_eq (get_or text (length before) 0) n ≡ true)

spells_letter : (cause : ℕ) (text before : List ℕ) → Spells (letter cause text before) one_byte (IsLetter text before)
unfolding letter
spells_letter cause text before = spells_checked cause (nat_eq (get_or text (length before) 0)) spells_byte

letters_fit : (text : List ℕ) (n : ℕ) (xs : List ℕ) → n ≤ length text → FitsEach (IsLetter text) n xs → xs ≡ take n text
letters_fit text zero xs most fits = fits
letters_fit text (suc n) xs most fits =
    let before = letters_fit text n fits.before (omega (arith, most)) fits.so_far in
    let size : length fits.before ≡ n = ap length before ∙ length-take-le n text (omega (arith, most)) in
    let same : get_or text n 0 ≡ fits.last = ap (λ k. get_or text k 0) (sym size) ∙ eqb-true _ _ fits.here.1 in
    fits.whole
    ∙ ap (λ l. l ++ fits.last ∷ []) before
    ∙ ap (λ b. take n text ++ b ∷ []) (sym same)
    ∙ sym (take_more text n 0 (omega (arith, most)))
    ∙ ap (λ m. take m text) (add-one n)

fit_letters : (text : List ℕ) → IsBytes text → FitsEach (IsLetter text) (length text) text
fit_letters text small = fits_each (IsLetter text) 0 (length text) text refl (λ i below. (
  small i,
  (let size = length-take-le i text (omega (arith, below)) in rw size (eq-eqb (get_or text i 0) (get_or text i 0) refl)),
))

pub spells_exactly : (cause : ℕ) (text : List ℕ) → IsBytes text → Spells (exactly cause text) (λ t. t) (λ t. t ≡ text)
unfolding exactly
spells_exactly cause text small =
    spells_so (λ t is. subst (FitsEach (IsLetter text) (length text)) (sym is) (fit_letters text small))
    (λ t fits. letters_fit text (length text) t (omega arith) fits ∙ take-length text)
    (λ t fits. sym (letters_are t))
    (spells_each (letter cause text) one_byte (IsLetter text) (length text) (spells_letter cause text))
