-- The size solver: overflow, casts and bounds of signed arithmetic, in one line.
--
-- A goal shows each step of the code on signed numbers as `to_z w (of_z w z)`: the number z, cast to
-- the width w. `search` reads such a term with the known sizes of its leaves, and `tt` is the proof
-- that every cast in it keeps its number and that the whole is small enough. docs/PROOFS.md has examples.
use Rattle.std.proofs.Common.{◌≡◌, ℕ, suc, ◌+◌, ◌-◌, ◌*◌, ◌^◌, ◌<◌, ◌≤◌, Bool, true, ◌&&◌, sym, ◌∙◌, ap, subst, refl, arith}
use Rattle.std.proofs.Math.IntN.{ℤ, pos, negsuc, neg_ℤ, ◌+ℤ◌, ◌*ℤ◌}
use Rattle.std.proofs.Math.Dec.{T, ltb, ltb→lt}
use Rattle.std.proofs.Math.Nat.{mul-le-mul_left, mul-le-mul_right, le_trans}
use Rattle.std.specs.Prelude.{unsigned_abs}
use Rattle.std.proofs.lemmas.Int.{ints, to_z-of_z, to_z_pos, unsigned_abs-mul, fits_signed_from_abs}
use mir.Syntax.{Width, w32, w64, w128}
use mir.Val.{SFits, to_z, of_z, hbits}
use mathlib.Core.Path.{ap₂}
use Rattle.pic_num.specs.Sizes.{IsAtMost}
use Rattle.pic_num.proofs.Ring.{T_left, T_right}

-- how a number is computed, with the sizes of what it is computed from
pub data Code : ℤ → Type 0 where
  atom : {x : ℤ} (n : ℕ) → unsigned_abs x ≤ n → Code x
  number : (n : ℕ) → Code (pos n)
  minus_number : (n : ℕ) → Code (negsuc n)
  plus : {a b : ℤ} → Code a → Code b → Code (a +ℤ b)
  times : {a b : ℤ} → Code a → Code b → Code (a *ℤ b)
  minus : {a : ℤ} → Code a → Code (neg_ℤ a)
  cast : {a : ℤ} (w : Width) → Code a → Code (to_z w (of_z w a))
  widened : {m : ℕ} (w : Width) (n : ℕ) → m ≤ n → Code (to_z w m)

-- the number with its casts left out
abbrev pub plain : {z : ℤ} → Code z → ℤ
plain (atom {x} n h) = x
plain (number n) = pos n
plain (minus_number n) = negsuc n
plain (plus x y) = plain x +ℤ plain y
plain (times x y) = plain x *ℤ plain y
plain (minus x) = neg_ℤ (plain x)
plain (cast w x) = plain x
plain (widened {m} w n h) = pos m

-- how large it can be
abbrev pub bound : {z : ℤ} → Code z → ℕ
bound (atom n h) = n
bound (number n) = n
bound (minus_number n) = suc n
bound (plus x y) = bound x + bound y
bound (times x y) = bound x * bound y
bound (minus x) = bound x
bound (cast w x) = bound x
bound (widened w n h) = n

-- each cast has room for what it casts
abbrev pub kept : {z : ℤ} → Code z → Bool
kept (atom n h) = true
kept (number n) = true
kept (minus_number n) = true
kept (plus x y) = kept x && kept y
kept (times x y) = kept x && kept y
kept (minus x) = kept x
kept (cast w x) = ltb (bound x) (2 ^ hbits w) && kept x
kept (widened w n h) = ltb n (2 ^ hbits w)

-- factors that are no larger make a product that is no larger
pub times_at_most : (a b m n : ℕ) → a ≤ m → b ≤ n → a * b ≤ m * n
times_at_most a b m n h k = le_trans (mul-le-mul_right b h) (mul-le-mul_left m k)

-- a number that is at most m in size is at most anything larger
pub at_most_more : (z : ℤ) (m n : ℕ) → m ≤ n → IsAtMost z m → IsAtMost z n
at_most_more z m n more small = let size = small.size in record { size = omega (arith, more, size) }

pub size : {z : ℤ} (r : Code z) → unsigned_abs (plain r) ≤ bound r
size (atom n h) = h
size (number n) = omega arith
size (minus_number n) = omega arith
size (plus x y) =
    let h = size x in
    let k = size y in omega (arith, ints, h, k)
size (times x y) =
    rw (unsigned_abs-mul (plain x) (plain y))
    (times_at_most (unsigned_abs (plain x)) (unsigned_abs (plain y)) (bound x) (bound y) (size x) (size y))
size (minus x) = let h = size x in omega (arith, ints, h)
size (cast w x) = size x
size (widened w n h) = h

-- a number below half the range of a type is what the type holds of it
kept_by : (w : Width) (a : ℤ) (n : ℕ) → unsigned_abs a ≤ n → T (ltb n (2 ^ hbits w)) → to_z w (of_z w a) ≡ a
kept_by w a n h t =
    let k = ltb→lt n (2 ^ hbits w) t in
    let fits : unsigned_abs a < 2 ^ hbits w = omega (arith, h, k) in
    to_z-of_z w a (fits_signed_from_abs w a fits)

-- the computed number is the plain one
pub code_is : {a : ℤ} (r : Code a) → T (kept r) → a ≡ plain r
code_is (atom n h) t = refl
code_is (number n) t = refl
code_is (minus_number n) t = refl
code_is (plus x y) t =
    ap₂ ◌+ℤ◌ (code_is x (T_left (kept x) (kept y) t)) (code_is y (T_right (kept x) (kept y) t))
code_is (times x y) t =
    ap₂ ◌*ℤ◌ (code_is x (T_left (kept x) (kept y) t)) (code_is y (T_right (kept x) (kept y) t))
code_is (minus x) t = ap neg_ℤ (code_is x t)
code_is (cast w x) t =
    let e = code_is x (T_right (ltb (bound x) (2 ^ hbits w)) (kept x) t) in
    ap (λ (z : ℤ). to_z w (of_z w z)) e
    ∙ kept_by w (plain x) (bound x) (size x) (T_left (ltb (bound x) (2 ^ hbits w)) (kept x) t)
code_is (widened {m} w n h) t =
    let k = ltb→lt n (2 ^ hbits w) t in to_z_pos w m (omega (arith, h, k))

size_of : {a : ℤ} (r : Code a) → T (kept r) → unsigned_abs a ≤ bound r
size_of {a} r t = let P : ℤ → Type 0 = λ z. unsigned_abs z ≤ bound r in subst P (sym (code_is r t)) (size r)

-- the computed number fits its type: it doesn't overflow
pub code_fits : (w : Width) {a : ℤ} (r : Code a) → T (ltb (bound r) (2 ^ hbits w) && kept r) → SFits w a
code_fits w {a} r t =
    let k = ltb→lt (bound r) (2 ^ hbits w) (T_left (ltb (bound r) (2 ^ hbits w)) (kept r) t) in
    let h = size_of r (T_right (ltb (bound r) (2 ^ hbits w)) (kept r) t) in
    fits_signed_from_abs w a (omega (arith, h, k))

-- the computed number is at most n in size
pub code_at_most : {a : ℤ} {n : ℕ} (r : Code a) → T (ltb (bound r) (suc n) && kept r) → IsAtMost a n
code_at_most {a} {n} r t =
    let k = ltb→lt (bound r) (suc n) (T_left (ltb (bound r) (suc n)) (kept r) t) in
    let h = size_of r (T_right (ltb (bound r) (suc n)) (kept r) t) in
    record { size = omega (arith, h, k) }

-- What `search` makes the readings of. A leaf is a number whose size is known from a hypothesis.
abbrev pub of_size : {x : ℤ} {n : ℕ} → IsAtMost x n → Code x
of_size {x} {n} h = atom n h.size

abbrev pub at_most : {x : ℤ} {n : ℕ} → unsigned_abs x ≤ n → Code x
at_most {x} {n} h = atom n h

abbrev pub under : {x : ℤ} {n : ℕ} → unsigned_abs x < n → Code x
under {x} {n} h = atom (n - 1) (omega (arith, h))

abbrev pub cast_w32 : {a : ℤ} → Code a → Code (to_z w32 (of_z w32 a))
cast_w32 x = cast w32 x

abbrev pub cast_w64 : {a : ℤ} → Code a → Code (to_z w64 (of_z w64 a))
cast_w64 x = cast w64 x

abbrev pub cast_w128 : {a : ℤ} → Code a → Code (to_z w128 (of_z w128 a))
cast_w128 x = cast w128 x

-- an unsigned number that is cast to a signed type
abbrev pub wide_w64 : {m n : ℕ} → m ≤ n → Code (to_z w64 m)
wide_w64 {m} {n} h = widened w64 n h

abbrev pub wide_w128 : {m n : ℕ} → m ≤ n → Code (to_z w128 m)
wide_w128 {m} {n} h = widened w128 n h

abbrev pub wide_under_w64 : {m n : ℕ} → m < n → Code (to_z w64 m)
wide_under_w64 {m} {n} h = widened w64 (n - 1) (omega (arith, h))

abbrev pub wide_under_w128 : {m n : ℕ} → m < n → Code (to_z w128 m)
wide_under_w128 {m} {n} h = widened w128 (n - 1) (omega (arith, h))

abbrev pub literal : (n : ℕ) → T (ltb n (suc n)) → Code (pos n)
literal n t = number n

abbrev pub minus_literal : (n : ℕ) → T (ltb n (suc n)) → Code (negsuc n)
minus_literal n t = minus_number n

pub ruleset codes = (
  of_size,
  at_most,
  under,
  plus,
  times,
  minus,
  cast_w32,
  cast_w64,
  cast_w128,
  wide_w64,
  wide_w128,
  wide_under_w64,
  wide_under_w128,
  literal,
  minus_literal,
)
