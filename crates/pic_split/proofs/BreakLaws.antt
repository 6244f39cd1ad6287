-- One coordinate of a path at its crossings.
use Rattle.std.proofs.Common.{◌≡◌, ℕ, zero, suc, ◌+◌, ◌*◌, ◌/◌, ◌<◌, ◌≤◌, ◌⊎◌, Bool, false, nat_lt, unsigned_abs, int_lt, int_div, if◌then◌else◌, sym}
use Rattle.std.proofs.Common.{◌∙◌, ap, refl, inl, inr, arith, [], ◌∷◌}
use Rattle.std.proofs.Math.IntN.{ℤ, pos, negsuc, neg_ℤ, ◌+ℤ◌, ◌-ℤ◌, ◌*ℤ◌}
use Rattle.std.proofs.Math.Nat.{mul-le-mul_right}
use Rattle.std.proofs.lemmas.Bool.{cases_lt}
use Rattle.std.proofs.lemmas.Bool.Decides.{nat_tests}
use Rattle.std.proofs.lemmas.Int.{ints, by_lt_z, int_max_is}
use Rattle.std.proofs.lemmas.Nat.{le-div}
use Rattle.std.specs.Prelude.{◌<ℤ◌, ◌≤ℤ◌}
use Rattle.std.specs.Int.{int_max}
use Rattle.pic_grid.proofs.PathLaws.{floor_low, floor_high}
use Rattle.pic_num.specs.declared.axis.Axis.{Axis}
use Rattle.pic_num.specs.declared.axis.Axis.TheVariants.{X, Y, Z}
use Rattle.pic_num.specs.Rounding.{truncated}
use Rattle.pic_num.proofs.Ring.{ring, reads}
use Rattle.pic_num.proofs.RoundingLaws.{mul-le_mul}
use Rattle.pic_grid.specs.Path.{Crossing, floor_of, break_on, step_on}
use Rattle.pic_grid.specs.Segment.{IsInside}

-- n with the sign of d
abbrev pub with_sign : ℤ → ℕ → ℤ
with_sign (pos m) n = pos n
with_sign (negsuc m) n = neg_ℤ (pos n)

-- where a coordinate stands when the path from p by d has gone n along its axis
abbrev pub point_at : ℤ → ℤ → ℕ → ℤ
point_at p d n = p +ℤ with_sign d n

-- how far the path has gone along an axis at a crossing, if it goes d along it in all
abbrev pub part : Crossing → ℤ → ℕ
part k d = unsigned_abs k.way * unsigned_abs d / unsigned_abs k.whole

-- a crossing lies on its path: there is a move along its axis, of at most a side, and the way to the
-- face is a part of it
pub record IsSound (side : ℕ) (k : Crossing) : Type 0 where
  pub some : 0 < unsigned_abs k.whole
  pub within : unsigned_abs k.way ≤ unsigned_abs k.whole
  pub whole : unsigned_abs k.whole ≤ side
  pub sign : k.way ≡ with_sign k.whole (unsigned_abs k.way)

-- a crossing comes no later than another
pub record IsUpTo (k l : Crossing) : Type 0 where
  pub upto : unsigned_abs k.way * unsigned_abs l.whole ≤ unsigned_abs l.way * unsigned_abs k.whole

-- ---- quotients with a sign

none_over : (m : ℕ) → 0 / m ≡ 0
none_over m = omega arith

over_whole : (n m : ℕ) → int_div (neg_ℤ (pos n)) (pos m) ≡ neg_ℤ (pos (n / m))
over_whole zero m = ap pos (none_over m) ∙ ap (λ (t : ℕ). neg_ℤ (pos t)) (sym (none_over m))
over_whole (suc n) m = refl

over_minus : (n m : ℕ) → int_div (neg_ℤ (pos n)) (negsuc m) ≡ pos (n / suc m)
over_minus zero m = ap (λ (t : ℕ). neg_ℤ (pos t)) (none_over (suc m)) ∙ ap pos (sym (none_over (suc m)))
over_minus (suc n) m = refl

neg_times : (a b : ℤ) → neg_ℤ a *ℤ b ≡ neg_ℤ (a *ℤ b)
neg_times a b = ring (a ∷ b ∷ []) (search reads depth 40 fits 9000) tt

neg_both : (a b : ℤ) → neg_ℤ a *ℤ neg_ℤ b ≡ a *ℤ b
neg_both a b = ring (a ∷ b ∷ []) (search reads depth 40 fits 9000) tt

pub quotient : (w : ℕ) (m d : ℤ) → int_div (with_sign m w *ℤ d) m ≡ with_sign d (w * unsigned_abs d / unsigned_abs m)
quotient w (pos m) (pos d) = refl
quotient w (pos m) (negsuc d) =
    let e : pos w *ℤ negsuc d ≡ neg_ℤ (pos (w * suc d)) = omega (arith, ints) in
    ap (λ (z : ℤ). int_div z (pos m)) e ∙ over_whole (w * suc d) m
quotient w (negsuc m) (pos d) =
    let e : neg_ℤ (pos w) *ℤ pos d ≡ neg_ℤ (pos (w * d)) = neg_times (pos w) (pos d) in
    ap (λ (z : ℤ). int_div z (negsuc m)) e ∙ over_minus (w * d) m
quotient w (negsuc m) (negsuc d) =
    let e : neg_ℤ (pos w) *ℤ negsuc d ≡ pos (w * suc d) = neg_both (pos w) (pos (suc d)) in
    ap (λ (z : ℤ). int_div z (negsuc m)) e

-- a break point is where the path has gone its part
pub break_is : (side : ℕ) (k : Crossing) (p d : ℤ) → IsSound side k → break_on k p d ≡ point_at p d (part k d)
unfolding break_on truncated
break_is side k p d sound =
    ap (λ (z : ℤ). p +ℤ int_div (z *ℤ d) k.whole) sound.sign
    ∙ ap (λ (z : ℤ). p +ℤ z) (quotient (unsigned_abs k.way) k.whole d)

-- ---- the order of parts

least_quotient : (n m b : ℕ) → 0 < m → n ≤ b * m → n / m ≤ b
least_quotient n m b some h = go (cases_lt b (n / m))
  where
    go : (b < n / m) ⊎ (n / m ≤ b) → n / m ≤ b
    go (inl over) =
        let t : (b + 1) * m ≤ n / m * m = mul-le-mul_right m (omega (arith, over)) in absurd (omega (arith, t, h, some))
    go (inr upto) = upto

-- a part is at most the whole
pub part_within : (side : ℕ) (k : Crossing) (d : ℤ) → IsSound side k → part k d ≤ unsigned_abs d
part_within side k d sound =
    let n = unsigned_abs d in
    let t : unsigned_abs k.way * n ≤ unsigned_abs k.whole * n = mul-le-mul_right n sound.within in
    least_quotient (unsigned_abs k.way * n) (unsigned_abs k.whole) n sound.some (omega (arith, t))

-- a crossing that comes no later has the smaller part
pub part_upto : (side : ℕ) (k l : Crossing) (d : ℤ) → IsSound side k → IsSound side l → IsUpTo k l → part k d ≤ part l d
part_upto side k l d sound_k sound_l h =
    le-div (part k d) (unsigned_abs l.way * unsigned_abs d) (unsigned_abs l.whole) sound_l.some
    (by_parts (unsigned_abs k.way) (unsigned_abs k.whole) (unsigned_abs l.way) (unsigned_abs l.whole) (unsigned_abs d) (part k d) sound_k.some
    (omega (arith, sound_k.some)) h.upto)
  where
    by_parts : (w m v n c t : ℕ) → 0 < m → t * m ≤ w * c → w * n ≤ v * m → t * n ≤ v * c
    by_parts w m v n c t some below upto = go (cases_lt (v * c) (t * n))
      where
        go : (v * c < t * n) ⊎ (t * n ≤ v * c) → t * n ≤ v * c
        go (inl over) =
            let a : t * m * n ≤ w * c * n = mul-le-mul_right n below in
            let b : w * n * c ≤ v * m * c = mul-le-mul_right c upto in
            let e : (v * c + 1) * m ≤ t * n * m = mul-le-mul_right m (omega (arith, over)) in
            absurd (omega (arith, a, b, e, some))
        go (inr upto_there) = upto_there

-- at the crossing of the axis itself the part is the way
pub part_own : (k : Crossing) → 0 < unsigned_abs k.whole → part k k.whole ≡ unsigned_abs k.way
part_own k some =
    let n = unsigned_abs k.way in
    let m = unsigned_abs k.whole in
    let low : n ≤ n * m / m = le-div n (n * m) m some (omega arith) in
    let high : n * m / m ≤ n = least_quotient (n * m) m n some (omega arith) in omega (arith, low, high)

-- the order of crossings is transitive
pub upto_trans : (k l m : Crossing) → 0 < unsigned_abs l.whole → IsUpTo k l → IsUpTo l m → IsUpTo k m
upto_trans k l m some h g =
    record {
      upto = by_products (unsigned_abs k.way) (unsigned_abs k.whole) (unsigned_abs l.way) (unsigned_abs l.whole) (unsigned_abs m.way)
          (unsigned_abs m.whole) some h.upto g.upto;
    }
  where
    by_products : (a b c e f g : ℕ) → 0 < e → a * e ≤ c * b → c * g ≤ f * e → a * g ≤ f * b
    by_products a b c e f g above first second = go (cases_lt (f * b) (a * g))
      where
        go : (f * b < a * g) ⊎ (a * g ≤ f * b) → a * g ≤ f * b
        go (inl over) =
            let u : a * e * g ≤ c * b * g = mul-le-mul_right g first in
            let v : c * g * b ≤ f * e * b = mul-le-mul_right b second in
            let w : (f * b + 1) * e ≤ a * g * e = mul-le-mul_right e (omega (arith, over)) in
            absurd (omega (arith, u, v, w, above))
        go (inr upto) = upto

-- ---- where the coordinate stands

pub at_start : (p d : ℤ) → point_at p d 0 ≡ p
at_start p (pos n) = omega (arith, ints)
at_start p (negsuc n) = omega (arith, ints)

pub at_end : (p d : ℤ) → point_at p d (unsigned_abs d) ≡ p +ℤ d
at_end p (pos n) = refl
at_end p (negsuc n) = refl

-- between two points inside a cell the path is inside
pub between : (side : ℕ) (c p d : ℤ) (u t v : ℕ) → u ≤ t → t ≤ v → IsInside side c (point_at p d u) → IsInside side c (point_at p d v)
    → IsInside side c (point_at p d t)
between side c p (pos n) u t v low high first last =
    record { low = omega (arith, ints, low, high, first.low, last.low); high = omega (arith, ints, low, high, first.high, last.high) }
between side c p (negsuc n) u t v low high first last =
    record { low = omega (arith, ints, low, high, first.low, last.low); high = omega (arith, ints, low, high, first.high, last.high) }

-- ---- the crossing of an axis

-- the numbers of a floor
record IsFloor (side : ℕ) (c p : ℤ) : Type 0 where
  pub low : (c *ℤ pos side) ≤ℤ p
  pub high : p <ℤ (c *ℤ pos side +ℤ pos side)

floor_is : (side : ℕ) (p : ℤ) → 0 < side → IsFloor side (floor_of side p) p
floor_is side p some = record { low = floor_low side p some; high = floor_high side p some }

pub floor_inside : (side : ℕ) (p : ℤ) → 0 < side → IsInside side (floor_of side p) p
floor_inside side p some =
    let is = floor_is side p some in record { low = is.low; high = omega (arith, ints, is.high) }

-- a point that is at most a side further is at most in the next cell
next_cell : (side : ℕ) (c e p q : ℤ) → IsFloor side c p → IsFloor side e q → q ≤ℤ (p +ℤ pos side) → c <ℤ e → e ≡ c +ℤ pos 1
next_cell side c e p q here there near over =
    by_lt_z (c +ℤ pos 1) e
    (λ far.
    let t : ((c +ℤ pos 2) *ℤ pos side) ≤ℤ (e *ℤ pos side) = mul-le_mul (c +ℤ pos 2) e (pos side) (omega (arith, ints, far)) (omega (arith, ints)) in
    let f : (c +ℤ pos 2) *ℤ pos side ≡ c *ℤ pos side +ℤ pos side +ℤ pos side = ring (c ∷ pos side ∷ []) (search reads depth 40 fits 9000) tt in
    absurd (omega (arith, ints, t, f, here.high, there.low, near)))
    (λ upto. omega (arith, ints, upto, over))

-- what a crossing from the cell c to the cell e on an axis tells of the path from p by d
pub record Passing (side : ℕ) (a : Axis) (c e p d : ℤ) (k : Crossing) : Type 0 where
  pub sound : IsSound side k
  pub whole : k.whole ≡ d
  pub axis : k.axis ≡ a
  pub start : IsInside side c (point_at p d 0)
  pub before : IsInside side c (point_at p d (unsigned_abs k.way))
  pub after : IsInside side e (point_at p d (unsigned_abs k.way))
  pub end : IsInside side e (point_at p d (unsigned_abs d))
  pub step : step_on a k c ≡ e

none_below : (n : ℕ) → nat_lt n 0 ≡ false
none_below n = grind (arith, nat_tests)

step_own : (a : Axis) (way whole i : ℤ)
    → step_on a (record { axis = a; way = way; whole = whole }) i ≡ (if int_lt whole (pos 0) then i -ℤ pos 1 else i +ℤ pos 1)
unfolding step_on
step_own X way whole i = refl
step_own Y way whole i = refl
step_own Z way whole i = refl

up_passing : (side : ℕ) (a : Axis) (c e p : ℤ) (n : ℕ) (way : ℤ)
    → IsFloor side c p → IsFloor side e (p +ℤ pos n) → n ≤ side → e ≡ c +ℤ pos 1 → e *ℤ pos side ≡ c *ℤ pos side +ℤ pos side → way ≡ e *ℤ pos side -ℤ p
    → Passing side a c e p (pos n) (record { axis = a; way = way; whole = pos n })
up_passing side a c e p n way here there small next face is = record {
  sound = record {
    some = omega (arith, ints, here.high, there.low, face);
    within = omega (arith, ints, here.high, there.low, face, is);
    whole = small;
    sign = omega (arith, ints, here.high, face, is);
  };
  whole = refl;
  axis = refl;
  start = record { low = omega (arith, ints, here.low); high = omega (arith, ints, here.high) };
  before = record { low = omega (arith, ints, here.high, face, is); high = omega (arith, ints, here.high, face, is) };
  after = record { low = omega (arith, ints, here.high, face, is); high = omega (arith, ints, here.high, face, is) };
  end = record { low = there.low; high = omega (arith, ints, there.high) };
  step = step_own a way (pos n) c ∙ ap (λ (b : Bool). if b then c -ℤ pos 1 else c +ℤ pos 1) (none_below n) ∙ sym next;
}

down_passing : (side : ℕ) (a : Axis) (c e p : ℤ) (n : ℕ) (way : ℤ)
    → IsFloor side c p → IsFloor side e (p +ℤ negsuc n) → suc n ≤ side → c ≡ e +ℤ pos 1 → c *ℤ pos side ≡ e *ℤ pos side +ℤ pos side → way ≡ c *ℤ pos side -ℤ p
    → Passing side a c e p (negsuc n) (record { axis = a; way = way; whole = negsuc n })
down_passing side a c e p n way here there small next face is = record {
  sound = record {
    some = omega arith;
    within = omega (arith, ints, here.low, there.high, face, is);
    whole = small;
    sign = omega (arith, ints, here.low, face, is);
  };
  whole = refl;
  axis = refl;
  start = record { low = omega (arith, ints, here.low); high = omega (arith, ints, here.high) };
  before = record { low = omega (arith, ints, here.low, face, is); high = omega (arith, ints, here.low, face, is) };
  after = record { low = omega (arith, ints, here.low, face, is); high = omega (arith, ints, here.low, face, is) };
  end = record { low = there.low; high = omega (arith, ints, there.high) };
  step = step_own a way (negsuc n) c ∙ omega (arith, ints, next);
}

one_on : (side : ℕ) (c e : ℤ) → e ≡ c +ℤ pos 1 → e *ℤ pos side ≡ c *ℤ pos side +ℤ pos side
one_on side c e is =
    let f : (c +ℤ pos 1) *ℤ pos side ≡ c *ℤ pos side +ℤ pos side = ring (c ∷ pos side ∷ []) (search reads depth 40 fits 9000) tt in
    ap (λ (z : ℤ). z *ℤ pos side) is ∙ f

face_of : (side : ℕ) (c e p m : ℤ) → int_max c e ≡ m → int_max c e *ℤ pos side -ℤ p ≡ m *ℤ pos side -ℤ p
face_of side c e p m is = ap (λ (z : ℤ). z *ℤ pos side -ℤ p) is

max_right : (c e : ℤ) → c <ℤ e → int_max c e ≡ e
max_right c e less = omega (arith, ints, int_max_is c e, less)

max_left : (c e : ℤ) → e <ℤ c → int_max c e ≡ c
max_left c e less = omega (arith, ints, int_max_is c e, less)

-- a point that is no further is in no later cell
no_later : (side : ℕ) (c e p q : ℤ) → IsFloor side c p → IsFloor side e q → p ≤ℤ q → c ≤ℤ e
no_later side c e p q here there upto =
    by_lt_z e c
    (λ less.
    let t : ((e +ℤ pos 1) *ℤ pos side) ≤ℤ (c *ℤ pos side) = mul-le_mul (e +ℤ pos 1) c (pos side) (omega (arith, ints, less)) (omega (arith, ints)) in
    let f : (e +ℤ pos 1) *ℤ pos side ≡ e *ℤ pos side +ℤ pos side = ring (e ∷ pos side ∷ []) (search reads depth 40 fits 9000) tt in
    absurd (omega (arith, ints, t, f, here.low, there.high, upto)))
    (λ is. is)

apart : (c e : ℤ) → c ≤ℤ e → (c ≡ e → ⊥) → c <ℤ e
apart c e upto other = by_lt_z c e (λ less. less) (λ back. absurd (other (omega (arith, ints, upto, back))))

-- the crossing from the cell of p to another cell of p + d
pub passing : (side : ℕ) (a : Axis) (p d : ℤ) → 0 < side → unsigned_abs d ≤ side → (floor_of side p ≡ floor_of side (p +ℤ d) → ⊥)
    → Passing side a (floor_of side p) (floor_of side (p +ℤ d)) p d
    (record { axis = a; way = int_max (floor_of side p) (floor_of side (p +ℤ d)) *ℤ pos side -ℤ p; whole = d })
passing side a p (pos n) some small other =
    let c = floor_of side p in
    let e = floor_of side (p +ℤ pos n) in
    let here = floor_is side p some in
    let there = floor_is side (p +ℤ pos n) some in
    let over = apart c e (no_later side c e p (p +ℤ pos n) here there (omega (arith, ints))) other in
    let next = next_cell side c e p (p +ℤ pos n) here there (omega (arith, ints, small)) over in
    up_passing side a c e p n _ here there small next (one_on side c e next) (face_of side c e p e (max_right c e over))
passing side a p (negsuc n) some small other =
    let c = floor_of side p in
    let e = floor_of side (p +ℤ negsuc n) in
    let here = floor_is side p some in
    let there = floor_is side (p +ℤ negsuc n) some in
    let under = apart e c (no_later side e c (p +ℤ negsuc n) p there here (omega (arith, ints))) (λ is. other (sym is)) in
    let next = next_cell side e c (p +ℤ negsuc n) p there here (omega (arith, ints, small)) under in
    down_passing side a c e p n _ here there small next (one_on side e c next) (face_of side c e p c (max_left c e under))
