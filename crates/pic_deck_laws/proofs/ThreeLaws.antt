-- Three numbers at a key: a walk accepts them exactly where they are spelled, within their limits.
use Rattle.std.proofs.Common.{◌≡◌, ℕ, zero, suc, ℤ, pos, ◌<◌, ◌≤◌, ◌≤ℤ◌, List, [], ◌∷◌, length, slice_index}
use Rattle.std.proofs.Common.{Some, Ok, ap, ◌∙◌, lit<, arith}
use Rattle.std.proofs.lemmas.Int.{ints}
use Rattle.toml.specs.Data.{Members}
use Rattle.pic_num.specs.declared.axis.Axis.{Axis}
use Rattle.pic_num.specs.declared.axis.Axis.TheVariants.{X, Y, Z}
use Rattle.pic_num.specs.Sizes.{IsAtMost}
use Rattle.pic_num.specs.Space.{spot, along}
use Rattle.pic_walk.specs.declared.limits.Limits.{Limits}
use Rattle.pic_walk.specs.Limits.{from_to, either_way, below, thrice, MeetsLimits, limits_at}
use Rattle.pic_walk.specs.Walk.{numbers, three, need}
use Rattle.pic_deck_laws.specs.FillTables.{HasThree, HasSigned}
use Rattle.pic_deck_laws.specs.Spelling.{integers, naturals}
use Rattle.pic_deck_laws.proofs.ValueLaws.{FitFrom, Within, WithinToo, Natural, numbers_ok, numbers_from, three_ok, three_from, three_fit, fit_three}
use Rattle.pic_deck_laws.proofs.ValueLaws.{need_ok, need_from}

-- Three natural numbers at a key
pub record Three (a b c : Limits) (t : Members) (key ns : List ℕ) : Type 0 where
  pub has : HasThree t key ns
  pub x : MeetsLimits a (pos (slice_index ns 0))
  pub y : MeetsLimits b (pos (slice_index ns 1))
  pub z : MeetsLimits c (pos (slice_index ns 2))

low_at : (a b c : Limits) → pos 0 ≤ℤ a.low → pos 0 ≤ℤ b.low → pos 0 ≤ℤ c.low → (k : ℕ) → pos 0 ≤ℤ (limits_at (a ∷ b ∷ c ∷ []) k).low
unfolding limits_at
low_at a b c la lb lc zero = la
low_at a b c la lb lc (suc zero) = lb
low_at a b c la lb lc (suc (suc zero)) = lc
low_at a b c la lb lc (suc (suc (suc k))) = omega (arith, ints)

lows : (a b c : Limits) → pos 0 ≤ℤ a.low → pos 0 ≤ℤ b.low → pos 0 ≤ℤ c.low → Natural (a ∷ b ∷ c ∷ [])
lows a b c la lb lc = record { low = low_at a b c la lb lc }

pub need_three_ok : (a b c : Limits) → pos 0 ≤ℤ a.low → pos 0 ≤ℤ b.low → pos 0 ≤ℤ c.low → (key path : List ℕ) (t : Members) (ns : List ℕ)
    → need (three (a ∷ b ∷ c ∷ [])) key path t ≡ Ok ns → Three a b c t key ns
unfolding limits_at
need_three_ok a b c la lb lc key path t ns e =
    let ls : List Limits = a ∷ b ∷ c ∷ [] in
    let found = need_ok _ key path t ns e in
    let is = three_ok ls (lows a b c la lb lc) _ found.value ns found.reads in
    let fits = three_fit (WithinToo ls) ns is.size is.fit in
    record {
      has = record { there = found.has ∙ ap (λ x. Some x) is.is; three = is.size };
      x = fits 0 (lit< tt);
      y = fits 1 (lit< tt);
      z = fits 2 (lit< tt);
    }

pub need_three_from : (a b c : Limits) (key path : List ℕ) (t : Members) (ns : List ℕ) → Three a b c t key ns
    → need (three (a ∷ b ∷ c ∷ [])) key path t ≡ Ok ns
unfolding limits_at
need_three_from a b c key path t ns is =
    let ls : List Limits = a ∷ b ∷ c ∷ [] in
    need_from _ key path t (naturals ns) ns is.has.there
    (three_from ls _ ns is.has.three (fit_three (WithinToo ls) ns is.has.three is.x is.y is.z))

-- Three whole numbers at a key, each of the same size at most
pub at_most_of : (m : ℕ) (z : ℤ) → MeetsLimits (either_way m) z → IsAtMost z m
at_most_of m z is = record { size = omega (arith, ints, is.low, is.high) }

pub of_at_most : (m : ℕ) (z : ℤ) → IsAtMost z m → MeetsLimits (either_way m) z
of_at_most m z is = record { low = omega (arith, ints, is.size); high = omega (arith, ints, is.size) }

pub record Signed (m : ℕ) (t : Members) (key : List ℕ) (zs : List ℤ) : Type 0 where
  pub has : HasSigned t key zs
  pub most : (a : Axis) → IsAtMost (along a (spot zs)) m

pub signed_fit : (m : ℕ) (zs : List ℤ) → length zs ≡ 3 → FitFrom (Within (thrice (either_way m))) 0 zs → (a : Axis) → IsAtMost (along a (spot zs)) m
unfolding limits_at
signed_fit m [] size fit a = absurd (omega (arith, size))
signed_fit m (x ∷ []) size fit a = absurd (omega (arith, size))
signed_fit m (x ∷ y ∷ []) size fit a = absurd (omega (arith, size))
signed_fit m (x ∷ y ∷ z ∷ []) size fit X = at_most_of m x fit.0
signed_fit m (x ∷ y ∷ z ∷ []) size fit Y = at_most_of m y fit.1.0
signed_fit m (x ∷ y ∷ z ∷ []) size fit Z = at_most_of m z fit.1.1.0
signed_fit m (x ∷ y ∷ z ∷ w ∷ zs) size fit a = absurd (omega (arith, size))

pub fit_signed : (m : ℕ) (zs : List ℤ) → length zs ≡ 3 → ((a : Axis) → IsAtMost (along a (spot zs)) m) → FitFrom (Within (thrice (either_way m))) 0 zs
unfolding limits_at
fit_signed m [] size most = absurd (omega (arith, size))
fit_signed m (x ∷ []) size most = absurd (omega (arith, size))
fit_signed m (x ∷ y ∷ []) size most = absurd (omega (arith, size))
fit_signed m (x ∷ y ∷ z ∷ []) size most = (of_at_most m x (most X), (of_at_most m y (most Y), (of_at_most m z (most Z), tt)))
fit_signed m (x ∷ y ∷ z ∷ w ∷ zs) size most = absurd (omega (arith, size))

pub need_signed_ok : (m : ℕ) (key path : List ℕ) (t : Members) (zs : List ℤ) → need (numbers (thrice (either_way m))) key path t ≡ Ok zs → Signed m t key zs
need_signed_ok m key path t zs e =
    let found = need_ok _ key path t zs e in
    let is = numbers_ok (thrice (either_way m)) _ found.value zs found.reads in
    record { has = record { there = found.has ∙ ap (λ x. Some x) is.is; three = is.size }; most = signed_fit m zs is.size is.fit }

pub need_signed_from : (m : ℕ) (key path : List ℕ) (t : Members) (zs : List ℤ) → Signed m t key zs → need (numbers (thrice (either_way m))) key path t ≡ Ok zs
need_signed_from m key path t zs is =
    need_from _ key path t (integers zs) zs is.has.there
    (numbers_from (thrice (either_way m)) _ zs is.has.three (fit_signed m zs is.has.three is.most))

pub by_three : (P : ℕ → Type 0) → P 0 → P 1 → P 2 → (k : ℕ) → k < 3 → P k
by_three P x y z zero h = x
by_three P x y z (suc zero) h = y
by_three P x y z (suc (suc zero)) h = z
by_three P x y z (suc (suc (suc k))) h = absurd (omega (arith, h))

pub up_to : (low high n : ℕ) → low ≤ n → n ≤ high → MeetsLimits (from_to (pos low) (pos high)) (pos n)
up_to low high n least most = record { low = omega (arith, ints, least); high = omega (arith, ints, most) }

pub in_below : (m n : ℕ) → n < m → MeetsLimits (below m) (pos n)
in_below m n h = record { low = omega (arith, ints); high = omega (arith, ints, h) }
