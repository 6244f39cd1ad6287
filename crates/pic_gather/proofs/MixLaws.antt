-- Two values under the weights of a pair, and four rows under those of two.
use Rattle.std.proofs.Common.{◌≡◌, ℕ, ◌+◌, ◌*◌, ◌^◌, ◌<◌, ◌≤◌, [], ◌∷◌, unsigned_abs, refl, subst, sym, ap, ◌∙◌, arith}
use Rattle.std.proofs.Math.IntN.{ℤ, pos, ◌+ℤ◌, ◌*ℤ◌}
use Rattle.std.proofs.Math.Nat.{mul-le-mul_right, mul-le-mul_left}
use Rattle.std.proofs.lemmas.Int.{ints, to_z-of_z, unsigned_abs-mul}
use lib.Signed.{mag}
use mir.Syntax.{w64, w128}
use mir.Val.{to_z, of_z, SFits}
use Rattle.pic_num.specs.declared.axis.Axis.{Axis}
use Rattle.pic_num.specs.Limits.{most_force, most_side}
use Rattle.pic_num.specs.Sizes.{IsAtMost}
use Rattle.pic_num.proofs.Ring.{ring, reads}
use Rattle.pic_num.proofs.SizeLaws.{codes, code_is, code_fits, at_most_more}
use Rattle.pic_block.specs.Weak.{most_weak}
use Rattle.pic_grid.specs.Lattice.{Field}
use Rattle.pic_grid.specs.Pair.{IsPair, weight_in}
use Rattle.pic_grid.specs.Sums.{sum_below}
use Rattle.pic_grid.specs.declared.pair.Pair.{Pair}
use Rattle.pic_gather.specs.Forces.{row_sum, layer_sum, whole_sum}
use Rattle.pic_grid.proofs.SumLaws.{cube_is}
use Rattle.pic_gather.specs.Cube.{IsCubeOf}
use Rattle.pic_gather.specs.Mix.{HaveRoom}
use Rattle.pic_gather.specs.Weak.{most_weak_side}
use Rattle.pic_gather.specs.declared.cube.Cube.{Cube}
use Rattle.pic_gather.proofs.HalfLaws.{held, word}
use Rattle.pic_gather.proofs.TwoTermLaws.{two_terms}

-- two values under two weights
abbrev pub mix : ℤ → ℤ → ℕ → ℕ → ℤ
mix a b u w = a *ℤ pos u +ℤ b *ℤ pos w

-- a mix is no larger than the larger value times the sum of the weights
pub mix_size : (a b : ℤ) (u w most : ℕ) → IsAtMost a most → IsAtMost b most → IsAtMost (mix a b u w) (most * (u + w))
mix_size a b u w most k l =
    let low : unsigned_abs a * u ≤ most * u = mul-le-mul_right u k.size in
    let high : unsigned_abs b * w ≤ most * w = mul-le-mul_right w l.size in
    let low_is : unsigned_abs (a *ℤ pos u) ≡ unsigned_abs a * u = unsigned_abs-mul a (pos u) in
    let high_is : unsigned_abs (b *ℤ pos w) ≡ unsigned_abs b * w = unsigned_abs-mul b (pos w) in
    record { size = bound _ _ _ _ _ most u w (sum_size (a *ℤ pos u) (b *ℤ pos w)) low_is high_is low high }
  where
    sum_size : (x y : ℤ) → unsigned_abs (x +ℤ y) ≤ unsigned_abs x + unsigned_abs y
    sum_size x y = omega (arith, ints)

    bound : (all x y p q m r w : ℕ) → all ≤ x + y → x ≡ p → y ≡ q → p ≤ m * r → q ≤ m * w → all ≤ m * (r + w)
    bound all x y p q m r w h i j k l = omega (arith, h, i, j, k, l)

-- four rows under their weights, in the order of the code
four_terms : (a b c d : ℤ) (u w p q : ℕ) → a *ℤ pos (u * p) +ℤ b *ℤ pos (w * p) +ℤ c *ℤ pos (u * q) +ℤ d *ℤ pos (w * q)
    ≡ mix (mix a b u w) (mix c d u w) p q
four_terms a b c d u w p q = ring (a ∷ b ∷ c ∷ d ∷ pos u ∷ pos w ∷ pos p ∷ pos q ∷ []) (search reads depth 40 fits 9000) tt

pub code_four : (a b c d : ℤ) → IsAtMost a (2 ^ 86) → IsAtMost b (2 ^ 86) → IsAtMost c (2 ^ 86) → IsAtMost d (2 ^ 86)
    → word (word (word (word a +ℤ word b) +ℤ word c) +ℤ word d) ≡ a +ℤ b +ℤ c +ℤ d
code_four a b c d h k l m = code_is (search codes depth 20) tt

-- a number of the code that stands for a weight
pub weight_size : (z : ℤ) (u w m : ℕ) → z ≡ pos u → u + w ≤ m → IsAtMost z m
weight_size z u w m is most = subst (λ (x : ℤ). IsAtMost x m) (sym is) (record { size = omega (arith, most) })

pub other_size : (z : ℤ) (u w m : ℕ) → z ≡ pos w → u + w ≤ m → IsAtMost z m
other_size z u w m is most = weight_size z w u m is (omega (arith, most))

-- a number of 62 bits as a word holds it
held_is : (s : ℤ) → IsAtMost s (2 ^ 62) → held s ≡ s
held_is s small = code_is (search codes depth 4) tt

held_fits : (s : ℤ) → IsAtMost s (2 ^ 62) → SFits w64 s
held_fits s small = code_fits w64 (search codes depth 4) tt

-- a number under a weight, as the code has both
module _ (n x : ℤ) (u : ℕ) (n_fits : SFits w64 n) (x_fits : SFits w64 x) (x_is : x ≡ pos u) (most : ℕ) (small : IsAtMost n most) (room : most * u ≤ 2 ^ 62)
  where
    weighed_size : IsAtMost (n *ℤ pos u) (2 ^ 62)
    weighed_size =
        let one : unsigned_abs n * u ≤ most * u = mul-le-mul_right u small.size in
        let is : unsigned_abs (n *ℤ pos u) ≡ unsigned_abs n * u = unsigned_abs-mul n (pos u) in
        record { size = omega (arith, one, is, room) }

    weighed : held n *ℤ held x ≡ n *ℤ pos u
    weighed = (λ i. to_z-of_z w64 n n_fits i *ℤ to_z-of_z w64 x x_fits i) ∙ ap (λ z. n *ℤ z) x_is

    -- fits its word
    pub weighed_fits : SFits w64 (held n *ℤ held x)
    weighed_fits = subst (SFits w64) (sym weighed) (held_fits _ weighed_size)

    weighed_held : held (held n *ℤ held x) ≡ n *ℤ pos u
    weighed_held = ap held weighed ∙ held_is _ weighed_size

-- each number for whose sum with another a word has room has it alone
pub low_room : (a b : ℤ) (w : Pair) (h : HaveRoom a b w) → h.most * w.low_weight ≤ 2 ^ 62
low_room a b w h =
    let all : h.most * w.low_weight ≤ h.most * (w.low_weight + w.high_weight) = mul-le-mul_left h.most (omega arith) in
    omega (arith, all, h.room)

pub high_room : (a b : ℤ) (w : Pair) (h : HaveRoom a b w) → h.most * w.high_weight ≤ 2 ^ 62
high_room a b w h =
    let all : h.most * w.high_weight ≤ h.most * (w.low_weight + w.high_weight) = mul-le-mul_left h.most (omega arith) in
    omega (arith, all, h.room)

-- the code's mix of two numbers, for whose sum a word has room,
module _ (a b x y : ℤ) (w : Pair) (h : HaveRoom a b w) (a_fits : SFits w64 a) (b_fits : SFits w64 b) (x_fits : SFits w64 x) (y_fits : SFits w64 y)
    (x_is : x ≡ pos w.low_weight) (y_is : y ≡ pos w.high_weight)
  where
    size : IsAtMost (mix a b w.low_weight w.high_weight) (2 ^ 62)
    size = at_most_more _ (h.most * (w.low_weight + w.high_weight)) (2 ^ 62) h.room (mix_size a b w.low_weight w.high_weight h.most h.low h.high)

    products : held (held a *ℤ held x) +ℤ held (held b *ℤ held y) ≡ mix a b w.low_weight w.high_weight
    products = λ i. weighed_held a x w.low_weight a_fits x_fits x_is h.most h.low (low_room a b w h) i
        +ℤ weighed_held b y w.high_weight b_fits y_fits y_is h.most h.high (high_room a b w h) i

    -- fits it,
    pub sum_fits : SFits w64 (held (held a *ℤ held x) +ℤ held (held b *ℤ held y))
    sum_fits = subst (SFits w64) (sym products) (held_fits _ size)

    -- and is their mix
    pub mix_is : held (held (held a *ℤ held x) +ℤ held (held b *ℤ held y)) ≡ mix a b w.low_weight w.high_weight
    mix_is = ap held products ∙ held_is _ size

-- what is held of a row's sum is no larger
pub held_row : (r : ℤ) (m : ℕ) → mag r < 2 ^ 63 → IsAtMost r m → IsAtMost (to_z w64 (of_z w64 r)) m
held_row r m held small = subst (λ (z : ℤ). IsAtMost z m) (sym (to_z-of_z w64 r (record { sfits = held }))) small

-- nor is what a word of 128 bits holds of a sum
pub held_sum : (r : ℤ) (m : ℕ) → mag r < 2 ^ 127 → IsAtMost r m → IsAtMost (word r) m
held_sum r m fits small = subst (λ (z : ℤ). IsAtMost z m) (sym (to_z-of_z w128 r (record { sfits = fits }))) small

-- a row's sum of weak values in cells of few sub-cells
pub weak_row : (r : ℤ) (sum side : ℕ) → mag r < 2 ^ 63 → sum ≡ side → side ≤ most_weak_side → IsAtMost r (most_weak * sum) → IsAtMost (held r) (2 ^ 38)
weak_row r sum side fits is few size =
    held_row r (2 ^ 38) fits (at_most_more r (most_weak * sum) (2 ^ 38) (omega (arith, is, few)) size)

-- the four weighed rows are a mix of two mixes
pub four_of : (a b c d e f g h r : ℤ) (u w p q : ℕ) → e ≡ a *ℤ pos (u * p) → f ≡ b *ℤ pos (w * p) → g ≡ c *ℤ pos (u * q)
    → h ≡ d *ℤ pos (w * q) → r ≡ e +ℤ f +ℤ g +ℤ h → r ≡ mix (mix a b u w) (mix c d u w) p q
four_of a b c d e f g h r u w p q e_is f_is g_is h_is is =
    is ∙ (λ i. e_is i +ℤ f_is i +ℤ g_is i +ℤ h_is i) ∙ four_terms a b c d u w p q

-- a mix of the values at a pair's two cells is the weighted sum along the axis
pub mixed : (side n : ℕ) (f : ℕ → ℤ) (w : Pair) (low high r : ℤ) → IsPair side n w → low ≡ f w.low → high ≡ f w.high
    → r ≡ mix low high w.low_weight w.high_weight → r ≡ sum_below n (λ j. f j *ℤ pos (weight_in w j))
mixed side n f w low high r on low_is high_is is =
    is
    ∙ (λ i. low_is i *ℤ pos w.low_weight +ℤ high_is i *ℤ pos w.high_weight)
    ∙ sym (two_terms n w.low w.low_weight w.high w.high_weight f on.low on.high)

-- the rows' sums within their bound are within that of the code
pub row_most : (z : ℤ) (side : ℕ) → side ≤ most_side → IsAtMost z (most_force * side) → IsAtMost z (most_force * most_side)
row_most z side most small = at_most_more z (most_force * side) (most_force * most_side) (mul-le-mul_left most_force most) small

pub whole_row : (r : ℤ) (sum side : ℕ) → mag r < 2 ^ 63 → sum ≡ side → IsAtMost r (most_force * sum) → IsAtMost (to_z w64 (of_z w64 r)) (most_force * side)
whole_row r sum side held is small = held_row r (most_force * side) held (subst (λ (m : ℕ). IsAtMost r (most_force * m)) is small)

-- their mix is within its bound, over the cube as the code has it
pub cube_of : (r : ℤ) (side : ℕ) (c : Cube) → IsCubeOf side c → IsAtMost r (most_force * (side * side * side)) → IsAtMost r (most_force * 2 ^ c.bits)
cube_of r side c is small =
    let both : side * side * side ≡ 2 ^ c.bits = cube_is side ∙ sym is.cube in
    subst (λ (m : ℕ). IsAtMost r (most_force * m)) both small

-- the sums along the four rows of two pairs, r being their mix
module _ (f : Field) (a : Axis) (x y z : Pair) (low_low high_low low_high high_high r : ℤ) (on_y : IsPair f.side f.cells.y y) (on_z : IsPair f.side f.cells.z z)
    (is : r ≡ mix (mix low_low high_low y.low_weight y.high_weight) (mix low_high high_high y.low_weight y.high_weight) z.low_weight z.high_weight)
  where
    -- r is the sum over all places,
    pub four_mixed : low_low ≡ row_sum f a x y.low z.low → high_low ≡ row_sum f a x y.high z.low
        → low_high ≡ row_sum f a x y.low z.high → high_high ≡ row_sum f a x y.high z.high → r ≡ whole_sum f a x y z
    unfolding layer_sum whole_sum
    four_mixed low_low_is high_low_is low_high_is high_high_is =
        let low : mix low_low high_low y.low_weight y.high_weight ≡ layer_sum f a x y z.low =
        mixed f.side f.cells.y (λ j. row_sum f a x j z.low) y low_low high_low _ on_y low_low_is high_low_is refl in
        let high : mix low_high high_high y.low_weight y.high_weight ≡ layer_sum f a x y z.high =
        mixed f.side f.cells.y (λ j. row_sum f a x j z.high) y low_high high_high _ on_y low_high_is high_high_is refl in
        mixed f.side f.cells.z (λ j. layer_sum f a x y j) z _ _ r on_z low high is

    -- and no larger than the largest force times the cube of the side
    pub four_size : IsAtMost low_low (most_force * f.side) → IsAtMost high_low (most_force * f.side)
        → IsAtMost low_high (most_force * f.side) → IsAtMost high_high (most_force * f.side) → IsAtMost r (most_force * (f.side * f.side * f.side))
    four_size h i j k =
        let m : ℕ = most_force * f.side in
        let low = mix_size low_low high_low y.low_weight y.high_weight m h i in
        let high = mix_size low_high high_high y.low_weight y.high_weight m j k in
        let both = mix_size _ _ z.low_weight z.high_weight (m * (y.low_weight + y.high_weight)) low high in
        let bound : m * (y.low_weight + y.high_weight) * (z.low_weight + z.high_weight) ≡ most_force * (f.side * f.side * f.side) =
        (λ t. m * on_y.whole t * on_z.whole t) ∙ omega arith in
        subst (λ (v : ℤ). IsAtMost v (most_force * (f.side * f.side * f.side))) (sym is) (subst (IsAtMost _) bound both)
