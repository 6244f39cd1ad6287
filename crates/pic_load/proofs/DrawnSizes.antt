-- How large the positions and velocities are that are drawn at random.
use Rattle.std.proofs.Common.{◌≡◌, ℕ, zero, suc, ℤ, pos, ◌+◌, ◌-◌, ◌*◌, ◌^◌, ◌<◌, ◌≤◌, ◌-ℤ◌, ◌*ℤ◌, List}
use Rattle.std.proofs.Common.{map, sum, slice_index, slice_index_or, unsigned_abs, ap, ◌∙◌, arith}
use Rattle.std.specs.List.{range_with_len}
use Rattle.std.proofs.lemmas.Int.{ints, unsigned_abs-mul}
use Rattle.std.proofs.lemmas.List.FromFn.{sum_by-map-range_with_len_more}
use Rattle.std.proofs.lemmas.Nat.{mod_below, or_of_32}
use Rattle.rand_pcg.specs.Lcg.{Lcg}
use Rattle.rand_pcg.specs.Pcg.{output_xsh_rr}
use Rattle.pic_num.specs.declared.axis.Axis.{Axis}
use Rattle.pic_num.specs.declared.axis.Axis.TheVariants.{X, Y, Z}
use Rattle.pic_num.specs.Sizes.{IsAtMost}
use Rattle.pic_num.specs.Space.{triple, spot, along}
use Rattle.pic_num.proofs.RoundingLaws.{rounded-size}
use Rattle.pic_num.proofs.SizeLaws.{times_at_most}
use Rattle.pic_block.specs.Cells.{Grid}
use Rattle.pic_grid.specs.Hat.{IsInBox}
use Rattle.pic_deck.specs.Species.{fastest, fastest_drift, widest_spread}
use Rattle.pic_load.specs.Drawing.{scaled_word, drawn_place, sum_of_words, mean_of_twelve, deviate, drawn_speed, drawn_velocity, IsSpread}
use Rattle.pic_load.specs.Generator.{after, word}

-- a word has 32 bits
word_small : (n : ℕ) (g : Lcg) → word n g < 2 ^ 32
unfolding word
word_small n g = rotated (after n g).state
  where
    rotated : (state : ℕ) → output_xsh_rr state < 2 ^ 32
    rotated state = or_of_32 _ _ (omega arith) (mod_below _ (2 ^ 32) (omega arith))

-- so a word of a length is below it
scaled_below : (w len : ℕ) → w < 2 ^ 32 → 0 < len → scaled_word w len < len
scaled_below w len small some = grind arith

pub drawn_in_box : (grid : Grid) (g : Lcg) → 0 < grid.n.x * grid.side → 0 < grid.n.y * grid.side → 0 < grid.n.z * grid.side
    → IsInBox grid.side grid.n (triple (drawn_place grid g))
unfolding drawn_place
drawn_in_box grid g x y z = record {
  x = scaled_below (word 0 g) (grid.n.x * grid.side) (word_small 0 g) x;
  y = scaled_below (word 1 g) (grid.n.y * grid.side) (word_small 1 g) y;
  z = scaled_below (word 2 g) (grid.n.z * grid.side) (word_small 2 g) z;
}

words_most : (n : ℕ) (g : Lcg) → sum_of_words n g ≤ n * (2 ^ 32 - 1)
unfolding sum_of_words
words_most zero g = omega arith
words_most (suc n) g =
    let more = sum_by-map-range_with_len_more (λ x. x) (λ i. word i g) 0 n n (let e : 0 + n ≡ n = omega arith in e) in
    let next : suc n ≡ n + 1 = omega arith in
    let here = word_small n g in
    let before = words_most n g in
    let all = ap (λ k. sum (map (λ i. word i g) (range_with_len 0 k))) next ∙ more in
    omega (arith, all, here, before)

-- a velocity of a mean and a spread within their limits
speed_most : (side : ℕ) (g : Lcg) (drift : ℤ) (spread : ℕ) → IsAtMost drift (fastest_drift side) → spread ≤ widest_spread side
    → IsAtMost (drawn_speed g drift spread) (fastest side)
unfolding drawn_speed deviate
speed_most side g drift spread mean width =
    let words = words_most 12 g in
    let off : unsigned_abs (pos (sum_of_words 12 g) -ℤ pos mean_of_twelve) ≤ 6 * (2 ^ 32 - 1) = omega (arith, ints, words) in
    let product : unsigned_abs (pos spread *ℤ (pos (sum_of_words 12 g) -ℤ pos mean_of_twelve)) ≤ widest_spread side * (6 * (2 ^ 32 - 1)) =
    rw (unsigned_abs-mul (pos spread) (pos (sum_of_words 12 g) -ℤ pos mean_of_twelve))
    (times_at_most spread (unsigned_abs (pos (sum_of_words 12 g) -ℤ pos mean_of_twelve)) (widest_spread side) (6 * (2 ^ 32 - 1)) width off) in
    let turn = rounded-size (pos spread *ℤ (pos (sum_of_words 12 g) -ℤ pos mean_of_twelve))
    (pos (2 ^ 32)) (6 * widest_spread side) (2 ^ 32) (omega arith) (omega (arith, ints)) (omega (arith, product)) in
    let m = mean.size in
    record { size = omega (arith, ints, m, turn) }

pub drawn_slow : (side : ℕ) (g : Lcg) (drift : List ℤ) (spread : List ℕ) → IsSpread side drift spread → (a : Axis)
    → IsAtMost (along a (spot (drawn_velocity g drift spread))) (fastest side)
unfolding drawn_velocity
drawn_slow side g drift spread is X =
    speed_most side g (slice_index_or drift 0 (pos 0)) (slice_index spread 0) (is.mean X) (is.width 0 (omega arith))
drawn_slow side g drift spread is Y =
    speed_most side (after 12 g) (slice_index_or drift 1 (pos 0)) (slice_index spread 1) (is.mean Y) (is.width 1 (omega arith))
drawn_slow side g drift spread is Z =
    speed_most side (after 24 g) (slice_index_or drift 2 (pos 0)) (slice_index spread 2) (is.mean Z) (is.width 2 (omega arith))
