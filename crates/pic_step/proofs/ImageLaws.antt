-- The images of an index that flux can reach.
use Rattle.std.proofs.Common.{◌≡◌, ℕ, suc, ◌<◌, ◌≤◌, inl, inr, ap, ◌∙◌, arith}
use Rattle.std.proofs.Math.IntN.{ℤ, pos, negsuc, ◌+ℤ◌, ◌*ℤ◌}
use Rattle.std.specs.Prelude.{◌<ℤ◌}
use Rattle.std.proofs.lemmas.Int.{ints, by_lt_z}
use Rattle.pic_num.specs.Rounding.{IsResidue}
use Rattle.pic_num.proofs.RoundingLaws.{mul-le_mul}
use Rattle.pic_step.specs.Reach.{IsImage, ThreeImagesAreAll}
use Rattle.pic_step.proofs.BeyondLaws.{traces_beyond_x, traces_beyond_y, traces_beyond_z}

-- two boxes or more under or over are beyond
far_under : (n i : ℕ) (j m : ℤ) → 2 ≤ n → i < n → j ≡ m *ℤ pos n +ℤ pos i → m <ℤ negsuc 0 → j <ℤ negsuc 0
far_under n i j m two below is under =
    let h = mul-le_mul m (negsuc 1) (pos n) (omega (arith, ints, under)) (omega (arith, ints)) in omega (arith, ints, h, is, below, two)

far_over : (n i : ℕ) (j m : ℤ) → 2 ≤ n → j ≡ m *ℤ pos n +ℤ pos i → pos 1 <ℤ m → pos (suc n) <ℤ j
far_over n i j m two is over =
    let h = mul-le_mul (pos 2) m (pos n) (omega (arith, ints, over)) (omega (arith, ints)) in omega (arith, ints, h, is, two)

by_turns : (j m k : ℤ) (n i : ℕ) → j ≡ m *ℤ pos n +ℤ pos i → m ≡ k → j ≡ k *ℤ pos n +ℤ pos i
by_turns j m k n i is e = is ∙ ap (λ (t : ℤ). t *ℤ pos n +ℤ pos i) e

image_of : (n i : ℕ) (j : ℤ) → 2 ≤ n → IsResidue j n i → IsImage n i j
image_of n i j two wraps =
    let m = wraps.turns.0 in
    let is = wraps.turns.1 in
    by_lt_z m (negsuc 0)
    (λ under. inr (inr (inr (inl (far_under n i j m two wraps.below is under)))))
    (λ least. by_lt_z (pos 1) m
    (λ over. inr (inr (inr (inr (far_over n i j m two is over)))))
    (λ most. by_lt_z m (pos 0)
    (λ one_under. let k : m ≡ negsuc 0 = omega (arith, ints, least, one_under) in let f = by_turns j m (negsuc 0) n i is k in inl (omega (arith, ints, f)))
    (λ above. by_lt_z (pos 0) m
    (λ one_over. let k : m ≡ pos 1 = omega (arith, ints, one_over, most) in let f = by_turns j m (pos 1) n i is k in inr (inr (inl (omega (arith, ints, f)))))
    (λ none. let k : m ≡ pos 0 = omega (arith, ints, none, above) in let f = by_turns j m (pos 0) n i is k in inr (inl (omega (arith, ints, f)))))))

pub three_images_are_all : ThreeImagesAreAll
three_images_are_all = record {
  images = image_of;
  reach = λ w xs above all. record {
    x = λ a c. traces_beyond_x w xs a c above all;
    y = λ a c. traces_beyond_y w xs a c above all;
    z = λ a c. traces_beyond_z w xs a c above all;
  };
}
