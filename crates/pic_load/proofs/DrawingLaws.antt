-- Positions and velocities that are drawn, and the words that they are drawn by.
use Rattle.std.proofs.Common.{◌≡◌, ℕ, ◌+◌, map, ap, sym, ◌∙◌, arith}
use Rattle.std.specs.Prelude.{sum}
use Rattle.std.specs.List.{range_with_len}
use Rattle.std.proofs.lemmas.List.FromFn.{sum_by-map-range_with_len_more}
use Rattle.rand_pcg.specs.Lcg.{Lcg}
use Rattle.pic_load.specs.Generator.{after, word}
use Rattle.pic_load.specs.Drawing.{sum_of_words}
use Rattle.pic_load.proofs.GeneratorLaws.{word_after}

-- one word more
pub sum_more : (n : ℕ) (g h : Lcg) (r : ℕ) → h ≡ after n g → r ≡ word 0 h → sum_of_words n g + r ≡ sum_of_words (n + 1) g
unfolding sum_of_words
sum_more n g h r left is =
    let more = sum_by-map-range_with_len_more (λ x. x) (λ i. word i g) 0 n n (let e : 0 + n ≡ n = omega arith in e) in
    let here : r ≡ word n g = is ∙ ap (word 0) left ∙ word_after n 0 g ∙ ap (λ k. word k g) (let e : n + 0 ≡ n = omega arith in e) in
    ap (λ k. sum (map (λ i. word i g) (range_with_len 0 n)) + k) here ∙ sym more
