-- The words of a generator, one after another.
use Rattle.std.proofs.Common.{◌≡◌, ℕ, zero, suc, ◌+◌, ap, ◌∙◌, arith}
use Rattle.rand_pcg.specs.Lcg.{Lcg}
use Rattle.rand_pcg.specs.Pcg.{pcg32}
use Rattle.pic_load.specs.Generator.{after, word}

pub after_after : (m n : ℕ) (g : Lcg) → after n (after m g) ≡ after (m + n) g
unfolding after
after_after m zero g = ap (λ k. after k g) (let e : m ≡ m + 0 = omega arith in e)
after_after m (suc n) g =
    ap (λ (h : Lcg). (pcg32 h).1) (after_after m n g)
    ∙ ap (λ k. after k g) (let e : suc (m + n) ≡ m + suc n = omega arith in e)

pub word_after : (m n : ℕ) (g : Lcg) → word n (after m g) ≡ word (m + n) g
unfolding word
word_after m n g = ap (λ (h : Lcg). (pcg32 h).0) (after_after m n g)

-- what a call gives, and what it leaves
pub drawn_word : (r : ℕ) (g h : Lcg) → (r, h) ≡ pcg32 g → r ≡ word 0 g
unfolding word after
drawn_word r g h e = ap (λ (p : ℕ × Lcg). p.0) e

pub left_after : (r : ℕ) (g h : Lcg) → (r, h) ≡ pcg32 g → h ≡ after 1 g
unfolding after
left_after r g h e = ap (λ (p : ℕ × Lcg). p.1) e

-- the generator after a part, and after another
pub left_more : (m n k : ℕ) (g h i : Lcg) → h ≡ after m g → i ≡ after n h → m + n ≡ k → i ≡ after k g
left_more m n k g h i e f s = f ∙ ap (after n) e ∙ after_after m n g ∙ ap (λ j. after j g) s
