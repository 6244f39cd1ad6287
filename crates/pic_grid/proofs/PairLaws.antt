-- A point between two places of an axis, and a point half a cell back round the axis.
use Rattle.std.proofs.Common.{◌≡◌, ℕ, ◌+◌, ◌-◌, ◌*◌, ◌/◌, ◌%◌, ◌<◌, ◌≤◌, sym, ◌∙◌, subst, arith}
use Rattle.std.proofs.lemmas.Nat.{mod_below, div_below, div-add-mod'}
use Rattle.pic_grid.specs.declared.pair.Pair.{Pair}
use Rattle.pic_grid.specs.Hat.{periodic_hat, only_at}
use Rattle.pic_grid.specs.Pair.{IsPairOf}
use Rattle.pic_grid.proofs.HatLaws.{two_hats}

-- a place h above a node has the weight that the node has for the point h back, on an axis of length l
pub back_round : (s l h a p : ℕ) → a + s ≤ l → h ≤ s → p < h → periodic_hat s l p (a + h) ≡ periodic_hat s l (p + (l - h)) (a + 0)
unfolding periodic_hat
back_round s l h a p inside half low = omega (arith, inside, half, low)

pub back : (s l h a p : ℕ) → a + s ≤ l → h ≤ s → p < l → h ≤ p → periodic_hat s l p (a + h) ≡ periodic_hat s l (p - h) (a + 0)
unfolding periodic_hat
back s l h a p inside half low high = omega (arith, inside, half, low, high)

-- the cell of a point and the next one, with the point's way into the cell
pub pair_of : (s n p : ℕ) (w : Pair) → 0 < s → 2 ≤ n → p < n * s → w.low ≡ p / s → w.high ≡ (p / s + 1) % n → w.low_weight ≡ s - p % s
    → w.high_weight ≡ p % s → IsPairOf s n 0 p w
pair_of s n p w some two inside low high low_weight high_weight =
    let small : p % s < s = mod_below p s some in
    let below : p / s < n = div_below p s n some inside in
    let next : (p / s + 1) % n < n = mod_below (p / s + 1) n (omega (arith, two)) in
    let is : p ≡ p / s * s + p % s = sym (div-add-mod' p s) in
    record {
      pair = record {
        low = subst (λ (i : ℕ). i < n) (sym low) below;
        high = subst (λ (i : ℕ). i < n) (sym high) next;
        next = high ∙ (λ i. (sym low i + 1) % n);
        whole = (λ i. low_weight i + high_weight i) ∙ omega (arith, small);
      };
      weights = λ j among.
          let node : j * s + 0 ≡ j * s = omega arith in
          (λ i. periodic_hat s (n * s) (is i) (node i))
          ∙ two_hats s n (p / s) (p % s) j small two below among
          ∙ (λ i. only_at (sym low i) (sym low_weight i) j + only_at (sym high i) (sym high_weight i) j);
    }
