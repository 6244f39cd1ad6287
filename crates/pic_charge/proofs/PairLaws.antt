-- The pair of nodes of a point, and the share of a particle by its three pairs.
use Rattle.std.proofs.Common.{◌≡◌, ℕ, ◌+◌, ◌*◌, ◌^◌, ◌<◌, ◌≤◌, List, unsigned_abs, sym, ◌∙◌, ap, subst, arith}
use Rattle.std.proofs.Math.IntN.{ℤ, pos, ◌*ℤ◌}
use Rattle.std.proofs.lemmas.Int.{to_z-of_z, fits_signed_from_abs}
use mir.Syntax.{w32}
use mir.Val.{to_z, of_z}
use Rattle.pic_num.specs.declared.motion.Particle.{Particle}
use Rattle.pic_num.specs.declared.motion.Kind.{Kind}
use Rattle.pic_num.specs.Space.{Triple, triple}
use Rattle.pic_block.specs.Cells.{IsWithin}
use Rattle.pic_grid.specs.Hat.{periodic_hat, weight}
use Rattle.pic_grid.specs.PushPhase.{kind_of}
use Rattle.pic_grid.specs.declared.pair.Pair.{Pair}
use Rattle.pic_charge.specs.Charge.{share}
use Rattle.pic_grid.specs.Pair.{weight_in, IsPairOf}
use Rattle.pic_charge.specs.Spread.{spread}

-- a pair under the side and the number of cells that the code looked up
pub pair_as : (s side n m point : ℕ) (w : Pair) → s ≡ side → n ≡ m → IsPairOf s n 0 point w → IsPairOf side m 0 point w
pair_as s side n m point w same cells of =
    subst (λ (k : ℕ). IsPairOf side k 0 point w) cells (subst (λ (k : ℕ). IsPairOf k n 0 point w) same of)

-- the weight of a point for a node, by its pair
node_weight : (s n point j : ℕ) (w : Pair) → IsPairOf s n 0 point w → j < n → periodic_hat s (n * s) point (j * s) ≡ weight_in w j
node_weight s n point j w of below =
    ap (periodic_hat s (n * s) point) (let e : j * s ≡ j * s + 0 = omega arith in e) ∙ of.weights j below

-- what is spread over the box of a particle's pairs is the particle's share
pub share_is_spread : (side : ℕ) (n : Triple) (kinds : List Kind) (x : Particle) (a b c : Pair) (amount : ℤ)
    → amount ≡ pos 12 *ℤ (kind_of kinds x).charge
    → IsPairOf side n.x 0 (triple x.x).x a
    → IsPairOf side n.y 0 (triple x.x).y b
    → IsPairOf side n.z 0 (triple x.x).z c
    → (p : Triple) → IsWithin p n → spread amount (weight_in a) (weight_in b) (weight_in c) p ≡ share side n kinds x p
unfolding spread share weight
share_is_spread side n kinds x a b c amount is on_x on_y on_z p within =
    λ i. is i *ℤ pos (sym (node_weight side n.x (triple x.x).x p.x a on_x within.x) i * sym (node_weight side n.y (triple x.x).y p.y b on_y within.y) i
    * sym (node_weight side n.z (triple x.x).z p.z c on_z within.z) i)

-- 12 times a charge, as the code multiplies it
pub twelve_is : (q r : ℤ) → unsigned_abs q ≤ 2 ^ 15 → r ≡ pos 12 *ℤ to_z w32 (of_z w32 q) → r ≡ pos 12 *ℤ q
twelve_is q r small is = is ∙ ap (λ (t : ℤ). pos 12 *ℤ t) (to_z-of_z w32 q (fits_signed_from_abs w32 q (omega (arith, small))))
