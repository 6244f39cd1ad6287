-- A path has no flux through an edge that on some axis is apart from the cells of its start and end.
use Rattle.std.proofs.Common.{◌≡◌, ℕ, ◌<◌, ◌⊎◌, inl, inr, Bool, true, false, cond, List, [], ◌∷◌, refl, ◌∙◌, subst, sym, arith}
use Rattle.std.proofs.Math.IntN.{ℤ, pos, ◌+ℤ◌, ◌-ℤ◌, ◌*ℤ◌}
use Rattle.std.specs.Prelude.{◌<ℤ◌, unsigned_abs}
use Rattle.std.proofs.lemmas.Bool.Decides.{nat_tests}
use Rattle.std.proofs.lemmas.Int.{ints}
use Rattle.pic_num.specs.declared.axis.Axis.{Axis}
use Rattle.pic_num.specs.declared.axis.Axis.TheVariants.{X, Y, Z}
use Rattle.pic_num.specs.Flux.{simpson}
use Rattle.pic_num.specs.Space.{Spot, along}
use Rattle.pic_num.proofs.Ring.{ring, reads}
use Rattle.pic_grid.specs.Flux.{flux, path_flux}
use Rattle.pic_grid.specs.Hat.{hat}
use Rattle.pic_grid.specs.Path.{same_int}
use Rattle.pic_grid.specs.Segment.{Piece, IsInside, IsInCell, Leads, arrived, onward}
use Rattle.pic_grid.specs.Sums.{sum_over}
use Rattle.pic_grid.proofs.TwoHatLaws.{only, only_below, only_above, two_hats}

-- an index that is neither that of a cell nor the next one: no edge there has a share of what moves
-- in the cell
abbrev pub IsApart : ℤ → ℤ → Type 0
IsApart cell j = (j <ℤ cell) ⊎ ((cell +ℤ pos 1) <ℤ j)

only_apart : (c j : ℤ) → IsApart c j → (only c j ≡ pos 0) × (only (c +ℤ pos 1) j ≡ pos 0)
only_apart c j (inl low) = (only_below c j low, only_below (c +ℤ pos 1) j (omega (arith, ints, low)))
only_apart c j (inr high) = (only_above c j (omega (arith, ints, high)), only_above (c +ℤ pos 1) j high)

no_weight : (u v : ℤ) → pos 0 *ℤ u +ℤ pos 0 *ℤ v ≡ pos 0
no_weight u v = ring (u ∷ v ∷ []) (search reads depth 10) tt

-- the weight of a point of a cell for a place apart
hat_apart : (side : ℕ) (c p j : ℤ) → IsInside side c p → IsApart c j → hat side p (j *ℤ pos side) ≡ pos 0
hat_apart side c p j inside apart =
    let both = only_apart c j apart in
    let u = c *ℤ pos side +ℤ pos side -ℤ p in
    let v = p -ℤ c *ℤ pos side in
    two_hats side c p j inside ∙ (λ i. both.0 i *ℤ u +ℤ both.1 i *ℤ v) ∙ no_weight u v

other_cell : (c j : ℤ) → IsApart c j → same_int j c ≡ false
unfolding same_int
other_cell c j (inl low) = let some : 0 < unsigned_abs (j -ℤ c) = omega (arith, ints, low) in grind (arith, nat_tests)
other_cell c j (inr high) = let some : 0 < unsigned_abs (j -ℤ c) = omega (arith, ints, high) in grind (arith, nat_tests)

pub when_false : (b : Bool) (t : ℤ) → b ≡ false → cond b t (pos 0) ≡ pos 0
when_false true t h = cc
when_false false t h = refl

pub when_zero : (b : Bool) (t : ℤ) → t ≡ pos 0 → cond b t (pos 0) ≡ pos 0
when_zero true t h = h
when_zero false t h = refl

pub no_first : (q way a0 a1 b0 b1 : ℤ) → a0 ≡ pos 0 → a1 ≡ pos 0 → simpson q way a0 a1 b0 b1 ≡ pos 0
unfolding simpson
no_first q way a0 a1 b0 b1 h k = (λ i. simpson q way (h i) (k i) b0 b1) ∙ ring (q ∷ way ∷ b0 ∷ b1 ∷ []) (search reads depth 14) tt

pub no_second : (q way a0 a1 b0 b1 : ℤ) → b0 ≡ pos 0 → b1 ≡ pos 0 → simpson q way a0 a1 b0 b1 ≡ pos 0
unfolding simpson
no_second q way a0 a1 b0 b1 h k = (λ i. simpson q way a0 a1 (h i) (k i)) ∙ ring (q ∷ way ∷ a0 ∷ a1 ∷ []) (search reads depth 14) tt

-- the weights of both ends of a piece
from_apart : (side : ℕ) (s : Piece) (b : Axis) (c : Spot) → IsInCell side s → IsApart (along b s.cell) (along b c)
    → hat side (along b s.from) (along b c *ℤ pos side) ≡ pos 0
from_apart side s b c at apart = hat_apart side (along b s.cell) (along b s.from) (along b c) (at.from b) apart

to_apart : (side : ℕ) (s : Piece) (b : Axis) (c : Spot) → IsInCell side s → IsApart (along b s.cell) (along b c)
    → hat side (along b s.to) (along b c *ℤ pos side) ≡ pos 0
to_apart side s b c at apart = hat_apart side (along b s.cell) (along b s.to) (along b c) (at.to b) apart

-- a piece has no flux through an edge that is apart from its cell on the axis b
pub flux_apart : (side : ℕ) (q : ℤ) (s : Piece) (a b : Axis) (c : Spot) → IsInCell side s → IsApart (along b s.cell) (along b c)
    → flux side q s a c ≡ pos 0
unfolding flux
flux_apart side q s X X c at apart = when_false _ _ (other_cell s.cell.x c.x apart)
flux_apart side q s X Y c at apart = when_zero _ _ (no_first q _ _ _ _ _ (from_apart side s Y c at apart) (to_apart side s Y c at apart))
flux_apart side q s X Z c at apart = when_zero _ _ (no_second q _ _ _ _ _ (from_apart side s Z c at apart) (to_apart side s Z c at apart))
flux_apart side q s Y X c at apart = when_zero _ _ (no_second q _ _ _ _ _ (from_apart side s X c at apart) (to_apart side s X c at apart))
flux_apart side q s Y Y c at apart = when_false _ _ (other_cell s.cell.y c.y apart)
flux_apart side q s Y Z c at apart = when_zero _ _ (no_first q _ _ _ _ _ (from_apart side s Z c at apart) (to_apart side s Z c at apart))
flux_apart side q s Z X c at apart = when_zero _ _ (no_first q _ _ _ _ _ (from_apart side s X c at apart) (to_apart side s X c at apart))
flux_apart side q s Z Y c at apart = when_zero _ _ (no_second q _ _ _ _ _ (from_apart side s Y c at apart) (to_apart side s Y c at apart))
flux_apart side q s Z Z c at apart = when_false _ _ (other_cell s.cell.z c.z apart)

either_apart : (i c e j : ℤ) → (i ≡ c) ⊎ (i ≡ e) → IsApart c j → IsApart e j → IsApart i j
either_apart i c e j (inl is) start end = subst (λ (k : ℤ). IsApart k j) (sym is) start
either_apart i c e j (inr is) start end = subst (λ (k : ℤ). IsApart k j) (sym is) end

-- nor has a path through an edge that is apart from the cells of its start and end
pub path_apart : (side : ℕ) (q : ℤ) (c e : Spot) (a b : Axis) (edge : Spot) → IsApart (along b c) (along b edge) → IsApart (along b e) (along b edge)
    → {p : Spot} → {ss : List Piece} → {r : Spot} → Leads side c e p ss r → path_flux side q ss a edge ≡ pos 0
unfolding path_flux sum_over
path_apart side q c e a b edge start end arrived = refl
path_apart side q c e a b edge start end (onward s at of rest) =
    (λ i. flux_apart side q s a b edge at (either_apart (along b s.cell) (along b c) (along b e) (along b edge) (of.either b) start end) i
    +ℤ path_apart side q c e a b edge start end rest i)
