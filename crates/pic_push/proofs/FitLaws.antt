-- The path of a particle can be deposited.
use Rattle.std.proofs.Common.{◌≡◌, ◌*◌, ◌^◌, Option, Some, [], ◌∷◌, unsigned_abs, ◌∙◌, ℕ, zero, suc, ◌<◌, ◌≤◌, List, take, ap, arith}
use Rattle.std.proofs.Math.IntN.{ℤ}
use Rattle.std.specs.Prelude.{All}
use Rattle.pic_num.specs.Limits.{most_charge}
use Rattle.pic_num.specs.declared.axis.Axis.{Axis}
use Rattle.pic_num.specs.Sizes.{IsAtMost}
use Rattle.pic_num.specs.Space.{Spot, AreAtMost}
use Rattle.pic_grid.specs.Flux.{flux, path_flux}
use Rattle.pic_grid.specs.Sums.{sum_over}
use Rattle.pic_grid.proofs.OverLaws.{sum_over-one}
use Rattle.pic_num.proofs.SizeLaws.{times_at_most}
use Rattle.pic_grid.specs.Path.{path}
use Rattle.pic_grid.specs.Segment.{Piece, IsInCell, Leads, arrived, onward}
use Rattle.pic_grid.specs.Traces.{IsFluxAtMost}
use Rattle.pic_grid.proofs.FluxLaws.{front_flux_size}
use Rattle.pic_grid.specs.Ways.{ways}
use Rattle.pic_split.specs.Move.{lone_piece}
use Rattle.pic_split.proofs.LeadLaws.{move_along}
use Rattle.pic_split.proofs.WayLaws.{path_ways}

-- pieces that lead somewhere lie each in its cell
pub pieces_inside : (side : ℕ) {c e p : Spot} {ss : List Piece} {r : Spot} → Leads side c e p ss r → All (IsInCell side) ss
pieces_inside side arrived k d below = absurd (omega (arith, below))
pieces_inside side (onward s at of rest) zero d below = at
pieces_inside side (onward s at of rest) (suc k) d below = pieces_inside side rest k d (omega (arith, below))

-- how much flux such a charge carries along a side
charged_few : (side : ℕ) (q : ℤ) → side ≤ 2 ^ 14 → IsAtMost q most_charge → unsigned_abs q * side * (12 * (side * side)) ≤ 2 ^ 61
charged_few side q most charge =
    let cell = times_at_most side side (2 ^ 14) (2 ^ 14) most most in
    let way = times_at_most (unsigned_abs q) side (2 ^ 15) (2 ^ 14) charge.size most in
    let whole = times_at_most (unsigned_abs q * side) (12 * (side * side)) (2 ^ 29) (12 * 2 ^ 28) (omega (arith, way)) (omega (arith, cell)) in
    omega (arith, whole)

-- the flux of the first pieces of a path of a particle, whose charge is within the limits
pub path_short : (side : ℕ) (p d : Spot) (q : ℤ) (ss : List Piece) → 0 < side → side ≤ 2 ^ 14 → ss ≡ path side p d → AreAtMost d side
    → IsAtMost q most_charge → (k : ℕ) → IsFluxAtMost (2 ^ 62) (path_flux side q (take k ss))
path_short side p d q ss some most is move charge k =
    let short : (a : Axis) → ways a ss ≤ side =
    λ a. let whole = ap (ways a) is in let same = path_ways side p d a some move in let size = move_along side a d move in omega (arith, whole, same, size) in
    let few = charged_few side q most charge in
    record {
      at_most = λ a c. let size = front_flux_size side q ss a c side k (short a) in record { size = omega (arith, size, few) };
    }

-- a path of one piece
pub lone_is : (ss : List Piece) (s : Piece) → lone_piece ss ≡ Some s → ss ≡ s ∷ []
lone_is [] s h = cc
lone_is (t ∷ []) s h = ap (λ (r : Piece). r ∷ []) (some_is t s h)
  where
    some_is : (a b : Piece) → ◌≡◌ {A = Option Piece} (Some a) (Some b) → a ≡ b
    some_is a b e = cc
lone_is (t ∷ u ∷ ss) s h = cc

pub lone_flux : (side : ℕ) (q : ℤ) (ss : List Piece) (s : Piece) (a : Axis) (c : Spot) → lone_piece ss ≡ Some s
    → path_flux side q ss a c ≡ flux side q s a c
unfolding path_flux
lone_flux side q ss s a c one =
    ap (λ (ts : List Piece). sum_over (λ t. flux side q t a c) ts) (lone_is ss s one) ∙ sum_over-one (λ t. flux side q t a c) s
