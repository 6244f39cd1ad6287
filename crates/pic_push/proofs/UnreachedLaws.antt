-- The layers of the directions that a piece of a path doesn't reach: no flux of it passes them.
use Rattle.std.proofs.Common.{◌≡◌, ℕ, zero, suc, ◌+◌, ◌/◌, ◌%◌, ◌<◌, ◌≤◌, ◌⊎◌, inl, inr, Bool, true, false, ◌&&◌, refl, subst, arith}
use Rattle.std.proofs.Math.IntN.{ℤ, pos, ◌+ℤ◌}
use Rattle.std.specs.Prelude.{◌≤ℤ◌, ◌<ℤ◌}
use Rattle.std.proofs.lemmas.Bool.Decides.{nat_tests}
use Rattle.std.proofs.lemmas.Int.{ints}
use Rattle.pic_num.specs.declared.axis.Axis.{Axis}
use Rattle.pic_num.specs.declared.axis.Axis.TheVariants.{X, Y, Z}
use Rattle.pic_num.specs.Space.{Triple, Spot, along}
use Rattle.pic_block.specs.Block.{InZone}
use Rattle.pic_grid.specs.Flux.{flux}
use Rattle.pic_grid.specs.Segment.{Piece, IsInCell}
use Rattle.pic_grid.proofs.ApartLaws.{IsApart, flux_apart}
use Rattle.pic_tile.specs.Directions.{directions, steps_of}
use Rattle.pic_tile.specs.Leaving.{direction_by}
use Rattle.pic_tile.specs.Layers.{layer_count, layer_low, layers_from, layers_size}
use Rattle.pic_tile.specs.declared.parcel.Parcel.{Parcel}
use Rattle.pic_push.specs.Gains.{IsClear}
use Rattle.pic_push.specs.Sends.{HasLayers}
use Rattle.pic_push.specs.declared.reach.Steps.{Steps}
use Rattle.pic_push.specs.declared.reach.Direction.{Direction}
use Rattle.pic_push.specs.declared.reach.Reach.{Reach}
use Rattle.pic_push.specs.Reach.{spans, reaches, IsReach, AreStepsOf, IsReachOf, AreSteps, first_direction, direction_number}

-- a step that isn't spanned is under the first or over the last
not_spanned : (s : Steps) (e : ℕ) → spans s e ≡ false → (e < s.first) ⊎ (s.last < e)
unfolding spans
not_spanned s e h = grind (arith, nat_tests)

-- on one axis its layers are apart from the piece's cell
apart_on : (low : ℤ) (n : ℕ) (cell j : ℤ) (s : Steps) (e : ℕ) → AreStepsOf low n cell s → e < 3 → spans s e ≡ false
    → layer_low n low e ≤ℤ j → j <ℤ (layer_low n low e +ℤ pos (layer_count n e)) → IsApart cell j
apart_on low n cell j s zero h few out least most =
    let first : s.first ≡ 1 = under (not_spanned s 0 out) in
    let f = h.under first in
    inl (omega (arith, ints, f, most))
  where
    under : (0 < s.first) ⊎ (s.last < 0) → s.first ≡ 1
    under (inl some) = let one = h.first in omega (arith, some, one)
    under (inr none) = absurd (omega (arith, none))
apart_on low n cell j s (suc zero) h few out least most = absurd (none (not_spanned s 1 out))
  where
    none : (1 < s.first) ⊎ (s.last < 1) → ⊥
    none (inl more) = let one = h.first in omega (arith, more, one)
    none (inr less) = let one = h.last_low in omega (arith, less, one)
apart_on low n cell j s (suc (suc e)) h few out least most =
    let last : s.last ≡ 1 = over (not_spanned s (suc (suc e)) out) in
    let f = h.over last in
    inr (omega (arith, ints, f, least))
  where
    over : (suc (suc e) < s.first) ⊎ (s.last < suc (suc e)) → s.last ≡ 1
    over (inl more) = let one = h.first in absurd (omega (arith, more, one))
    over (inr less) = let one = h.last_low in omega (arith, less, one, few)

either_false : (a b : Bool) → a && b ≡ false → (a ≡ false) ⊎ (b ≡ false)
either_false true b h = inr h
either_false false b h = inl refl

-- no flux of a piece passes the layers of a direction that it doesn't reach
pub unreached : (side : ℕ) (q : ℤ) (s : Piece) (low : Spot) (n : Triple) (r : Reach) (dir : ℕ) → IsInCell side s
    → IsReachOf low n s.cell r → dir < directions → reaches r dir ≡ false
    → (a : Axis) (c : Spot) → InZone (layers_from n low dir) (layers_size n dir) c → flux side q s a c ≡ pos 0
unfolding reaches
unreached side q s low n r dir at reach few out a c inside =
    by_axis (either_false (spans r.x e.x) (spans r.y e.y && spans r.z e.z) out)
  where
    e : Triple
    e = steps_of dir

    Goal : Type 0
    Goal = flux side q s a c ≡ pos 0

    on : (b : Axis) → IsApart (along b s.cell) (along b c) → Goal
    on b apart = flux_apart side q s a b c at apart

    by_rest : (spans r.y e.y ≡ false) ⊎ (spans r.z e.z ≡ false) → Goal
    by_rest (inl y) = on Y (apart_on low.y n.y s.cell.y c.y r.y (dir / 3 % 3) reach.y (omega arith) y inside.y_low inside.y_high)
    by_rest (inr z) = on Z (apart_on low.z n.z s.cell.z c.z r.z (dir / 9) reach.z (omega (arith, few)) z inside.z_low inside.z_high)

    by_axis : (spans r.x e.x ≡ false) ⊎ (spans r.y e.y && spans r.z e.z ≡ false) → Goal
    by_axis (inl x) = on X (apart_on low.x n.x s.cell.x c.x r.x (dir % 3) reach.x (omega arith) x inside.x_low inside.x_high)
    by_axis (inr rest) = by_rest (either_false (spans r.y e.y) (spans r.z e.z) rest)

pub piece_clear : (side : ℕ) (q : ℤ) (s : Piece) (low : Spot) (n : Triple) (r : Reach) (bound d : ℕ) (p : Parcel) → IsInCell side s
    → IsReachOf low n s.cell r → d < directions → reaches r d ≡ false → HasLayers bound low n d p → IsClear (flux side q s) p.flux
piece_clear side q s low n r bound d p at reach few out room = record {
  at = λ a e inside.
      unreached side q s low n r d at reach few out a e
      (subst (λ (m : Triple). InZone (layers_from n low d) m e) room.size_is (subst (λ (l : Spot). InZone l p.flux.size e) room.low_is inside));
}

-- directions before the first aren't reached
pub none_before : (r : Reach) (d : ℕ) → IsReach r → d < direction_number (first_direction r) → reaches r d ≡ false
unfolding reaches spans
none_before r d h below = grind (arith, nat_tests)

-- nor those between one and the next
pub none_in_row : (r : Reach) (t : Direction) (d : ℕ) → AreSteps t → r.x.last ≤ t.x → direction_number t < d → d < direction_by r.x.first (t.y + 1) t.z
    → reaches r d ≡ false
unfolding reaches spans
none_in_row r t d s x more below = let sx = s.x in let sy = s.y in grind (arith, nat_tests)

pub none_in_layer : (r : Reach) (t : Direction) (d : ℕ) → AreSteps t → r.x.last ≤ t.x → r.y.last ≤ t.y → direction_number t < d
    → d < direction_by r.x.first r.y.first (t.z + 1) → reaches r d ≡ false
unfolding reaches spans
none_in_layer r t d s x y more below = let sx = s.x in let sy = s.y in grind (arith, nat_tests)

-- nor those after the last
pub none_after : (r : Reach) (t : Direction) (d : ℕ) → AreSteps t → r.x.last ≤ t.x → r.y.last ≤ t.y → r.z.last ≤ t.z → direction_number t < d
    → reaches r d ≡ false
unfolding reaches spans
none_after r t d s x y z more = let sx = s.x in let sy = s.y in grind (arith, nat_tests)
