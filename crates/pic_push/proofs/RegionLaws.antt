-- A piece in a region of its tile: which layers of its cell the tile's blocks have, and which
-- directions it reaches.
use Rattle.std.proofs.Common.{◌≡◌, ℕ, zero, suc, ◌+◌, ◌*◌, ◌/◌, ◌%◌, ◌<◌, ◌≤◌, ◌⊎◌, inl, inr, Bool, true, false, ◌&&◌, not, ◌||◌, ◌==◌, refl, subst, arith}
use Rattle.std.proofs.Math.IntN.{ℤ, pos, ◌+ℤ◌}
use Rattle.std.specs.Prelude.{◌≤ℤ◌, ◌<ℤ◌, ◌↔◌, IsTrue, nat_le}
use Rattle.std.proofs.lemmas.Bool.{false≢true, cases_lt}
use Rattle.std.proofs.lemmas.Bool.Decides.{nat_tests}
use Rattle.std.proofs.lemmas.Int.{ints, to_z-of_z}
use mir.Syntax.{w32}
use mir.Val.{SFits, to_z, of_z}
use Rattle.pic_num.specs.Space.{Triple, Spot}
use Rattle.pic_flux.specs.CellFlux.{AreLayers}
use Rattle.pic_block.specs.Among.{IsOneOf}
use Rattle.pic_flux.specs.Corners.{HasEdges}
use Rattle.pic_tile.specs.Directions.{directions, here}
use Rattle.pic_tile.specs.Layers.{layer_count, layer_low, layers_from, layers_size}
use Rattle.pic_push.specs.declared.reach.Steps.{Steps}
use Rattle.pic_push.specs.declared.reach.Reach.{Reach}
use Rattle.pic_push.specs.Reach.{spans, reaches, AreStepsOf, IsReachOf}
use Rattle.pic_push.specs.Region.{IsInner, IsLast, IsLevel, IsLastIf, IsLastOn, layers_at}

-- a test that holds says what holds, and one that fails what doesn't
is_yes : (low : ℤ) (n : ℕ) (c : ℤ) → IsOneOf low n c → IsTrue true ↔ IsOneOf low n c
is_yes low n c h = (λ yes. h, λ k. refl)

is_no : (low : ℤ) (n : ℕ) (c : ℤ) → (IsOneOf low n c → ⊥) → IsTrue false ↔ IsOneOf low n c
is_no low n c h = (λ yes. absurd (false≢true yes), λ k. absurd (h k))

-- On one axis, by the steps e of a direction and l of the farthest that a cell reaches.

-- a step is none, or up where the other one is
pub record IsUpTo (e l : ℕ) : Type 0 where
  pub least : 1 ≤ e
  pub most : e ≤ l
  pub end : l ≤ 2

no_step : (e l : ℕ) → IsUpTo e l → e < 1 → ⊥
no_step e l up h = let k = up.least in omega (arith, h, k)

no_way : (e l : ℕ) → IsUpTo e l → l < e → ⊥
no_way e l up h = let k = up.most in omega (arith, h, k)

no_end : (e l : ℕ) → IsUpTo e l → 2 < l → ⊥
no_end e l up h = let k = up.end in omega (arith, h, k)

no_more : (e l : ℕ) → IsUpTo e l → 2 < e → ⊥
no_more e l up h = let k = up.most in let m = up.end in omega (arith, h, k, m)

-- whether the direction's block has the cell's own layer
own_layer : (e l : ℕ) (low : ℤ) (n : ℕ) (c : ℤ) → IsUpTo e l → IsLastIf l low n c
    → IsTrue (not (e == 2)) ↔ IsOneOf (layer_low n low e) (layer_count n e) c
own_layer zero l low n c up h = absurd (no_step zero l up (omega arith))
own_layer (suc zero) zero low n c up h = absurd (no_way 1 zero up (omega arith))
own_layer (suc zero) (suc zero) low n c up h = is_yes low n c (h.least, let m = h.most in omega (arith, ints, m))
own_layer (suc zero) (suc (suc l)) low n c up h = is_yes low n c (h.least, h.below)
own_layer (suc (suc zero)) zero low n c up h = absurd (no_way 2 zero up (omega arith))
own_layer (suc (suc zero)) (suc zero) low n c up h = absurd (no_way 2 1 up (omega arith))
own_layer (suc (suc zero)) (suc (suc l)) low n c up h = is_no (low +ℤ pos n) 2 c (λ k. let m = h.below in let j = k.0 in omega (arith, ints, m, j))
own_layer (suc (suc (suc e))) l low n c up h = absurd (no_more (suc (suc (suc e))) l up (omega arith))

-- and the next one up
next_layer : (e l : ℕ) (low : ℤ) (n : ℕ) (c : ℤ) → IsUpTo e l → IsLastIf l low n c
    → IsTrue ((e == 2) || not (l == 2)) ↔ IsOneOf (layer_low n low e) (layer_count n e) (c +ℤ pos 1)
next_layer zero l low n c up h = absurd (no_step zero l up (omega arith))
next_layer (suc zero) zero low n c up h = absurd (no_way 1 zero up (omega arith))
next_layer (suc zero) (suc zero) low n c up h = is_yes low n (c +ℤ pos 1) (let m = h.least in omega (arith, ints, m), h.most)
next_layer (suc zero) (suc (suc zero)) low n c up h = is_no low n (c +ℤ pos 1) (λ k. let m = h.end in let j = k.1 in omega (arith, ints, m, j))
next_layer (suc zero) (suc (suc (suc l))) low n c up h = absurd (no_end 1 (suc (suc (suc l))) up (omega arith))
next_layer (suc (suc zero)) zero low n c up h = absurd (no_way 2 zero up (omega arith))
next_layer (suc (suc zero)) (suc zero) low n c up h = absurd (no_way 2 1 up (omega arith))
next_layer (suc (suc zero)) (suc (suc l)) low n c up h = let m = h.below in is_yes (low +ℤ pos n) 2 (c +ℤ pos 1) (h.end, omega (arith, ints, m))
next_layer (suc (suc (suc e))) l low n c up h = absurd (no_more (suc (suc (suc e))) l up (omega arith))

-- and the steps that a piece in the cell reaches
abbrev steps_to : ℕ → Steps
steps_to l = record { first = 1; last = l }

reached_to : (l : ℕ) (low : ℤ) (n : ℕ) (c : ℤ) → IsUpTo 1 l → IsLastIf l low n c → AreStepsOf low n c (steps_to l)
reached_to zero low n c up h = absurd (no_way 1 zero up (omega arith))
reached_to (suc zero) low n c up h = record {
  first = omega arith;
  last_low = up.most;
  last_high = up.end;
  under = λ is. h.least;
  over = λ is. h.most;
}
reached_to (suc (suc l)) low n c up h = record {
  first = omega arith;
  last_low = up.most;
  last_high = up.end;
  under = λ is. h.least;
  over = λ is. absurd (omega (arith, is));
}

-- On all three.

-- a direction steps up where another one does, or not at all
pub record AreUpTo (up last : ℕ) : Type 0 where
  pub x : IsUpTo (up % 3) (last % 3)
  pub y : IsUpTo (up / 3 % 3) (last / 3 % 3)
  pub z : IsUpTo (up / 9) (last / 9)

-- a test of steps that are known

abbrev pub is_up_to : ℕ → ℕ → Bool
is_up_to e l = nat_le 1 e && (nat_le e l && nat_le l 2)

step_up_to : (e l : ℕ) → is_up_to e l ≡ true → IsUpTo e l
step_up_to e l is = record {
  least = grind (arith, nat_tests);
  most = grind (arith, nat_tests);
  end = grind (arith, nat_tests);
}

pub up_to : (up last : ℕ) → is_up_to (up % 3) (last % 3) ≡ true → is_up_to (up / 3 % 3) (last / 3 % 3) ≡ true → is_up_to (up / 9) (last / 9) ≡ true
    → AreUpTo up last
up_to up last x y z = record {
  x = step_up_to (up % 3) (last % 3) x;
  y = step_up_to (up / 3 % 3) (last / 3 % 3) y;
  z = step_up_to (up / 9) (last / 9) z;
}

-- the layers that the block of such a direction has of the cell
pub layers_are : (up last : ℕ) (low : Spot) (n : Triple) (c : Spot) → AreUpTo up last → IsLastOn last low n c
    → AreLayers (layers_from n low up) (layers_size n up) c (layers_at last up)
layers_are up last low n c to h = record {
  at_x = own_layer (up % 3) (last % 3) low.x n.x c.x to.x h.x;
  at_y = own_layer (up / 3 % 3) (last / 3 % 3) low.y n.y c.y to.y h.y;
  at_z = own_layer (up / 9) (last / 9) low.z n.z c.z to.z h.z;
  over_x = next_layer (up % 3) (last % 3) low.x n.x c.x to.x h.x;
  over_y = next_layer (up / 3 % 3) (last / 3 % 3) low.y n.y c.y to.y h.y;
  over_z = next_layer (up / 9) (last / 9) low.z n.z c.z to.z h.z;
}

-- what a piece in the cell reaches: all such directions, and no others
abbrev pub reach_to : ℕ → Reach
reach_to last = record { x = steps_to (last % 3); y = steps_to (last / 3 % 3); z = steps_to (last / 9) }

pub reached : (last : ℕ) (low : Spot) (n : Triple) (c : Spot) → AreUpTo here last → IsLastOn last low n c → IsReachOf low n c (reach_to last)
reached last low n c to h = record {
  x = reached_to (last % 3) low.x n.x c.x to.x h.x;
  y = reached_to (last / 3 % 3) low.y n.y c.y to.y h.y;
  z = reached_to (last / 9) low.z n.z c.z to.z h.z;
}

pub inside_up : AreUpTo here here
inside_up = up_to here here refl refl refl

pub inside_alone : (d : ℕ) → d < directions → (d ≡ here → ⊥) → reaches (reach_to here) d ≡ false
unfolding reaches spans
inside_alone d few own = grind (arith, nat_tests)

-- a block has all edges of a cell inside
pub inside_edges : (low : Spot) (n : Triple) (c : Spot) → IsLastOn here low n c → HasEdges low n c
inside_edges low n c h = record {
  near = record {
    x_low = h.x.least;
    x_high = below low.x n.x c.x h.x;
    y_low = h.y.least;
    y_high = below low.y n.y c.y h.y;
    z_low = h.z.least;
    z_high = below low.z n.z c.z h.z;
  };
  far = record {
    x_low = above low.x n.x c.x h.x;
    x_high = h.x.most;
    y_low = above low.y n.y c.y h.y;
    y_high = h.y.most;
    z_low = above low.z n.z c.z h.z;
    z_high = h.z.most;
  };
}
  where
    below : (low : ℤ) (n : ℕ) (c : ℤ) → IsInner low n c → c <ℤ (low +ℤ pos n)
    below low n c h = let m = h.most in omega (arith, ints, m)

    above : (low : ℤ) (n : ℕ) (c : ℤ) → IsInner low n c → low ≤ℤ (c +ℤ pos 1)
    above low n c h = let m = h.least in omega (arith, ints, m)

-- Levels on the axes, and their number.

by_level : (l : ℕ) (low : ℤ) (n : ℕ) (c : ℤ) (level : ℕ) → IsUpTo 1 l → IsLevel low n c level → level + 1 ≡ l → IsLastIf l low n c
by_level zero low n c level up h is = absurd (omega (arith, is))
by_level (suc zero) low n c level up h is = h.inner (omega (arith, is))
by_level (suc (suc l)) low n c level up h is = let m = up.end in h.last (omega (arith, is, m))

pub by_number : (last : ℕ) (low : Spot) (n : Triple) (c : Spot) (x y z : ℕ) → AreUpTo here last → IsLevel low.x n.x c.x x → IsLevel low.y n.y c.y y
    → IsLevel low.z n.z c.z z → x + 3 * y + 9 * z + here ≡ last → IsLastOn last low n c
by_number last low n c x y z to at_x at_y at_z is =
    let mx = at_x.most in
    let my = at_y.most in
    let mz = at_z.most in
    let lx = to.x.least in
    let ux = to.x.most in
    let ex = to.x.end in
    let uy = to.y.most in
    let ey = to.y.end in
    let uz = to.z.most in
    let ez = to.z.end in
    record {
      x = by_level (last % 3) low.x n.x c.x x to.x at_x (omega (arith, mx, my, mz, ux, ex, uy, ey, uz, ez, is));
      y = by_level (last / 3 % 3) low.y n.y c.y y to.y at_y (omega (arith, mx, my, mz, ux, ex, uy, ey, uz, ez, is));
      z = by_level (last / 9) low.z n.z c.z z to.z at_z (omega (arith, mx, my, mz, ux, ex, uy, ey, uz, ez, is));
    }

-- the level by two tests of how far a cell lies above the lowest layer
pub level_by : (low : ℤ) (n : ℕ) (cell above count above' count' : ℤ) (a b : ℕ) → above +ℤ low ≡ cell → count ≡ pos n → above' ≡ above
    → count' +ℤ pos 1 ≡ count → a ≤ 1 → (a ≡ 0 → (pos 0 ≤ℤ above) × (above <ℤ count)) → (a ≡ 1 → (above <ℤ pos 0) ⊎ (count ≤ℤ above)) → b ≤ 1
    → (b ≡ 0 → (pos 0 ≤ℤ above') × (above' <ℤ count')) → (b ≡ 1 → (above' <ℤ pos 0) ⊎ (count' ≤ℤ above')) → IsLevel low n cell (a + b)
level_by low n cell above count above' count' a b at size same less a_most a_none a_one b_most b_none b_one = record {
  most = omega (arith, a_most, b_most);
  inner = λ is.
      let h = b_none (omega (arith, is)) in
      let h0 = h.0 in
      let h1 = h.1 in
      record { least = omega (arith, ints, h0, at, same); most = omega (arith, ints, h1, at, size, same, less) };
  last = λ is. elim (cases_lt 0 a) [
    | inl some ↦ absurd (both_not (omega (arith, is, some)) (omega (arith, some, a_most)))
    | inr none ↦ only_next (omega (arith, none)) (omega (arith, none, is))
  ];
}
  where
    both_not : b ≡ 0 → a ≡ 1 → ⊥
    both_not none one =
        let h0 = (b_none none).0 in
        let h1 = (b_none none).1 in
        elim (a_one one) [
          | inl under ↦ omega (arith, ints, h0, under, same)
          | inr over ↦ omega (arith, ints, h1, over, same, less)
        ]

    only_next : a ≡ 0 → b ≡ 1 → IsLast low n cell
    only_next none one =
        let h0 = (a_none none).0 in
        let h1 = (a_none none).1 in
        record {
          least = omega (arith, ints, h0, at);
          below = omega (arith, ints, h1, at, size);
          end = elim (b_one one) [
            | inl under ↦ absurd (omega (arith, ints, h0, under, same))
            | inr over ↦ omega (arith, ints, over, at, size, same, less)
          ];
        }

-- what is known of numbers as the code holds them
pub as_held : (P : ℤ → ℤ → Type 0) (low cell : ℤ) → SFits w32 low → SFits w32 cell → P (to_z w32 (of_z w32 low)) (to_z w32 (of_z w32 cell)) → P low cell
as_held P low cell l e h = subst (λ (a : ℤ). P a cell) (to_z-of_z w32 low l) (subst (P (to_z w32 (of_z w32 low))) (to_z-of_z w32 cell e) h)
