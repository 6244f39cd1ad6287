-- Steps and directions from a tile, and which of them a piece of a path reaches.
use Rattle.std.proofs.Common.{◌≡◌, ℕ, ◌+◌, ◌<◌, ◌≤◌, Bool, true, false, cond, refl, sym, ◌∙◌, subst, arith}
use Rattle.std.proofs.Math.IntN.{ℤ, pos, negsuc, ◌+ℤ◌}
use Rattle.std.specs.Prelude.{◌≤ℤ◌, ◌<ℤ◌, unsigned_abs, nat_lt}
use Rattle.std.proofs.lemmas.Bool.Decides.{nat_tests}
use Rattle.std.proofs.lemmas.Int.{ints}
use Rattle.pic_num.specs.Space.{Triple, Spot}
use Rattle.pic_block.specs.Block.{InZone}
use Rattle.pic_tile.specs.Directions.{here}
use Rattle.pic_tile.specs.Tiling.{Tiling}
use Rattle.pic_tile.specs.Layers.{lowest_cell}
use Rattle.pic_tile.specs.Leaving.{step_to, direction_by, direction_to}
use Rattle.pic_push.specs.declared.reach.Steps.{Steps}
use Rattle.pic_push.specs.Reach.{AreStepsOf, direction_from}

when_true : {A : Type 0} (b : Bool) (x y : A) → b ≡ true → cond b x y ≡ x
when_true true x y h = refl
when_true false x y h = cc

when_false : {A : Type 0} (b : Bool) (x y : A) → b ≡ false → cond b x y ≡ y
when_false true x y h = cc
when_false false x y h = refl

-- the step to a cell below a tile
pub step_under : (low : ℤ) (n : ℕ) (cell : ℤ) → pos 0 ≤ℤ low → cell <ℤ low → 0 ≡ step_to (unsigned_abs low) n cell
unfolding step_to
step_under low n (pos c) h below =
    let less : c < unsigned_abs low = omega (arith, ints, h, below) in
    let test : nat_lt c (unsigned_abs low) ≡ true = grind (arith, nat_tests) in
    sym (when_true (nat_lt c (unsigned_abs low)) 0 _ test)
step_under low n (negsuc c) h below = refl

-- to one of its own
pub step_among : (low : ℤ) (n : ℕ) (cell : ℤ) → pos 0 ≤ℤ low → low ≤ℤ cell → cell <ℤ (low +ℤ pos n) → 1 ≡ step_to (unsigned_abs low) n cell
unfolding step_to
step_among low n (pos c) h least below =
    let more : unsigned_abs low ≤ c = omega (arith, ints, h, least) in
    let less : c < unsigned_abs low + n = omega (arith, ints, h, below) in
    let first : nat_lt c (unsigned_abs low) ≡ false = grind (arith, nat_tests) in
    let test : nat_lt c (unsigned_abs low + n) ≡ true = grind (arith, nat_tests) in
    sym (when_false (nat_lt c (unsigned_abs low)) 0 _ first ∙ when_true (nat_lt c (unsigned_abs low + n)) 1 2 test)
step_among low n (negsuc c) h least below = absurd (omega (arith, ints, h, least))

-- to one above it
pub step_over : (low : ℤ) (n : ℕ) (cell : ℤ) → pos 0 ≤ℤ low → (low +ℤ pos n) ≤ℤ cell → 2 ≡ step_to (unsigned_abs low) n cell
unfolding step_to
step_over low n (pos c) h least =
    let more : unsigned_abs low + n ≤ c = omega (arith, ints, h, least) in
    let first : nat_lt c (unsigned_abs low) ≡ false = grind (arith, nat_tests) in
    let test : nat_lt c (unsigned_abs low + n) ≡ false = grind (arith, nat_tests) in
    sym (when_false (nat_lt c (unsigned_abs low)) 0 _ first ∙ when_false (nat_lt c (unsigned_abs low + n)) 1 2 test)
step_over low n (negsuc c) h least = absurd (omega (arith, ints, h, least))

-- the direction from the layers of a tile is that from the tile
pub direction_is : (m : Tiling) (tile : ℕ) (low : Spot) (size : Triple) (cell : Spot) → low ≡ lowest_cell m tile → size ≡ m.size
    → direction_from low size cell ≡ direction_to m tile cell
unfolding direction_to
direction_is m tile low size cell at thick = λ i. direction_from (at i) (thick i) cell

-- and to one of its own cells that of no step
pub here_is : (m : Tiling) (tile : ℕ) (low : Spot) (size : Triple) (cell : Spot) → low ≡ lowest_cell m tile → InZone low size cell
    → here ≡ direction_from low size cell
here_is m tile low size cell at = subst (λ (l : Spot). InZone l size cell → here ≡ direction_from l size cell) (sym at) among
  where
    among : InZone (lowest_cell m tile) size cell → here ≡ direction_from (lowest_cell m tile) size cell
    among inside =
        let low = lowest_cell m tile in
        let x = step_among low.x size.x cell.x (omega (arith, ints)) inside.x_low inside.x_high in
        let y = step_among low.y size.y cell.y (omega (arith, ints)) inside.y_low inside.y_high in
        let z = step_among low.z size.z cell.z (omega (arith, ints)) inside.z_low inside.z_high in
        λ i. direction_by (x i) (y i) (z i)

-- steps of numbers as the code holds them
pub steps_are : (low cell low' cell' : ℤ) (n : ℕ) (s : Steps) → low' ≡ low → cell' ≡ cell → AreStepsOf low' n cell' s → AreStepsOf low n cell s
steps_are low cell low' cell' n s l e h = subst (λ (a : ℤ). AreStepsOf a n cell s) l (subst (λ (a : ℤ). AreStepsOf low' n a s) e h)
