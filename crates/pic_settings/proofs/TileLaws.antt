-- Tiles that fit a grid are those that it can be cut into, and steps that fit are within their limits.
use Rattle.std.proofs.Common.{◌≡◌, ℕ, pos, ◌≤◌, List, Ok, ◌∙◌, arith}
use Rattle.std.proofs.Math.Nat.{one-le-mul}
use Rattle.std.proofs.lemmas.Int.{ints}
use Rattle.pic_num.specs.Limits.{most_steps}
use Rattle.pic_num.specs.Space.{Triple, triple}
use Rattle.pic_block.specs.Cells.{IsCells, IsSize, count_of}
use Rattle.pic_grid.specs.Tiles.{IsTiled, AreTiles, most_tiles}
use Rattle.pic_walk.proofs.LimitLaws.{met, meets}
use Rattle.pic_walk.proofs.WalkLaws.{then_ok, went}
use Rattle.pic_settings.specs.Keys.{steps_fit}
use Rattle.pic_settings.specs.Tiles.{tiles_of_axis, few_tiles, axis_fits, tiles_path, tiles_fit}

-- the tiles of an axis, exactly where it is cut so
pub axis_tiled : (n : ℕ) (path : List ℕ) (t u : ℕ) → tiles_of_axis n path (pos t) ≡ Ok u → IsTiled n t
unfolding tiles_of_axis
axis_tiled n path t u e =
    let range = went _ _ _ e in
    let inside = meets _ _ _ _ range.first in
    let left = meets _ _ _ _ (went _ _ _ range.then).first in
    record { low = omega (arith, ints, inside.low); high = omega (arith, ints, inside.high); divides = omega (arith, ints, left.high) }

pub tiled_axis : (n : ℕ) (path : List ℕ) (t : ℕ) → IsTiled n t → tiles_of_axis n path (pos t) ≡ Ok t
unfolding tiles_of_axis
tiled_axis n path t is =
    then_ok _ _ _ (met _ path (pos t) (record { low = omega (arith, ints, is.low); high = omega (arith, ints, is.high) }))
    ∙ then_ok _ _ _ (met _ path _ (record { low = omega (arith, ints, is.divides); high = omega (arith, ints, is.divides) }))

-- all tiles together, where each axis has one at least
pub few_in_all : (path ts us : List ℕ) → few_tiles path ts ≡ Ok us → count_of (triple ts) ≤ most_tiles
unfolding few_tiles
few_in_all path ts us e =
    let inside = meets _ _ _ _ (went _ _ _ e).first in
    omega (arith, ints, inside.high)

pub in_all_few : (path ts : List ℕ) → 1 ≤ count_of (triple ts) → count_of (triple ts) ≤ most_tiles → few_tiles path ts ≡ Ok ts
unfolding few_tiles
in_all_few path ts some few =
    then_ok _ _ _ (met _ path _ (record { low = omega (arith, ints, some); high = omega (arith, ints, few) }))

-- an axis has no more tiles than cells
pub tiled_size : (n t : Triple) → IsCells n → IsTiled n.x t.x → IsTiled n.y t.y → IsTiled n.z t.z → IsSize t
tiled_size n t cells x y z = record {
  x_least = x.low;
  x_most = omega (arith, x.high, cells.x_most);
  y_least = y.low;
  y_most = omega (arith, y.high, cells.y_most);
  z_least = z.low;
  z_most = omega (arith, z.high, cells.z_most);
}

-- a grid that is cut into tiles has one at least
pub some_tiles : (n t : Triple) → IsTiled n.x t.x → IsTiled n.y t.y → IsTiled n.z t.z → 1 ≤ count_of t
some_tiles n t x y z = one-le-mul (one-le-mul x.low y.low) z.low

-- tiles fit a grid exactly where it can be cut into them
pub fit_tiles : (n : Triple) (ts : List ℕ) → tiles_fit n ts ≡ Ok tt → AreTiles n (triple ts)
unfolding tiles_fit axis_fits
fit_tiles n ts e =
    let x = went _ _ _ e in
    let y = went _ _ _ x.then in
    let z = went _ _ _ y.then in
    record {
      x = axis_tiled n.x _ _ _ x.first;
      y = axis_tiled n.y _ _ _ y.first;
      z = axis_tiled n.z _ _ _ z.first;
      most = few_in_all _ _ _ (went _ _ _ z.then).first;
    }

pub tiles_that_fit : (n : Triple) (ts : List ℕ) → AreTiles n (triple ts) → tiles_fit n ts ≡ Ok tt
unfolding tiles_fit axis_fits
tiles_that_fit n ts are =
    then_ok _ _ _ (tiled_axis n.x _ _ are.x)
    ∙ then_ok _ _ _ (tiled_axis n.y _ _ are.y)
    ∙ then_ok _ _ _ (tiled_axis n.z _ _ are.z)
    ∙ then_ok _ _ _ (in_all_few tiles_path ts (some_tiles n (triple ts) are.x are.y are.z) are.most)

-- steps fit exactly where they are within their limits
pub fit_steps : (least steps : ℕ) → steps_fit least steps ≡ Ok tt → (least ≤ steps) × (steps ≤ most_steps)
unfolding steps_fit
fit_steps least steps e =
    let inside = meets _ _ _ _ (went _ _ _ e).first in
    (omega (arith, ints, inside.low), omega (arith, ints, inside.high))

pub steps_that_fit : (least steps : ℕ) → least ≤ steps → steps ≤ most_steps → steps_fit least steps ≡ Ok tt
unfolding steps_fit
steps_that_fit least steps low high = then_ok _ _ _ (met _ _ _ (record { low = omega (arith, ints, low); high = omega (arith, ints, high) }))
