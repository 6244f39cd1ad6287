-- How large the flux is that has come to a tile, whichever directions are merged first.
use Rattle.std.proofs.Common.{◌≡◌, ℕ, zero, suc, ◌+◌, ◌*◌, ◌<◌, ◌≤◌, Bool, true, false, unsigned_abs, List, []}
use Rattle.std.proofs.Common.{◌∷◌, length, Option, Some, None, Result, Ok, Err, refl, sym, ap, subst, arith}
use Rattle.std.proofs.Math.IntN.{ℤ, pos}
use Rattle.std.proofs.Math.Nat.{mul-le-mul_right}
use Rattle.std.specs.Prelude.{◌≤ℤ◌, All}
use Rattle.std.proofs.lemmas.Int.{ints}
use Rattle.std.proofs.lemmas.List.Elements.{All-weaker}
use Rattle.pic_num.specs.declared.axis.Axis.{Axis}
use Rattle.pic_num.specs.declared.motion.Particle.{Particle}
use Rattle.pic_num.specs.Limits.{most_side, most_particles}
use Rattle.pic_num.specs.Push.{Shift, Halting}
use Rattle.pic_num.specs.Space.{Triple, Spot, triple, along, unwrapped}
use Rattle.pic_block.specs.Block.{outer_of}
use Rattle.pic_block.specs.Cells.{cell_of}
use Rattle.pic_block.proofs.CellLaws.{cell_of_within}
use Rattle.pic_grid.specs.Current.{wrapped}
use Rattle.pic_grid.specs.Hat.{HasTwo, IsInBox}
use Rattle.pic_grid.specs.Path.{path}
use Rattle.pic_grid.specs.PushPhase.{Surroundings, kind_of, push_of}
use Rattle.pic_grid.specs.Species.{IsKind}
use Rattle.pic_grid.specs.Sums.{sum_below, sum_over}
use Rattle.pic_grid.specs.Traces.{trace_of, traces}
use Rattle.pic_grid.proofs.SpeciesLaws.{kind_of_most}
use Rattle.pic_split.proofs.ImageLaws.{wrapped-zero}
use Rattle.pic_split.proofs.ImageSizeLaws.{path_images}
use Rattle.pic_split.proofs.LeadLaws.{move_along}
use Rattle.pic_split.proofs.WayLaws.{path_ways}
use Rattle.pic_tile.specs.Directions.{directions, steps_of}
use Rattle.pic_tile.specs.Layers.{layer_at, lowest_cell, sender_of, at_some, pick, given_at}
use Rattle.pic_tile.specs.Owners.{tile_of}
use Rattle.pic_tile.specs.Receiving.{brought, SumsKeepTheBound}
use Rattle.pic_tile.specs.Tiling.{Tiling, cells_of}
use Rattle.pic_tile.proofs.AllTilesLaws.{IsByItsTile, all_tiles}
use Rattle.pic_tile.proofs.OwnerLaws.{cell_within}
use Rattle.pic_tile.proofs.TilingLaws.{owner_below}
use Rattle.pic_tile.specs.Owners.{cell_of_point}
use Rattle.pic_push.specs.PartialSums.{SumsGrowByParticles}
use Rattle.pic_push.proofs.LayerSumLaws.{trace_stays}
use Rattle.pic_push.proofs.PushLaws.{push_move}
use Rattle.pic_push.proofs.TraceSizeLaws.{most_of_one, product_most}

-- The size of a sum is at most the sum of the sizes.

abbrev size_of : ℤ → ℤ
size_of v = pos (unsigned_abs v)

some_under : (o : Option ℤ) (f g : ℤ → ℤ) → ((j : ℤ) → size_of (f j) ≤ℤ g j) → size_of (at_some o f) ≤ℤ at_some o g
some_under None f g under = omega (arith, ints)
some_under (Some j) f g under = under j

three_under : (x y z : Option ℤ) (f g : Spot → ℤ) → ((c : Spot) → size_of (f c) ≤ℤ g c)
    → size_of (at_some z (λ k. at_some y (λ j. at_some x (λ i. f (record { x = i; y = j; z = k })))))
    ≤ℤ at_some z (λ k. at_some y (λ j. at_some x (λ i. g (record { x = i; y = j; z = k }))))
three_under x y z f g under =
    some_under z (λ k. at_some y (λ j. at_some x (λ i. f (record { x = i; y = j; z = k }))))
    (λ k. at_some y (λ j. at_some x (λ i. g (record { x = i; y = j; z = k }))))
    (λ k. some_under y (λ j. at_some x (λ i. f (record { x = i; y = j; z = k }))) (λ j. at_some x (λ i. g (record { x = i; y = j; z = k })))
    (λ j. some_under x (λ i. f (record { x = i; y = j; z = k })) (λ i. g (record { x = i; y = j; z = k })) (λ i. under (record { x = i; y = j; z = k }))))

given_under : (m : Tiling) (t d : ℕ) (f g : Spot → ℤ) (q : Triple) → ((c : Spot) → size_of (f c) ≤ℤ g c) → size_of (given_at m t d f q) ≤ℤ given_at m t d g q
unfolding given_at
given_under m t d f g q under =
    let low = lowest_cell m t in
    let e = steps_of d in
    three_under (layer_at m.size.x low.x e.x q.x) (layer_at m.size.y low.y e.y q.y) (layer_at m.size.z low.z e.z q.z) f g under

pick_under : (b : Bool) (v g : ℤ) → size_of v ≤ℤ g → size_of (pick b v) ≤ℤ g
pick_under true v g under = under
pick_under false v g under = omega (arith, ints, under)

sums_under : (n : ℕ) (f g : ℕ → ℤ) → ((d : ℕ) → size_of (f d) ≤ℤ g d) → size_of (sum_below n f) ≤ℤ sum_below n g
unfolding sum_below
sums_under zero f g under = omega (arith, ints)
sums_under (suc n) f g under =
    let rest = sums_under n f g under in
    let last = under n in
    omega (arith, ints, rest, last)

over_under : (f : Particle → ℤ) (xs : List Particle) → size_of (sum_over f xs) ≤ℤ sum_over (λ x. size_of (f x)) xs
unfolding sum_over
over_under f [] = omega (arith, ints)
over_under f (x ∷ xs) = let rest = over_under f xs in omega (arith, ints, rest)

over_most : (f : Particle → ℤ) (xs : List Particle) (most : ℕ) → ((x : Particle) → f x ≤ℤ pos most) → sum_over f xs ≤ℤ pos (length xs * most)
unfolding sum_over
over_most f [] most small = omega (arith, ints)
over_most f (x ∷ xs) most small =
    let rest = over_most f xs most small in
    let here = small x in
    let all : length (x ∷ xs) * most ≡ length xs * most + most = omega arith in
    omega (arith, ints, rest, here, all)

-- The flux of a particle at all images of an edge together.
trace_images : (w : Surroundings) (x : Particle) (r : Result Shift Halting) (a : Axis) (p : Triple) → push_of w x ≡ r → 0 < w.side
    → w.side ≤ most_side → All IsKind w.kinds → HasTwo w.cells
    → wrapped w.cells (λ c. size_of (trace_of w.side w.kinds x r a c)) p ≤ℤ pos most_of_one
unfolding trace_of
trace_images w x (Err h) a p is some side limits two = let none = wrapped-zero w.cells p in omega (arith, ints, none)
trace_images w x (Ok s) a p is some side limits two =
    let move = push_move w x s is in
    let from = unwrapped (triple x.x) in
    let q = (kind_of w.kinds x).charge in
    let all = path_images w.side w.cells q (path w.side from s.d) a p two in
    let far = ap (λ (k : ℕ). unsigned_abs q * k * (12 * (w.side * w.side))) (path_ways w.side from s.d a some move) in
    let charge = kind_of_most w.kinds x limits in
    let way = move_along w.side a s.d move in
    let most = product_most w.side (unsigned_abs q) (unsigned_abs (along a s.d)) side charge way in
    omega (arith, ints, all, far, most)

axis_two : (t n at : ℕ) → at < t → 2 ≤ n → 2 ≤ t * n
axis_two t n at below thick =
    let least : 1 * n ≤ t * n = mul-le-mul_right n (omega (arith, below)) in
    omega (arith, least, thick)

-- The laws.

pub sums_by_particles : SumsGrowByParticles
unfolding brought traces
sums_by_particles w m start particles done r a q h =
    let given = λ (d : ℕ). given_at m (sender_of m d r) d (λ c. sum_over (λ x. trace x c) (start (sender_of m d r))) q in
    let larger = λ (d : ℕ). given_at m (sender_of m d r) d (λ c. sum_over (λ x. size x c) (start (sender_of m d r))) q in
    let first = sums_under directions (λ d. pick (done d) (given d)) larger (λ d. pick_under (done d) (given d) (larger d)
    (given_under m (sender_of m d r) d (λ c. sum_over (λ x. trace x c) (start (sender_of m d r))) (λ c. sum_over (λ x. size x c) (start (sender_of m d r))) q
    (λ c. over_under (λ x. trace x c) (start (sender_of m d r))))) in
    let shares = all_tiles m (tile_of m) size start particles r q h.thick h.tile h.within h.shared
    (All-weaker (λ x. IsInBox m.side (cells_of m) (triple x.x)) (IsByItsTile m (tile_of m) size) each particles h.inside) in
    let all = over_most (λ x. wrapped (cells_of m) (size x) p) particles most_of_one one in
    record { size = omega (arith, ints, first, shares, all) }
  where
    trace : Particle → Spot → ℤ
    trace x c = trace_of w.side w.kinds x (push_of w x) a c

    size : Particle → Spot → ℤ
    size x c = size_of (trace x c)

    p : Triple
    p = outer_of (lowest_cell m r) q

    two : HasTwo w.cells
    two =
        let at = cell_of_within m.tiles r h.tile in
        subst HasTwo (sym h.cells) (record {
          x = axis_two m.tiles.x m.size.x (cell_of m.tiles r).x at.x h.thick.x;
          y = axis_two m.tiles.y m.size.y (cell_of m.tiles r).y at.y h.thick.y;
          z = axis_two m.tiles.z m.size.z (cell_of m.tiles r).z at.z h.thick.z;
        })

    one : (x : Particle) → wrapped (cells_of m) (size x) p ≤ℤ pos most_of_one
    one x = subst (λ (n : Triple). wrapped n (size x) p ≤ℤ pos most_of_one) h.cells
        (trace_images w x (push_of w x) a p refl (omega (arith, h.some, h.side)) (omega (arith, h.most, h.side)) h.kinds two)

    each : (x : Particle) → IsInBox m.side (cells_of m) (triple x.x) → IsByItsTile m (tile_of m) size x
    each x lies =
        let stays = trace_stays w m x a h.some h.side h.thick lies in
        record {
          below = owner_below m (cell_of_point m.side (triple x.x)) h.thick (cell_within m.side (cells_of m) (triple x.x) h.some lies);
          stays = record {
            x = λ c beyond. ap size_of (stays.x c beyond);
            y = λ c beyond. ap size_of (stays.y c beyond);
            z = λ c beyond. ap size_of (stays.z c beyond);
          };
        }

pub partial_sums : SumsKeepTheBound
partial_sums w m start particles done r a q h few =
    let sums = (sums_by_particles w m start particles done r a q h).size in
    let count : length particles * most_of_one ≤ most_particles * most_of_one = mul-le-mul_right most_of_one few in
    record { size = omega (arith, sums, count) }
