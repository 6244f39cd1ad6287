-- What a block of layers gives to a tile, where it is laid over the tile's own layers.
use Rattle.std.proofs.Common.{◌≡◌, ℕ, zero, suc, ◌+◌, ◌-◌, ◌<◌, ◌≤◌, Bool, true, false, cond, Some, None, refl, sym, ◌∙◌, ap, arith}
use Rattle.std.proofs.Math.IntN.{ℤ, pos, ◌+ℤ◌, ◌-ℤ◌}
use Rattle.std.proofs.lemmas.Bool.Decides.{nat_tests}
use Rattle.std.proofs.lemmas.Int.{ints}
use Rattle.std.specs.Prelude.{◌&&◌, nat_lt, ◌==◌}
use Rattle.pic_block.specs.Block.{BlockValues, inner_at}
use Rattle.pic_block.specs.BlockLayers.{is_from, is_over, lowered_by, box_of, layer_of}
use Rattle.pic_block.specs.Cells.{IsWithin}
use Rattle.pic_block.proofs.BlockLayerLaws.{over_tells, cell_in, in_zone, inner_edge}
use Rattle.pic_grid.specs.Hat.{HasTwo}
use Rattle.pic_num.specs.declared.axis.Axis.{Axis}
use Rattle.pic_num.specs.Space.{Triple, Spot}
use Rattle.pic_tile.specs.Directions.{steps_of}
use Rattle.pic_tile.specs.Layers.{layer_count, layer_low, layer_begin, layer_at, layers_size, layers_from}
use Rattle.pic_tile.specs.Layers.{layers_begin, lowest_cell, IsLayers, at_some, pick, given_at}
use Rattle.pic_tile.specs.Tiling.{Tiling}
use Rattle.pic_tile.proofs.OneAxisLaws.{pick_same}

some_same : (b c : Bool) (i j : ℤ) → b ≡ c → (b ≡ true → i ≡ j) → cond b (Some i) None ≡ cond c (Some j) None
some_same true c i j is same = (λ t. cond true (Some (same refl t)) None) ∙ ap (λ (e : Bool). cond e (Some j) None) is
some_same false c i j is same = ap (λ (e : Bool). cond e (Some j) None) is

-- on one axis: the layer q of the receiver is one of the sender's where it lies among those from the first
layer_is : (n : ℕ) (low : ℤ) (e q : ℕ) → 2 ≤ n → q < n
    → layer_at n low e q ≡ cond (is_from (layer_begin n e) (layer_count n e) q) (Some (layer_low n low e +ℤ pos (q - layer_begin n e))) None
layer_is n low zero q two below =
    let is : (q + 1 == n) ≡ is_from (n - 1) 1 q = grind (arith, nat_tests) in
    some_same (q + 1 == n) (is_from (n - 1) 1 q) (low -ℤ pos 1) (low -ℤ pos 1 +ℤ pos (q - (n - 1))) is
    (λ last. let end : q + 1 ≡ n = grind (arith, nat_tests) in omega (arith, ints, end))
layer_is n low (suc zero) q two below =
    let is : true ≡ is_from 0 n q = grind (arith, nat_tests) in
    some_same true (is_from 0 n q) (low +ℤ pos q) (low +ℤ pos (q - 0)) is (λ own. omega (arith, ints))
layer_is n low (suc (suc e)) q two below =
    let is : nat_lt q 2 ≡ is_from 0 2 q = grind (arith, nat_tests) in
    some_same (nat_lt q 2) (is_from 0 2 q) (low +ℤ pos n +ℤ pos q) (low +ℤ pos n +ℤ pos (q - 0)) is (λ high. omega (arith, ints))

-- the choices of three axes are one
three_some : (b c e : Bool) (x y z : ℤ) (g : Spot → ℤ)
    → at_some (cond e (Some z) None)
    (λ k. at_some (cond c (Some y) None) (λ j. at_some (cond b (Some x) None) (λ i. g (record { x = i; y = j; z = k }))))
    ≡ pick (b && (c && e)) (g (record { x = x; y = y; z = z }))
three_some true true true x y z g = refl
three_some true true false x y z g = refl
three_some true false true x y z g = refl
three_some true false false x y z g = refl
three_some false true true x y z g = refl
three_some false true false x y z g = refl
three_some false false true x y z g = refl
three_some false false false x y z g = refl

-- what is given, by where the layers are laid
given_is : (m : Tiling) (t d : ℕ) (g : Spot → ℤ) (q : Triple) → HasTwo m.size → IsWithin q m.size
    → given_at m t d g q
    ≡ (let low = layers_from m.size (lowest_cell m t) d in
    let p = lowered_by (layers_begin m.size d) q in
    pick (is_over (layers_begin m.size d) (layers_size m.size d) q) (g (record { x = low.x +ℤ pos p.x; y = low.y +ℤ pos p.y; z = low.z +ℤ pos p.z })))
unfolding given_at is_over
given_is m t d g q thick inner =
    let e = steps_of d in
    let low = lowest_cell m t in
    let begin = layers_begin m.size d in
    let size = layers_size m.size d in
    let from = layers_from m.size low d in
    (λ i. at_some (layer_is m.size.z low.z e.z q.z thick.z inner.z i)
    (λ z. at_some (layer_is m.size.y low.y e.y q.y thick.y inner.y i)
    (λ y. at_some (layer_is m.size.x low.x e.x q.x thick.x inner.x i) (λ x. g (record { x = x; y = y; z = z })))))
    ∙ three_some (is_from begin.x size.x q.x) (is_from begin.y size.y q.y) (is_from begin.z size.z q.z)
    (from.x +ℤ pos (q.x - begin.x)) (from.y +ℤ pos (q.y - begin.y)) (from.z +ℤ pos (q.z - begin.z)) g

-- a block of layers gives what its flux gives
pub layers_give : (m : Tiling) (t d : ℕ) (f : Axis → Spot → ℤ) (b : BlockValues) (a : Axis) (q : Triple) → HasTwo m.size → IsWithin q m.size
    → IsLayers m t d f b → layer_of b.size b.values (layers_begin m.size d) a q ≡ given_at m t d (f a) q
unfolding layer_of
layers_give m t d f b a q thick inner is =
    let begin = layers_begin m.size d in
    pick_same (is_over begin b.size q) (inner_at (box_of b.size b.values) a (lowered_by begin q)) (f a (cell_in b (lowered_by begin q)))
    (λ over.
    let h = over_tells begin b.size q over in
    let w : IsWithin (lowered_by begin q) b.size = record {
      x = omega (arith, h.above_x, h.below_x);
      y = omega (arith, h.above_y, h.below_y);
      z = omega (arith, h.above_z, h.below_z);
    } in
    inner_edge b a (lowered_by begin q) ∙ is.values a (cell_in b (lowered_by begin q)) (in_zone b (lowered_by begin q) w))
    ∙ (λ i. pick (is_over begin (is.size i) q) (f a (cell_in (record b { low = is.low i }) (lowered_by begin q))))
    ∙ sym (given_is m t d (f a) q thick inner)
