-- The law of the layers for all tiles: what the layers of all senders give to an edge adds up to the
-- images of that edge over all particles.
use Rattle.std.proofs.Common.{◌≡◌, ℕ, zero, suc, ◌<◌, Bool, true, false, cond, All, List, [], ◌∷◌, filter, Option, Some, None, refl, sym, ◌∙◌, ap, arith}
use Rattle.std.proofs.Math.IntN.{ℤ, pos, ◌+ℤ◌}
use Rattle.std.proofs.lemmas.Bool.{eqb-true}
use Rattle.std.proofs.lemmas.Bool.Decides.{nat_tests}
use Rattle.std.proofs.lemmas.Int.{ints}
use Rattle.std.proofs.lemmas.List.Elements.{All-head, All-tail, All-weaker}
use Rattle.std.specs.Prelude.{◌==◌, ◌/◌, ◌%◌}
use Rattle.pic_block.specs.Block.{outer_of}
use Rattle.pic_block.specs.Cells.{IsWithin, count_of, cell_of}
use Rattle.pic_block.proofs.CellLaws.{index_of_below, cell_of_within}
use Rattle.pic_grid.specs.Hat.{HasTwo}
use Rattle.pic_num.specs.declared.motion.Particle.{Particle}
use Rattle.pic_num.specs.Space.{Triple, Spot}
use Rattle.pic_grid.specs.Current.{wrapped}
use Rattle.pic_grid.specs.Sums.{sum_below, sum_over}
use Rattle.pic_grid.proofs.OverLaws.{sum_over_same, sum_over_plus}
use Rattle.pic_grid.proofs.SumLaws.{sum_same}
use Rattle.pic_tile.specs.Same.{Same}
use Rattle.pic_tile.specs.StandFor.{owned}
use Rattle.pic_tile.proofs.SumLaws.{sum_over_any_order}
use Rattle.pic_tile.specs.Directions.{directions, steps_of, opposite}
use Rattle.pic_tile.specs.Layers.{layer_at, at_some, pick, lowest_cell, sender_of, given_at, StaysByTile}
use Rattle.pic_tile.specs.Tiling.{neighbour_of, Tiling, cells_of, place_beside}
use Rattle.pic_tile.proofs.OneAxisLaws.{pick_same}
use Rattle.pic_tile.proofs.ThreeAxesLaws.{three_axes}
use Rattle.pic_tile.proofs.TilingLaws.{stepped_within}

-- Sums over lists.

pub over_none : {X : Type 0} (xs : List X) → sum_over (λ x. pos 0) xs ≡ pos 0
unfolding sum_over
over_none [] = refl
over_none (x ∷ xs) = let h = over_none xs in omega (arith, ints, h)

-- equal numbers at each element of the list
pub sum_over_agree : {X : Type 0} (f g : X → ℤ) (xs : List X) → All (λ x. f x ≡ g x) xs → sum_over f xs ≡ sum_over g xs
unfolding sum_over
sum_over_agree f g [] all = refl
sum_over_agree f g (x ∷ xs) all =
    λ i. All-head (λ y. f y ≡ g y) x xs all i +ℤ sum_over_agree f g xs (All-tail (λ y. f y ≡ g y) x xs all) i

-- over the elements that pass a test
filter_over : {X : Type 0} (f : X → ℤ) (p : X → Bool) (xs : List X) → sum_over f (filter p xs) ≡ sum_over (λ x. pick (p x) (f x)) xs
unfolding sum_over
filter_over f p [] = refl
filter_over {X} f p (x ∷ xs) = first (p x) ∙ ap (λ (v : ℤ). pick (p x) (f x) +ℤ v) (filter_over f p xs)
  where
    first : (b : Bool) → sum_over f (cond b (x ∷ filter p xs) (filter p xs)) ≡ pick b (f x) +ℤ sum_over f (filter p xs)
    first true = refl
    first false = omega (arith, ints)

-- the sum of sums over a list, turned round
below_over : {X : Type 0} (n : ℕ) (g : ℕ → X → ℤ) (xs : List X) → sum_below n (λ d. sum_over (g d) xs) ≡ sum_over (λ x. sum_below n (λ d. g d x)) xs
unfolding sum_below
below_over zero g xs = sym (over_none xs)
below_over (suc n) g xs =
    ap (λ (v : ℤ). v +ℤ sum_over (g n) xs) (below_over n g xs)
    ∙ sym (sum_over_plus (λ x. sum_below n (λ d. g d x)) (g n) xs)

-- What layers give of a sum.

some_over : {X : Type 0} (o : Option ℤ) (g : ℤ → X → ℤ) (xs : List X)
    → at_some o (λ j. sum_over (g j) xs) ≡ sum_over (λ x. at_some o (λ j. g j x)) xs
some_over None g xs = sym (over_none xs)
some_over (Some j) g xs = refl

pub given_over : {X : Type 0} (m : Tiling) (t d : ℕ) (f : X → Spot → ℤ) (q : Triple) (xs : List X)
    → given_at m t d (λ c. sum_over (λ x. f x c) xs) q ≡ sum_over (λ x. given_at m t d (f x) q) xs
unfolding given_at
given_over {X} m t d f q xs =
    (λ i. at_some on_z (λ z. at_some on_y (λ y. some_over on_x (λ x p. f p (record { x = x; y = y; z = z })) xs i)))
    ∙ (λ i. at_some on_z (λ z. some_over on_y (λ y p. at_some on_x (λ x. f p (record { x = x; y = y; z = z }))) xs i))
    ∙ some_over on_z (λ z p. at_some on_y (λ y. at_some on_x (λ x. f p (record { x = x; y = y; z = z })))) xs
  where
    low : Spot
    low = lowest_cell m t

    on_x : Option ℤ
    on_x = layer_at m.size.x low.x (d % 3) q.x

    on_y : Option ℤ
    on_y = layer_at m.size.y low.y (d / 3 % 3) q.y

    on_z : Option ℤ
    on_z = layer_at m.size.z low.z (d / 9) q.z

-- The senders.

test_turned : (a b : ℕ) → (a == b) ≡ (b == a)
test_turned a b = grind (arith, nat_tests)

pick_turned : (a s : ℕ) (g : ℕ → ℤ) → pick (a == s) (g s) ≡ pick (s == a) (g a)
pick_turned a s g =
    pick_same (a == s) (g s) (g a) (λ e. ap g (sym (eqb-true a s e))) ∙ ap (λ (b : Bool). pick b (g a)) (test_turned a s)

-- a neighbour is one of the tiles, and so is the sender
pub neighbour_below : (n : Triple) (t d : ℕ) → t < count_of n → neighbour_of n t d < count_of n
neighbour_below n t d among =
    let place = cell_of n t in
    index_of_below n (place_beside n (steps_of d) place) (stepped_within n (steps_of d) place (cell_of_within n t among))

pub sender_below : (m : Tiling) (d r : ℕ) → r < count_of m.tiles → sender_of m d r < count_of m.tiles
sender_below m d r among = neighbour_below m.tiles r (opposite d) among

-- a particle's flux is known for its tile
pub record IsByItsTile (m : Tiling) (own : Particle → ℕ) (f : Particle → Spot → ℤ) (x : Particle) : Type 0 where
  pub below : own x < count_of m.tiles
  pub stays : StaysByTile m (own x) (f x)

pub all_tiles : (m : Tiling) (own : Particle → ℕ) (f : Particle → Spot → ℤ) (start : ℕ → List Particle) (xs : List Particle) (r : ℕ) (q : Triple)
    → HasTwo m.size → r < count_of m.tiles → IsWithin q m.size
    → ((t : ℕ) → t < count_of m.tiles → Same (start t) (owned own t xs)) → All (IsByItsTile m own f) xs
    → sum_below directions (λ d. given_at m (sender_of m d r) d (λ c. sum_over (λ x. f x c) (start (sender_of m d r))) q)
    ≡ sum_over (λ x. wrapped (cells_of m) (f x) (outer_of (lowest_cell m r) q)) xs
unfolding owned
all_tiles m own f start xs r q thick among inner each by_tile =
    sum_same directions (λ d. given_at m (sender_of m d r) d (λ c. sum_over (λ x. f x c) (start (sender_of m d r))) q) (λ d. sum_over (part d) xs) parts
    ∙ below_over directions part xs
    ∙ sum_over_agree (λ x. sum_below directions (λ d. part d x)) (λ x. wrapped (cells_of m) (f x) (outer_of (lowest_cell m r) q)) xs
    (All-weaker (IsByItsTile m own f) (λ x. sum_below directions (λ d. part d x) ≡ wrapped (cells_of m) (f x) (outer_of (lowest_cell m r) q)) one xs by_tile)
  where
    part : ℕ → Particle → ℤ
    part d x = pick (sender_of m d r == own x) (given_at m (own x) d (f x) q)

    parts : (d : ℕ) → d < directions → given_at m (sender_of m d r) d (λ c. sum_over (λ x. f x c) (start (sender_of m d r))) q ≡ sum_over (part d) xs
    parts d below =
        let s = sender_of m d r in
        given_over m s d f q (start s)
        ∙ sum_over_any_order (λ x. given_at m s d (f x) q) (start s) (owned own s xs) (each s (sender_below m d r among))
        ∙ filter_over (λ x. given_at m s d (f x) q) (λ x. own x == s) xs
        ∙ sum_over_same (λ x. pick (own x == s) (given_at m s d (f x) q)) (part d) xs (λ x. pick_turned (own x) s (λ t. given_at m t d (f x) q))

    one : (x : Particle) → IsByItsTile m own f x → sum_below directions (λ d. part d x) ≡ wrapped (cells_of m) (f x) (outer_of (lowest_cell m r) q)
    one x h = three_axes m (own x) r q (f x) thick h.below among inner h.stays
