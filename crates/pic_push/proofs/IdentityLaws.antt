-- What particles weigh together, by any weight: a push keeps which identities there are.
use Rattle.std.proofs.Common.{◌≡◌, ℕ, ◌<◌, Bool, cond, nat_eq, List, [], ◌∷◌, length, get_or, map, filter, flat_map, sum_by, IsPermutation, Option, refl, sym}
use Rattle.std.proofs.Common.{ap, ◌∙◌, subst, arith, eq-eqb, ne_eqb}
use Rattle.std.specs.List.{range_with_len}
use Rattle.std.proofs.lemmas.List.{length-map}
use Rattle.std.proofs.lemmas.List.FromFn.{length-range_with_len}
use Rattle.std.proofs.lemmas.List.Sums.{sum_by-append, sum_by-cons}
use Rattle.pic_num.specs.declared.motion.Particle.{Particle}
use Rattle.pic_grid.specs.PushPhase.{Surroundings, push_of}
use Rattle.pic_tile.specs.InOrder.{IsCensus}
use Rattle.pic_tile.specs.Same.{Same}
use Rattle.pic_tile.specs.Totals.{total_below}
use Rattle.pic_tile.proofs.InOrderLaws.{census_rearranged}
use Rattle.pic_tile.proofs.SameLaws.{sum_by-map, sum_by-filter, sum_by_agree, same_length}
use Rattle.pic_tile.proofs.SumLaws.{total_same, one_total, total-sum_by, sum_by-flat_map}
use Rattle.pic_tile.specs.declared.parcel.Parcel.{Parcel}
use Rattle.pic_tile.specs.CoreState.{held_in}
use Rattle.pic_tile.specs.Directions.{directions, here}
use Rattle.pic_tile.specs.Leaving.{way, after_its_push, going}
use Rattle.pic_tile.specs.Pushed.{IsPushed}
use Rattle.pic_tile.specs.Tile.{TileValue, chain_of, chain_at}
use Rattle.pic_tile.specs.Tiling.{Tiling}
use Rattle.pic_tile.proofs.LeavingLaws.{way_below}
use Rattle.pic_push.proofs.PushLaws.{id_kept}

length-map_id : (xs : List Particle) (n : ℕ) → Same (map (λ x. x.id) xs) (range_with_len 0 n) → length xs ≡ n
length-map_id xs n s =
    let ids = same_length (map (λ x. x.id) xs) (range_with_len 0 n) s in
    sym (length-map xs (λ (x : Particle). x.id)) ∙ ids ∙ length-range_with_len 0 n

-- identities that are those of a census
pub census_of : (xs : List Particle) (n : ℕ) → Same (map (λ x. x.id) xs) (range_with_len 0 n) → IsPermutation (range_with_len 0 n) (map (λ x. x.id) xs)
census_of xs n s =
    let long = length-map_id xs n s in
    let census : IsCensus xs = record { identities = subst (λ (k : ℕ). Same (map (λ x. x.id) xs) (range_with_len 0 k)) (sym long) s } in
    subst (λ (k : ℕ). IsPermutation (range_with_len 0 k) (map (λ x. x.id) xs)) long ((census_rearranged xs).0 census)

pub sum_by-flat : {X : Type 0} (v : Particle → ℕ) (f : X → List Particle) (xs : List X) → sum_by v (flat_map f xs) ≡ sum_by (λ x. sum_by v (f x)) xs
sum_by-flat v f [] = refl
sum_by-flat v f (x ∷ xs) =
    let both = sum_by-append v (f x) (flat_map f xs) in
    let rest = sum_by-flat v f xs in
    let all = sum_by-cons (λ y. sum_by v (f y)) x xs in
    omega (arith, both, rest, all)

-- the weight of a tile
abbrev pub tile_weight : (Particle → ℕ) → TileValue → ℕ
tile_weight v t = sum_by v (held_in t)

pub tile_weight_is : (v : Particle → ℕ) (t : TileValue) → tile_weight v t ≡ total_below directions (λ d. sum_by v (chain_at t d))
tile_weight_is v t = sum_by-flat_map v (λ d. chain_at t d) directions

-- a tile with particles in the direction of no step alone
pub ready_weight : (v : Particle → ℕ) (t : TileValue) → ((d : ℕ) → d < directions → (d ≡ here → ⊥) → chain_at t d ≡ [])
    → tile_weight v t ≡ sum_by v (chain_at t here)
ready_weight v t empty =
    tile_weight_is v t
    ∙ one_total directions here (λ d. sum_by v (chain_at t d)) (omega arith) (λ d below apart. ap (sum_by v) (empty d below apart))

-- what a tile's particles weigh when they have gone in all directions
pub going_weight : (w : Surroundings) (m : Tiling) (v : Particle → ℕ) (xs : List Particle)
    → total_below directions (λ d. sum_by v (going w m d xs)) ≡ sum_by (λ x. v (after_its_push w x)) xs
unfolding going
going_weight w m v xs =
    let part : ℕ → Particle → ℕ = λ d x. cond (nat_eq (way w m x) d) (v (after_its_push w x)) 0 in
    total_same directions (λ d. sum_by v (map (after_its_push w) (filter (λ x. nat_eq (way w m x) d) xs))) (λ d. sum_by (part d) xs)
    (λ d below. sum_by-map v (after_its_push w) (filter (λ x. nat_eq (way w m x) d) xs) ∙ sum_by-filter (λ x. v (after_its_push w x)) (λ x. nat_eq
    (way w m x) d) xs)
    ∙ total-sum_by directions part xs
    ∙ sum_by_agree (λ x. total_below directions (λ d. part d x)) (λ x. v (after_its_push w x)) xs (λ k d below. one (get_or xs k d))
  where
    one : (x : Particle) → total_below directions (λ d. cond (nat_eq (way w m x) d) (v (after_its_push w x)) 0) ≡ v (after_its_push w x)
    one x =
        one_total directions (way w m x) (λ d. cond (nat_eq (way w m x) d) (v (after_its_push w x)) 0) (way_below w m x)
        (λ d below apart. ap (λ (b : Bool). cond b (v (after_its_push w x)) 0) (ne_eqb (way w m x) d (λ e. apart (sym e))))
        ∙ ap (λ (b : Bool). cond b (v (after_its_push w x)) 0) (eq-eqb (way w m x) (way w m x) refl)

pub same_id : (w : Surroundings) (x : Particle) → (after_its_push w x).id ≡ x.id
unfolding after_its_push
same_id w x = id_kept w.side w.cells x (push_of w x)

-- a claim: the identities of a tile stay in it
pub pushed_weight : (w : Surroundings) (m : Tiling) (v : ℕ → ℕ) (xs : List Particle) (u : TileValue) → IsPushed w m xs u
    → tile_weight (λ x. v x.id) u ≡ sum_by (λ x. v x.id) xs
pushed_weight w m v xs u pushed =
    let by : Particle → ℕ = λ x. v x.id in
    tile_weight_is by u
    ∙ total_same directions (λ d. sum_by by (chain_at u d)) (λ d. sum_by by (going w m d xs))
    (λ d below. ap (λ (found : Option Parcel). sum_by by (chain_of found)) (pushed.sent d below).there ∙ (pushed.sent d below).is.chain.sums by)
    ∙ going_weight w m by xs
    ∙ sum_by_agree (λ x. v (after_its_push w x).id) by xs (λ k d below. ap v (same_id w (get_or xs k d)))
