-- Laws of `Adds`: one deposition after the other, sums over lists, how large the values grow, and the
-- room that they need.
use Rattle.std.proofs.Common.{◌≡◌, ℕ, ◌+◌, ◌<◌, ◌≤◌, unsigned_abs, List, length, get_or, take, refl, ap, sym, ◌∙◌, arith}
use Rattle.std.proofs.Math.IntN.{ℤ, pos, ◌+ℤ◌}
use Rattle.std.proofs.lemmas.Int.{ints}
use Rattle.pic_num.specs.declared.axis.Axis.{Axis}
use Rattle.pic_num.specs.Space.{Spot}
use Rattle.pic_num.proofs.ProductLaws.{plus_none}
use Rattle.pic_block.specs.Block.{BlockValues, IsShaped, AllAtMost, edge_at}
use Rattle.pic_block.proofs.BlockLaws.{in_zone_shaped}
use Rattle.pic_block.proofs.ShapeLaws.{shaped_back}
use Rattle.pic_grid.specs.Sums.{sum_over}
use Rattle.pic_grid.proofs.OverLaws.{sum_over_more}
use Rattle.pic_flux.specs.Adds.{Adds, SumsBelow, flux_limit}
use Rattle.pic_flux.specs.Corners.{both}

-- a block that stays has had nothing added
pub adds_none : (b : BlockValues) (f : Axis → Spot → ℤ) → ((a : Axis) (c : Spot) → f a c ≡ pos 0) → Adds b b f
adds_none b f none = record { at = λ a c z. plus_none (edge_at b a c) (f a c) (none a c) }

plus_twice : (x y w f g : ℤ) → y ≡ x +ℤ f → w ≡ y +ℤ g → w ≡ x +ℤ (f +ℤ g)
plus_twice x y w f g e k = omega (arith, ints)

-- one deposition after the other adds the sum of both
pub adds_twice : (old mid now : BlockValues) (f g : Axis → Spot → ℤ) → IsShaped old mid → Adds old mid f → Adds mid now g → Adds old now (both f g)
unfolding both
adds_twice old mid now f g s h k = record {
  at = λ a c z.
      plus_twice (edge_at old a c) (edge_at mid a c) (edge_at now a c) (f a c) (g a c) (h.at a c z)
      (k.at a c (in_zone_shaped old mid c s z));
}

-- an equal addend serves as well
pub adds_same : (old now : BlockValues) (f g : Axis → Spot → ℤ) → ((a : Axis) (c : Spot) → f a c ≡ g a c) → Adds old now f → Adds old now g
adds_same old now f g same h = record { at = λ a c z. h.at a c z ∙ ap (λ (t : ℤ). edge_at old a c +ℤ t) (same a c) }

-- A loop that deposits for one element of a list after the other adds the sum over the elements so
-- far: the start, and one element more.

pub adds_start : {A : Type 0} (b : BlockValues) (f : A → Axis → Spot → ℤ) (xs : List A) → Adds b b (λ a c. sum_over (λ x. f x a c) (take 0 xs))
unfolding sum_over
adds_start b f xs = adds_none b (λ a c. sum_over (λ x. f x a c) (take 0 xs)) (λ a c. refl)

pub adds_more : {A : Type 0} (old mid now : BlockValues) (f : A → Axis → Spot → ℤ) (xs : List A) (i : ℕ) (d : A) → i < length xs
    → IsShaped old mid
    → Adds old mid (λ a c. sum_over (λ x. f x a c) (take i xs))
    → Adds mid now (f (get_or xs i d))
    → Adds old now (λ a c. sum_over (λ x. f x a c) (take (i + 1) xs))
unfolding both
adds_more old mid now f xs i d below s h k =
    adds_same old now (both (λ a c. sum_over (λ x. f x a c) (take i xs)) (f (get_or xs i d)))
    (λ a c. sum_over (λ x. f x a c) (take (i + 1) xs))
    (λ a c. sym (sum_over_more (λ x. f x a c) xs i d below))
    (adds_twice old mid now (λ a c. sum_over (λ x. f x a c) (take i xs)) (f (get_or xs i d)) s h k)

grown : (x y f : ℤ) (n m : ℕ) → y ≡ x +ℤ f → unsigned_abs x ≤ n → unsigned_abs f ≤ m → unsigned_abs y ≤ n + m
grown x y f n m e h k = omega (arith, ints)

-- where at most m is added at every edge, the values grow by at most m
pub adds_grow : (old now : BlockValues) (f : Axis → Spot → ℤ) (n m : ℕ) → IsShaped old now → Adds old now f
    → ((a : Axis) (c : Spot) → unsigned_abs (f a c) ≤ m) → AllAtMost n old → AllAtMost (n + m) now
adds_grow old now f n m s h small room = record {
  at_most = λ a c z.
      let back = in_zone_shaped now old c (shaped_back old now s) z in
      record { size = grown (edge_at old a c) (edge_at now a c) (f a c) n m (h.at a c back) ((room.at_most a c back).size) (small a c) };
}

-- where every sum stays below the limit, and at most m is added, no value is larger than both
before : (x f : ℤ) (n m : ℕ) → unsigned_abs (x +ℤ f) < n → unsigned_abs f ≤ m → unsigned_abs x ≤ n + m
before x f n m h k = omega (arith, ints)

pub room_before : (old : BlockValues) (f : Axis → Spot → ℤ) (m : ℕ) → ((a : Axis) (c : Spot) → unsigned_abs (f a c) ≤ m) → SumsBelow old f
    → AllAtMost (flux_limit + m) old
room_before old f m small room = record {
  at_most = λ a c z. record { size = before (edge_at old a c) (f a c) flux_limit m (room.at a c z) (small a c) };
}

next_below : (x y f s t : ℤ) (n : ℕ) → y ≡ x +ℤ s → t ≡ s +ℤ f → unsigned_abs (x +ℤ t) < n → unsigned_abs (y +ℤ f) < n
next_below x y f s t n e k h = omega (arith, ints)

-- a loop that deposits for one element of a list after the other: the room for the next
pub room_next : {A : Type 0} (old mid : BlockValues) (f : A → Axis → Spot → ℤ) (xs : List A) (i : ℕ) (d : A) → i < length xs
    → IsShaped old mid
    → Adds old mid (λ a c. sum_over (λ x. f x a c) (take i xs))
    → SumsBelow old (λ a c. sum_over (λ x. f x a c) (take (i + 1) xs))
    → SumsBelow mid (f (get_or xs i d))
room_next {A = A} old mid f xs i d below s h room = record {
  at = λ a c z.
      let back = in_zone_shaped mid old c (shaped_back old mid s) z in
      let g : A → ℤ = λ x. f x a c in
      next_below (edge_at old a c) (edge_at mid a c) (f (get_or xs i d) a c) (sum_over g (take i xs)) (sum_over g (take (i + 1) xs)) flux_limit
      (h.at a c back) (sum_over_more g xs i d below) (room.at a c back);
}
