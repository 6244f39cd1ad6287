-- Which tile is complete after so many posts.
use Rattle.std.proofs.Common.{◌≡◌, ℕ, zero, suc, ◌+◌, ◌*◌, ◌<◌, ◌≤◌, Bool, true, false, ◌&&◌, nat_lt, refl, sym, ap, ◌∙◌, arith}
use Rattle.std.proofs.Math.Decide.{ℕ_discrete}
use Rattle.std.proofs.lemmas.Bool.{false≢true}
use Rattle.std.proofs.lemmas.Bool.Decides.{nat_tests}
use Rattle.pic_block.specs.Cells.{count_of}
use Rattle.pic_tile.specs.CoreState.{slot_of}
use Rattle.pic_tile.specs.Directions.{directions}
use Rattle.pic_tile.specs.Layers.{sender_of}
use Rattle.pic_tile.specs.Tiling.{Tiling, neighbour_of}
use Rattle.pic_tile.proofs.AllTilesLaws.{sender_below}
use Rattle.pic_tile.proofs.HeldLaws.{neighbour_forth}
use Rattle.pic_tile.proofs.TilingLaws.{neighbour_back}
use Rattle.pic_core.specs.InTurn.{turn_of, all_below, is_complete}
use Rattle.pic_core.proofs.SlotLaws.{slot_dir, slot_tile, slot_below}

-- tests of numbers
pub lt_true : (a b : ℕ) → a < b → nat_lt a b ≡ true
lt_true a b h = grind (arith, nat_tests)

pub lt_false : (a b : ℕ) → b ≤ a → nat_lt a b ≡ false
lt_false a b h = grind (arith, nat_tests)

pub lt_more : (a n : ℕ) → (a ≡ n → ⊥) → nat_lt a (n + 1) ≡ nat_lt a n
lt_more a n h = grind (arith, nat_tests)

-- all numbers below one
pub all_at : (n : ℕ) (f : ℕ → Bool) (k : ℕ) → all_below n f ≡ true → k < n → f k ≡ true
unfolding all_below
all_at zero f k all below = absurd (omega (arith, below))
all_at (suc n) f k all below = elim (ℕ_discrete k n) [
  | yes same ↦ ap f same ∙ second (all_below n f) (f n) all
  | no apart ↦ all_at n f k (first (all_below n f) (f n) all) (omega (arith, below, apart))
]
  where
    first : (a b : Bool) → (a && b) ≡ true → a ≡ true
    first true b h = refl
    first false b h = h

    second : (a b : Bool) → (a && b) ≡ true → b ≡ true
    second true b h = h
    second false b h = absurd (false≢true h)

pub all_same : (n : ℕ) (f g : ℕ → Bool) → ((k : ℕ) → k < n → f k ≡ g k) → all_below n f ≡ all_below n g
unfolding all_below
all_same zero f g same = refl
all_same (suc n) f g same = λ i. all_same n f g (λ k below. same k (omega (arith, below))) i && same n (omega arith) i

all_true : (n : ℕ) → all_below n (λ k. true) ≡ true
unfolding all_below
all_true zero = refl
all_true (suc n) = ap (λ b. b && true) (all_true n)

pub all_of : (n : ℕ) (f : ℕ → Bool) → ((k : ℕ) → k < n → f k ≡ true) → all_below n f ≡ true
all_of n f each = all_same n f (λ k. true) each ∙ all_true n

pub all_off : (n : ℕ) (f : ℕ → Bool) (k : ℕ) → k < n → f k ≡ false → all_below n f ≡ false
all_off n f k below off = at (all_below n f) refl
  where
    at : (b : Bool) → all_below n f ≡ b → all_below n f ≡ false
    at true is = absurd (false≢true (sym off ∙ all_at n f k is below))
    at false is = is

module _ (m : Tiling) where
  -- the turn of a post at its receiver
  pub turn_is : (t d : ℕ) → t < count_of m.tiles → d < directions → turn_of m (neighbour_of m.tiles t d) d ≡ slot_of t d
  turn_is t d below within = ap (λ (k : ℕ). slot_of k d) (neighbour_back m.tiles t d below within)

  -- another parcel has another turn
  pub turn_tile : (t d r e : ℕ) → r < count_of m.tiles → d < directions → e < directions → turn_of m r e ≡ slot_of t d → r ≡ neighbour_of m.tiles t d
  turn_tile t d r e below within inside same =
      let tile : sender_of m e r ≡ t = slot_tile (sender_of m e r) e t d inside within same in
      let dir : e ≡ d = slot_dir (sender_of m e r) e t d inside within same in
      sym (neighbour_forth m.tiles r e below inside) ∙ (λ i. neighbour_of m.tiles (tile i) (dir i))

  pub turn_dir : (t d r e : ℕ) → d < directions → e < directions → turn_of m r e ≡ slot_of t d → e ≡ d
  turn_dir t d r e within inside same = slot_dir (sender_of m e r) e t d inside within same

  -- at the start no tile is complete, at the end all are
  pub complete_none : (r : ℕ) → is_complete m 0 r ≡ false
  complete_none r = all_off directions (λ d. nat_lt (turn_of m r d) 0) 0 (omega arith) (lt_false (turn_of m r 0) 0 (omega arith))

  pub complete_all : (r : ℕ) → r < count_of m.tiles → is_complete m (count_of m.tiles * directions) r ≡ true
  complete_all r below =
      all_of directions (λ d. nat_lt (turn_of m r d) (count_of m.tiles * directions))
      (λ d inside. lt_true (turn_of m r d) (count_of m.tiles * directions)
      (slot_below (sender_of m d r) d (count_of m.tiles) (sender_below m d r below) inside))

  -- a post changes that of its receiver alone, which wasn't complete before
  pub complete_other : (t d r : ℕ) → r < count_of m.tiles → d < directions → (r ≡ neighbour_of m.tiles t d → ⊥)
      → is_complete m (slot_of t d + 1) r ≡ is_complete m (slot_of t d) r
  complete_other t d r below within apart =
      all_same directions (λ e. nat_lt (turn_of m r e) (slot_of t d + 1)) (λ e. nat_lt (turn_of m r e) (slot_of t d))
      (λ e inside. lt_more (turn_of m r e) (slot_of t d) (λ same. apart (turn_tile t d r e below within inside same)))

  pub complete_before : (t d : ℕ) → t < count_of m.tiles → d < directions → is_complete m (slot_of t d) (neighbour_of m.tiles t d) ≡ false
  complete_before t d below within =
      let to = neighbour_of m.tiles t d in
      let last : slot_of t d ≤ turn_of m to d = (let e = turn_is t d below within in omega (arith, e)) in
      all_off directions (λ e. nat_lt (turn_of m to e) (slot_of t d)) d within (lt_false (turn_of m to d) (slot_of t d) last)
