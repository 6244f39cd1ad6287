-- The next element of an array that is walked, and the numbers of a cell within their limits.
use Rattle.std.proofs.Common.{◌≡◌, ℕ, zero, suc, pos, ◌+◌, ◌<◌, ◌≤◌, List, [], ◌∷◌, ◌++◌, length, get_or, slice_index, drop, lit<, arith}
use Rattle.std.proofs.lemmas.Int.{ints}
use Rattle.toml.specs.Data.{Data}
use Rattle.toml.specs.View.{view, items_view}
use Rattle.toml.specs.declared.value.Value.{Value}
use Rattle.pic_num.specs.Space.{Triple, triple}
use Rattle.pic_block.specs.Cells.{IsCells, IsWithin}
use Rattle.pic_walk.specs.Limits.{from_to, MeetsLimits, FitsU32, limits_at}
use Rattle.pic_walk.specs.Path.{element_at}
use Rattle.pic_walk.specs.Walk.{Walked, ◌>>=◌, each}
use Rattle.pic_walk.proofs.ArrayLaws.{each_at}
use Rattle.pic_devices.specs.Drive.{cell_limits}

-- the next element, after as many as there are done
pub each_next : {A : Type 0} (f : List A → List ℕ → Data → Walked A) (path : List ℕ) (done : List A) (vs : List Value) (i : ℕ) (d : Value) → length done ≡ i
    → i < length vs → each f path done (items_view (drop i vs))
    ≡ f done (element_at path i) (view (get_or vs i d)) >>= (λ a. each f path (done ++ a ∷ []) (items_view (drop (i + 1) vs)))
each_next f path done vs i d size room = rw size at (each_at f path done vs i d room)

-- the limits of a cell are of 32 bits
pub cell_fits : (n : Triple) → IsCells n → (k : ℕ) → k < 3 → FitsU32 (limits_at (cell_limits n) k)
unfolding limits_at
cell_fits n cells zero h = record { low = omega (arith, ints); high = omega (arith, ints, cells.x_most) }
cell_fits n cells (suc zero) h = record { low = omega (arith, ints); high = omega (arith, ints, cells.y_most) }
cell_fits n cells (suc (suc zero)) h = record { low = omega (arith, ints); high = omega (arith, ints, cells.z_most) }
cell_fits n cells (suc (suc (suc k))) h = absurd (omega (arith, h))

-- three numbers within them are one of the cells
pub cell_within : (n : Triple) (ns : List ℕ) → IsCells n → ((k : ℕ) → k < 3 → MeetsLimits (limits_at (cell_limits n) k) (pos (slice_index ns k)))
    → IsWithin (triple ns) n
unfolding limits_at
cell_within n ns cells inside =
    record {
      x = omega (arith, ints, (inside 0 (lit< tt)).high, cells.x_least);
      y = omega (arith, ints, (inside 1 (lit< tt)).high, cells.y_least);
      z = omega (arith, ints, (inside 2 (lit< tt)).high, cells.z_least);
    }

-- a list that isn't too long
pub few_within : {A : Type 0} (most : ℕ) (xs : List A) → MeetsLimits (from_to (pos 0) (pos most)) (pos (length xs)) → length xs ≤ most
few_within most xs inside = omega (arith, ints, inside.high)
