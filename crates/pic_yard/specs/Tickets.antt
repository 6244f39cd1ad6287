-- The ticket word, from which seats draw the numbers of tiles, and the numbers of the seats. The
-- word passes the number of tiles only by draws that tell a seat that no tile is left.
use Rattle.std.specs.Prelude.{◌≡◌, ℕ, ◌+◌, ◌<◌, ◌≤◌, ◌⊎◌, List, Bool, true, false}
use mathlib.Core.Option.{some}
use lib.ListN.{get_elem?}
use Rattle.pic_yard.specs.declared.view.View.{View}
use Rattle.pic_yard.specs.Marks.{Lists}
use Rattle.pic_yard.specs.Members.{In, Differ, count_below}

-- The seat j has this view. Each number of a seat is kept by one seat: by the one whose own it is,
-- by the one that took it in, or by the one that is still to make it; and all that one seat keeps
-- differ. A number is told where its seat was told that no tile is left.
pub record HasNumbers (tiles seats ticket : ℕ) (keeper : ℕ → ℕ) (told : ℕ
    → Bool) (j : ℕ) (v : View) : Type 0 where
  pub own : v.number < seats
  pub own_kept : keeper v.number ≡ j
  pub own_told : told v.number ≡ v.told
  pub taken : (x : ℕ) → In x v.taken → x < seats
  pub taken_kept : (x : ℕ) → In x v.taken → keeper x ≡ j
  pub taken_told : (x : ℕ) → In x v.taken → told x ≡ true
  pub unmade : (x : ℕ) → In x v.unmade → x < seats
  pub unmade_kept : (x : ℕ) → In x v.unmade → keeper x ≡ j
  pub unmade_told : (x : ℕ) → In x v.unmade → told x ≡ false
  pub made : In v.number v.unmade → ⊥
  pub apart : In v.number v.taken → ⊥
  pub taken_differ : Differ v.taken
  pub unmade_differ : Differ v.unmade
  pub drawn : v.drawn ≤ ticket
  pub past : v.told ≡ true → tiles < v.drawn

-- all live views have their numbers, and each draw past the last tile told another seat; a number
-- that is told is the own one of its keeper, or one that it took in
pub record Tickets (tiles seats ticket : ℕ) (views : List View) : Type 0 where
  pub keeper : ℕ → ℕ
  pub told : ℕ → Bool
  pub bound : ticket ≤ tiles + count_below told seats
  pub each : (j : ℕ) (v : View) → get_elem? views j ≡ some v → v.live ≡ true
      → HasNumbers tiles seats ticket keeper told j v
  pub known : (x : ℕ) → x < seats → told x ≡ true
      → Lists views (keeper x) (λ v. (x ≡ v.number) ⊎ In x v.taken)
