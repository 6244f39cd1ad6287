-- Marks and places: which change where one of them does.
use Rattle.std.proofs.Common.{◌≡◌, ℕ, ◌*◌, ◌<◌, ◌≤◌, ◌⊎◌, inl, inr, Bool, true, false, ◌&&◌, nat_lt, List, length, slice_set, refl, sym, ap, ◌∙◌, arith}
use Rattle.std.proofs.Math.Decide.{ℕ_discrete}
use Rattle.std.proofs.lemmas.Bool.{false≢true}
use Rattle.std.proofs.lemmas.Bool.Decides.{nat_tests}
use Rattle.std.proofs.lemmas.List.{get_or-set_same, get_or-set_other}
use Rattle.pic_tile.specs.CoreState.{mark, slot_of}
use Rattle.pic_tile.specs.Directions.{directions}

-- the slots of two parcels are the same for the same tile and direction alone
pub slot_dir : (r d q e : ℕ) → d < directions → e < directions → slot_of r d ≡ slot_of q e → d ≡ e
slot_dir r d q e h k same = omega (arith, h, k, same)

pub slot_tile : (r d q e : ℕ) → d < directions → e < directions → slot_of r d ≡ slot_of q e → r ≡ q
slot_tile r d q e h k same = omega (arith, h, k, same)

pub slot_below : (r d n : ℕ) → r < n → d < directions → slot_of r d < n * directions
slot_below r d n h k = omega (arith, h, k)

-- marks of which one is set
pub mark_set : (ms : List Bool) (k : ℕ) → k < length ms → mark (slice_set ms k true) k ≡ true
mark_set ms k below = get_or-set_same {A = Bool} ms k true false below

pub mark_other : (ms : List Bool) (k i : ℕ) → (i ≡ k → ⊥) → mark (slice_set ms k true) i ≡ mark ms i
mark_other ms k i apart = get_or-set_other {A = Bool} ms k i true false apart

pub mark_keeps : (ms : List Bool) (k i : ℕ) → k < length ms → mark ms i ≡ true → mark (slice_set ms k true) i ≡ true
mark_keeps ms k i below is = elim (ℕ_discrete i k) [
  | yes same ↦ ap (mark (slice_set ms k true)) same ∙ mark_set ms k below
  | no apart ↦ mark_other ms k i apart ∙ is
]

-- one that isn't set then is another, and wasn't set before
pub mark_apart : (ms : List Bool) (k i : ℕ) → k < length ms → mark (slice_set ms k true) i ≡ false → i ≡ k → ⊥
mark_apart ms k i below off same = false≢true (sym off ∙ ap (mark (slice_set ms k true)) same ∙ mark_set ms k below)

pub mark_was : (ms : List Bool) (k i : ℕ) → k < length ms → mark (slice_set ms k true) i ≡ false → mark ms i ≡ false
mark_was ms k i below off = sym (mark_other ms k i (mark_apart ms k i below off)) ∙ off

-- one that is set then is that one, or was set before
pub mark_or : (ms : List Bool) (k i : ℕ) → mark (slice_set ms k true) i ≡ true → (i ≡ k) ⊎ (mark ms i ≡ true)
mark_or ms k i on = elim (ℕ_discrete i k) [ yes same ↦ inl same | no apart ↦ inr (sym (mark_other ms k i apart) ∙ on) ]

pub not_both : (b : Bool) → b ≡ true → b ≡ false → ⊥
not_both b on off = false≢true (sym off ∙ on)

-- a mark of a direction
pub bounded : (d : ℕ) (b : Bool) → d < directions → (nat_lt d directions && b) ≡ b
bounded d b below = at (nat_lt d directions) (lt_is d below)
  where
    lt_is : (k : ℕ) → k < directions → nat_lt k directions ≡ true
    lt_is k h = grind (arith, nat_tests)

    at : (t : Bool) → t ≡ true → (t && b) ≡ b
    at true is = refl
    at false is = absurd (false≢true is)

pub beyond : (d : ℕ) (b : Bool) → directions ≤ d → (nat_lt d directions && b) ≡ false
beyond d b past = at (nat_lt d directions) (lt_is d past)
  where
    lt_is : (k : ℕ) → directions ≤ k → nat_lt k directions ≡ false
    lt_is k h = grind (arith, nat_tests)

    at : (t : Bool) → t ≡ false → (t && b) ≡ false
    at true is = absurd (false≢true (sym is))
    at false is = refl
