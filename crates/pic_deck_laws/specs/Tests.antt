-- Tests of a document in a row: what each wants, and the fault where it fails.
use Rattle.std.specs.Prelude.{◌≡◌, ◌↔◌, ℕ, ◌<◌, Bool, true, false, List, ◌++◌, slice_get, Some, IsOk, Ok, Err}
use Rattle.pic_walk.specs.declared.fault.Fault.{Fault}
use Rattle.pic_walk.specs.Walk.{Walked, ◌>>=◌}

-- a test of one place, and the fault there where it fails
pub record Test : Type 0 where
  pub holds : Bool
  pub fault : Fault

abbrev pub test : Bool → Fault → Test
test holds fault = record { holds = holds; fault = fault }

-- a fault is that of a test which fails, and all tests before it hold
pub record IsFirstFault (tests : List Test) (fault : Fault) : Type 0 where
  pub number : ℕ
  pub failed : Test
  pub there : slice_get tests number ≡ Some failed
  pub fails : failed.holds ≡ false
  pub gives : failed.fault ≡ fault
  pub before : (k : ℕ) (t : Test) → k < number → slice_get tests k ≡ Some t → t.holds ≡ true

-- all tests hold
pub record AllHold (tests : List Test) : Type 0 where
  pub each : (k : ℕ) (t : Test) → slice_get tests k ≡ Some t → t.holds ≡ true

-- a walk makes these tests in this order: it refuses exactly with the fault of the first that fails,
-- and accepts exactly where all hold
pub record MakesTests {A : Type 0} (tests : List Test) (w : Walked A) : Type 0 where
  pub refuses : (fault : Fault) → (w ≡ Err fault) ↔ IsFirstFault tests fault
  pub accepts : IsOk w ↔ AllHold tests

-- a walk and another one from its value make the tests of the first, and then those of the second
abbrev pub TestsGoInTurn : Type 0 → Type 0 → Type 0
TestsGoInTurn A B =
    (ts us : List Test) (w : Walked A) (f : A → Walked B)
    → MakesTests ts w → ((a : A) → w ≡ Ok a → MakesTests us (f a)) → MakesTests (ts ++ us) (w >>= f)
