-- Tests in a row: the first that fails, and walks that make them.
use Rattle.std.proofs.Common.{◌≡◌, ℕ, zero, suc, ◌<◌, Bool, true, false, cond, List, [], ◌∷◌, ◌++◌, Option, Some, None, Ok, Err, refl, sym, ap, ◌∙◌, arith}
use Rattle.std.specs.Prelude.{slice_get, is_some, if◌then◌else◌, IsOk}
use Rattle.std.proofs.lemmas.Option.{same_Some}
use Rattle.pic_walk.specs.declared.fault.Fault.{Fault}
use Rattle.pic_walk.specs.Walk.{Walked, ◌>>=◌, some_or}
use Rattle.pic_deck_laws.specs.Tests.{Test, test, IsFirstFault, MakesTests, TestsGoInTurn}

-- the fault of the first test that fails
abbrev pub first_fault : List Test → Option Fault
first_fault [] = None
first_fault (t ∷ ts) = cond t.holds (first_fault ts) (Some t.fault)

-- the fault that a walk refuses with
abbrev pub refused : {A : Type 0} → Walked A → Option Fault
refused (Ok a) = None
refused (Err q) = Some q

-- a walk along tests
pub record Along {A : Type 0} (tests : List Test) (w : Walked A) : Type 0 where
  pub is : refused w ≡ first_fault tests

-- the first fault is that of the first test that fails
before_more : (t : Test) (ts : List Test) (n : ℕ) → t.holds ≡ true → ((k : ℕ) (r : Test) → k < n → slice_get ts k ≡ Some r → r.holds ≡ true)
    → (k : ℕ) (r : Test) → k < suc n → slice_get (t ∷ ts) k ≡ Some r → r.holds ≡ true
before_more t ts n holds below zero r h e = ap (λ (x : Test). x.holds) (sym (same_Some t r e)) ∙ holds
before_more t ts n holds below (suc k) r h e = below k r (omega (arith, h)) e

first_more : (t : Test) (ts : List Test) (q : Fault) (b : Bool) → t.holds ≡ b → (first_fault ts ≡ Some q → IsFirstFault ts q)
    → cond b (first_fault ts) (Some t.fault) ≡ Some q → IsFirstFault (t ∷ ts) q
first_more t ts q true holds later e =
    let f = later e in
    record {
      number = suc f.number;
      failed = f.failed;
      there = f.there;
      fails = f.fails;
      gives = f.gives;
      before = before_more t ts f.number holds f.before;
    }
first_more t ts q false fails later e = record {
  number = zero;
  failed = t;
  there = refl;
  fails = fails;
  gives = same_Some t.fault q e;
  before = λ k r h is. absurd (omega (arith, h));
}

first_is : (ts : List Test) (q : Fault) → first_fault ts ≡ Some q → IsFirstFault ts q
first_is [] q e = absurd (cc e)
first_is (t ∷ ts) q e = first_more t ts q t.holds refl (first_is ts q) e

is_first : (ts : List Test) (n : ℕ) (t : Test) → slice_get ts n ≡ Some t → t.holds ≡ false
    → ((k : ℕ) (r : Test) → k < n → slice_get ts k ≡ Some r → r.holds ≡ true)
    → first_fault ts ≡ Some t.fault
is_first [] n t there fails before = absurd (cc there)
is_first (s ∷ ts) zero t there fails before =
    let same : s ≡ t = same_Some s t there in
    ap (λ (b : Bool). cond b (first_fault ts) (Some s.fault)) (ap (λ (x : Test). x.holds) same ∙ fails)
    ∙ ap (λ (x : Test). Some x.fault) same
is_first (s ∷ ts) (suc n) t there fails before =
    ap (λ (b : Bool). cond b (first_fault ts) (Some s.fault)) (before zero s (omega arith) refl)
    ∙ is_first ts n t there fails (λ k r h is. before (suc k) r (omega (arith, h)) is)

-- there is none where all hold
both_hold : (b : Bool) (o : Option Fault) (f : Fault) → cond b o (Some f) ≡ None → (b ≡ true) × (o ≡ None)
both_hold true o f e = (refl, e)
both_hold false o f e = absurd (cc e)

none_holds : (ts : List Test) → first_fault ts ≡ None → (k : ℕ) (t : Test) → slice_get ts k ≡ Some t → t.holds ≡ true
none_holds [] e k t is = absurd (cc is)
none_holds (s ∷ ts) e zero t is =
    ap (λ (x : Test). x.holds) (sym (same_Some s t is)) ∙ (both_hold s.holds (first_fault ts) s.fault e).0
none_holds (s ∷ ts) e (suc k) t is = none_holds ts (both_hold s.holds (first_fault ts) s.fault e).1 k t is

holds_none : (ts : List Test) → ((k : ℕ) (t : Test) → slice_get ts k ≡ Some t → t.holds ≡ true) → first_fault ts ≡ None
holds_none [] all = refl
holds_none (s ∷ ts) all =
    ap (λ (b : Bool). cond b (first_fault ts) (Some s.fault)) (all zero s refl) ∙ holds_none ts (λ k t is. all (suc k) t is)

-- what a walk refuses with
err_from : {A : Type 0} (w : Walked A) (q : Fault) → refused w ≡ Some q → w ≡ Err q
err_from (Ok a) q e = absurd (cc e)
err_from (Err p) q e = ap Err (same_Some p q e)

ok_from : {A : Type 0} (w : Walked A) → refused w ≡ None → IsOk w
ok_from (Ok a) e = refl
ok_from (Err p) e = absurd (cc e)

none_from : {A : Type 0} (w : Walked A) → IsOk w → refused w ≡ None
none_from (Ok a) e = refl
none_from (Err p) e = absurd (cc e)

-- so a walk along tests makes them
pub makes_tests : {A : Type 0} (ts : List Test) (w : Walked A) → Along ts w → MakesTests ts w
makes_tests {A} ts w along = record {
  refuses = λ q. (
    λ e. first_is ts q (sym along.is ∙ ap (λ (v : Walked A). refused v) e),
    λ f. err_from w q (along.is ∙ is_first ts f.number f.failed f.there f.fails f.before ∙ ap (λ (x : Fault). Some x) f.gives),
  );
  accepts = (
    λ ok. record { each = none_holds ts (sym along.is ∙ none_from w ok) },
    λ all. ok_from w (along.is ∙ holds_none ts all.each),
  );
}

-- Walks of two parts
none_then : (b : Bool) (o p r : Option Fault) (f : Fault) → (o ≡ None → p ≡ r) → cond b o (Some f) ≡ None → cond b p (Some f) ≡ r
none_then true o p r f later e = later e
none_then false o p r f later e = absurd (cc e)

some_then : (b : Bool) (o p : Option Fault) (f q : Fault) → (o ≡ Some q → p ≡ Some q) → cond b o (Some f) ≡ Some q
    → cond b p (Some f) ≡ Some q
some_then true o p f q later e = later e
some_then false o p f q later e = e

first_after : (ts us : List Test) → first_fault ts ≡ None → first_fault (ts ++ us) ≡ first_fault us
first_after [] us e = refl
first_after (t ∷ ts) us e =
    none_then t.holds (first_fault ts) (first_fault (ts ++ us)) (first_fault us) t.fault (first_after ts us) e

first_stays : (ts us : List Test) (q : Fault) → first_fault ts ≡ Some q → first_fault (ts ++ us) ≡ Some q
first_stays [] us q e = absurd (cc e)
first_stays (t ∷ ts) us q e = some_then t.holds (first_fault ts) (first_fault (ts ++ us)) t.fault q (first_stays ts us q) e

-- the tests of one walk and then those of another from its value
pub then_along : {A B : Type 0} {ts us : List Test} (w : Walked A) (f : A → Walked B) → Along ts w → ((a : A) → w ≡ Ok a → Along us (f a))
    → Along (ts ++ us) (w >>= f)
unfolding ◌>>=◌
then_along {ts = ts} {us = us} (Ok a) f first later = record { is = (later a refl).is ∙ sym (first_after ts us (sym first.is)) }
then_along {ts = ts} {us = us} (Err q) f first later = record { is = sym (first_stays ts us q (sym first.is)) }

-- a value made from another one needs no further test
pub last_along : {A B : Type 0} {ts : List Test} (w : Walked A) (g : A → B) → Along ts w → Along ts (w >>= (λ a. Ok (g a)))
unfolding ◌>>=◌
last_along (Ok a) g first = record { is = first.is }
last_along (Err q) g first = record { is = first.is }

-- a walk that makes tests goes along them
pub along_from : {A : Type 0} (ts : List Test) (w : Walked A) → MakesTests ts w → Along ts w
along_from ts (Ok a) makes = record { is = sym (holds_none ts (makes.accepts.0 refl).each) }
along_from ts (Err q) makes =
    let f = (makes.refuses q).0 refl in
    record { is = sym (is_first ts f.number f.failed f.there f.fails f.before ∙ ap (λ (x : Fault). Some x) f.gives) }

pub tests_in_turn : (A B : Type 0) → TestsGoInTurn A B
tests_in_turn A B ts us w f first later =
    makes_tests _ _ (then_along w f (along_from ts w first) (λ a is. along_from us (f a) (later a is)))

-- one test and then a walk
pub test_along : {A : Type 0} (b : Bool) (a : A) (q : Fault) → Along (test b q ∷ []) (if b then Ok a else Err q)
test_along true a q = record { is = refl }
test_along false a q = record { is = refl }

pub test_then : {A B : Type 0} {us : List Test} (b : Bool) (a : A) (q : Fault) (f : A → Walked B) → Along us (f a)
    → Along (test b q ∷ us) ((if b then Ok a else Err q) >>= f)
unfolding ◌>>=◌
test_then true a q f later = record { is = later.is }
test_then false a q f later = record { is = refl }

-- a value, where there is one, and then a walk from there
pub there_then : {A B : Type 0} {us : List Test} (q : Fault) (o : Option A) (f : A → Walked B) → ((a : A) → o ≡ Some a → Along us (f a))
    → Along (test (is_some o) q ∷ us) (some_or q o >>= f)
unfolding ◌>>=◌ some_or
there_then q (Some a) f later = record { is = (later a refl).is }
there_then q None f later = record { is = refl }

-- a walk only where a test fails
pub branch_along : {A : Type 0} {ts : List Test} {w : Walked A} (b : Bool) (a : A) → Along ts w → Along (if b then [] else ts) (if b then Ok a else w)
branch_along true a later = record { is = refl }
branch_along false a later = later
