-- Parts of a format that take a number of bytes, whatever follows these.
use Rattle.std.proofs.Common.{◌≡◌, ℕ, zero, suc, ◌+◌, ◌*◌, ◌≤◌, Bool, true, false, List, [], ◌∷◌, ◌++◌}
use Rattle.std.proofs.Common.{length, Ok, Err, inl, inr, refl, ap, subst, ◌∙◌, arith, length-append}
use Rattle.std.specs.Prelude.{if◌then◌else◌, ⊤}
use Rattle.std.proofs.lemmas.Bool.{cases_lt, lt-ltb, le-ltb}
use Rattle.std.proofs.lemmas.List.{take-append-le, drop-append-le, length-drop}
use Rattle.pic_fields.specs.Parser.{Input, input, Fault, Parsed, Parser, done, after, ◌>>=◌, mapped, field, tested_by, checked, each}

-- with further bytes behind those that are left
abbrev pub longer : List ℕ → Input → Input
longer rest i = input i.place (i.bytes ++ rest)

abbrev pub behind : {A : Type 0} → List ℕ → Parsed A → Parsed A
behind rest (Ok x) = Ok (x.0, longer rest x.1)
behind rest (Err f) = Err f

-- a value was read from n of so many bytes
abbrev pub Leaves : {A : Type 0} → ℕ → ℕ → Parsed A → Type 0
Leaves n all (Ok x) = length x.1.bytes + n ≡ all
Leaves n all (Err f) = ⊤

-- a value takes n bytes, and where there are so many, what follows them changes nothing
pub record IsOfLength {A : Type 0} (p : Parser A) (n : ℕ) : Type 0 where
  pub leaves : (i : Input) → Leaves n (length i.bytes) (p i)
  pub same : (i : Input) (rest : List ℕ) → n ≤ length i.bytes → p (longer rest i) ≡ behind rest (p i)

pub of_done : {A : Type 0} (a : A) → IsOfLength (done a) 0
unfolding done
of_done a = record { leaves = λ i. omega arith; same = λ i rest long. refl }

-- one part, and then another
leaves_more : {A : Type 0} (n m k all : ℕ) (r : Parsed A) → k + n ≡ all → Leaves m k r → Leaves (n + m) all r
leaves_more n m k all (Ok x) first second = omega (arith, first, second)
leaves_more n m k all (Err f) first second = tt

leaves_after : {A B : Type 0} (n m all : ℕ) (r : Parsed A) (f : A → Parser B) → ((a : A) → IsOfLength (f a) m) → Leaves n all r → Leaves (n + m) all (after r f)
leaves_after n m all (Ok x) f second first =
    leaves_more n m (length x.1.bytes) all (f x.0 x.1) first ((second x.0).leaves x.1)
leaves_after n m all (Err e) f second first = tt

same_after : {A B : Type 0} (n m all : ℕ) (r : Parsed A) (f : A → Parser B) (rest : List ℕ) → ((a : A) → IsOfLength (f a) m) → Leaves n all r → n + m ≤ all
    → after (behind rest r) f ≡ behind rest (after r f)
same_after n m all (Ok x) f rest second first long = (second x.0).same x.1 rest (omega (arith, first, long))
same_after n m all (Err e) f rest second first long = refl

pub of_then : {A B : Type 0} {p : Parser A} (f : A → Parser B) (n m : ℕ) → IsOfLength p n → ((a : A) → IsOfLength (f a) m) → IsOfLength (p >>= f) (n + m)
unfolding ◌>>=◌
of_then {p = p} f n m first second = record {
  leaves = λ i. leaves_after n m (length i.bytes) (p i) f second (first.leaves i);
  same = λ i rest long. ap (λ r. after r f) (first.same i rest (omega (arith, long)))
      ∙ same_after n m (length i.bytes) (p i) f rest second (first.leaves i) long;
}

pub of_length : {A : Type 0} {p : Parser A} {n m : ℕ} → n ≡ m → IsOfLength p n → IsOfLength p m
of_length {p = p} is first = subst (IsOfLength p) is first

pub of_mapped : {A B : Type 0} {p : Parser A} (f : A → B) (n : ℕ) → IsOfLength p n → IsOfLength (mapped f p) n
unfolding mapped
of_mapped f n first = of_length (omega arith) (of_then (λ a. done (f a)) n 0 first (λ a. of_done (f a)))

-- so many bytes
leaves_field : (n : ℕ) (i : Input) → Leaves n (length i.bytes) (field n i)
unfolding field
leaves_field n i = elim (cases_lt (length i.bytes) n) [
  | inl short ↦ rw (lt-ltb (length i.bytes) n short) tt
  | inr long ↦ (let size = length-drop n i.bytes in rw (le-ltb (length i.bytes) n long) (omega (arith, size, long)))
]

same_field : (n : ℕ) (i : Input) (rest : List ℕ) → n ≤ length i.bytes → field n (longer rest i) ≡ behind rest (field n i)
unfolding field
same_field n i rest long =
    let longer_is : n ≤ length (i.bytes ++ rest) = omega (arith, long, length-append i.bytes rest) in
    let front = take-append-le n i.bytes rest long in
    let back = drop-append-le n i.bytes rest long in
    rw (le-ltb (length (i.bytes ++ rest)) n longer_is, le-ltb (length i.bytes) n long, front, back) refl

pub of_field : (n : ℕ) → IsOfLength (field n) n
of_field n = record { leaves = leaves_field n; same = same_field n }

-- a value that has to pass a test
leaves_choice : {A : Type 0} (n all : ℕ) (x : A × Input) (f : Fault) (passes : Bool) → length x.1.bytes + n ≡ all
    → Leaves n all (if passes then Ok x else Err f)
leaves_choice n all x f true first = first
leaves_choice n all x f false first = tt

leaves_tested : {A : Type 0} (n all place cause : ℕ) (test : A → Bool) (r : Parsed A) → Leaves n all r → Leaves n all (tested_by place cause test r)
leaves_tested n all place cause test (Ok x) first = leaves_choice n all x (record { place = place; cause = cause }) (test x.0) first
leaves_tested n all place cause test (Err e) first = tt

same_choice : {A : Type 0} (x : A × Input) (f : Fault) (rest : List ℕ) (passes : Bool)
    → (if passes then Ok (x.0, longer rest x.1) else Err f) ≡ behind rest (if passes then Ok x else Err f)
same_choice x f rest true = refl
same_choice x f rest false = refl

same_tested : {A : Type 0} (place cause : ℕ) (test : A → Bool) (rest : List ℕ) (r : Parsed A)
    → tested_by place cause test (behind rest r) ≡ behind rest (tested_by place cause test r)
same_tested place cause test rest (Ok x) = same_choice x (record { place = place; cause = cause }) rest (test x.0)
same_tested place cause test rest (Err e) = refl

pub of_checked : {A : Type 0} {p : Parser A} (cause : ℕ) (test : A → Bool) (n : ℕ) → IsOfLength p n → IsOfLength (checked cause test p) n
unfolding checked
of_checked {p = p} cause test n first = record {
  leaves = λ i. leaves_tested n (length i.bytes) i.place cause test (p i) (first.leaves i);
  same = λ i rest long. ap (tested_by i.place cause test) (first.same i rest long) ∙ same_tested i.place cause test rest (p i);
}

-- values one after another
pub of_each : {A : Type 0} (f : List A → Parser A) (n k : ℕ) → ((xs : List A) → IsOfLength (f xs) n) → IsOfLength (each k f) (k * n)
unfolding each
of_each f n zero each_one = of_length (omega arith) (of_done [])
of_each f n (suc k) each_one =
    of_length (omega arith) (of_then (λ xs. f xs >>= (λ x. done (xs ++ x ∷ []))) (k * n) (n + 0) (of_each f n k each_one)
    (λ xs. of_then (λ x. done (xs ++ x ∷ [])) n 0 (each_one xs) (λ x. of_done (xs ++ x ∷ []))))
