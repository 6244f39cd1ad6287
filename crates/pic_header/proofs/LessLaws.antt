-- How far the bytes of a header were read before a read that failed: not to the end of a part that is there.
use Rattle.std.proofs.Common.{◌≡◌, ℕ, zero, suc, ◌+◌, ◌<◌, ◌≤◌, List, ◌∷◌, [], ◌++◌, Result, Err, IsErrAnd, inl, inr, sym, subst, arith, length-append}
use Rattle.std.proofs.lemmas.Bool.{cases_eq}
use Rattle.std.proofs.lemmas.Result.{err_from_is_err_and}
use Rattle.pic_io.specs.Told.{Told}
use Rattle.pic_io.proofs.Takes.{given_twice}
use Rattle.pic_fields.specs.declared.read_stop.ReadStop.{ReadStop}
use Rattle.pic_fields.specs.declared.read_stop.ReadStop.TheVariants.{ReadFault}
use Rattle.pic_fields.specs.Parser.{input, Parser, done, ◌>>=◌, each}
use Rattle.pic_fields.specs.Reads.{Moves, MovesLess, HasRead, Stops}
use Rattle.pic_header.specs.declared.head_stop.HeadStop.{HeadStop}
use Rattle.pic_header.specs.declared.head_stop.HeadStop.TheVariants.{Read, NoMemory}
use Rattle.pic_header.specs.HeadReads.{reach_of, TakesLess}
use Rattle.pic_header.proofs.RunLaws.{Runs, GoesOn, goes_done, goes_then}
use Rattle.pic_header.proofs.WithinLaws.{short_reach, reach_after, after_known}

-- a call stopped as the one did that it called
pub same_stop : {D : Type 0} {r : Result D ReadStop} {stop : ReadStop} → IsErrAnd r (λ y. y ≡ stop) → r ≡ Err ReadFault → stop ≡ ReadFault
same_stop {r = r} is same =
    let q = err_from_is_err_and r is in
    let first = q.1 in
    let second = q.2 in
    cc

pub same_read_stop : {D : Type 0} {r : Result D HeadStop} {stop : ReadStop} → IsErrAnd r (λ y. y ≡ Read stop) → r ≡ Err (Read ReadFault) → stop ≡ ReadFault
same_read_stop {r = r} is same =
    let q = err_from_is_err_and r is in
    let first = q.1 in
    let second = q.2 in
    cc

pub same_head_stop : {D : Type 0} {r : Result D HeadStop} {stop : HeadStop} → IsErrAnd r (λ y. y ≡ stop) → r ≡ Err (Read ReadFault) → stop ≡ Read ReadFault
same_head_stop {r = r} is same =
    let q = err_from_is_err_and r is in
    let first = q.1 in
    let second = q.2 in
    cc

pub was_fed : {D : Type 0} {r : Result D HeadStop} → IsErrAnd r (λ y. y ≡ NoMemory) → r ≡ Err (Read ReadFault) → ⊥
was_fed {r = r} is same =
    let q = err_from_is_err_and r is in
    let first = q.1 in
    let second = q.2 in
    cc

-- less than is there was taken of a part, or behind one
less_up : {s e d : ℕ} {x z : Told} → e ≤ d → MovesLess s e x z → MovesLess s d x z
less_up further first = let part = first.less in record { front = first.front; moved = first.moved; less = omega (arith, part, further) }

less_after : {s m e : ℕ} {x y z : Told} → Moves s m x y → MovesLess m e y z → MovesLess s e x z
less_after {x = x} {y = y} {z = z} first second =
    let most = first.most in
    let part = second.less in
    record {
      front = first.front ++ second.front;
      moved = given_twice x y z first.front second.front first.moved second.moved;
      less = omega (arith, most, part, length-append first.front second.front);
    }

-- a part of so few bytes
pub less_short : {A : Type 0} {p : Parser A} (n : ℕ) {s : ℕ} {x z : Told} {stop : ReadStop}
    → Runs p n → n ≤ 32 → stop ≡ ReadFault → Stops p s (s + n) x z stop → TakesLess p s x z
less_short {p = p} n {s = s} runs few failed stops = record {
  moves = λ bytes told. less_up (short_reach s n (p (input s bytes)) few (runs.on (input s bytes))) (record {
    front = stops.moves.front;
    moved = stops.moves.moved;
    less = stops.less failed;
  });
}

-- the first part
pub less_first : {A B : Type 0} {p : Parser A} (f : A → Parser B) {s : ℕ} {x z : Told} → ((a : A) → GoesOn (f a)) → TakesLess p s x z
    → TakesLess (p >>= f) s x z
unfolding ◌>>=◌
less_first {p = p} f {s = s} second first = record {
  moves = λ bytes told. less_up (reach_after (p (input s bytes)) f second) (first.moves bytes told);
}

-- one behind a part that was read
pub less_then : {A B : Type 0} {p : Parser A} (f : A → Parser B) {s m : ℕ} {x y z : Told} {a : A}
    → HasRead p s x a m y → TakesLess (f a) m y z → TakesLess (p >>= f) s x z
less_then {p = p} f {s = s} {m = m} {x = x} {z = z} first second = record {
  moves = λ bytes told. (let (rest, known, is) = after_known f bytes first told in
      subst (λ r. MovesLess s (reach_of r) x z) (sym is) (less_after first.moves (second.moves rest known)));
}

-- another spelling of a part
pub less_by : {A : Type 0} {p q : Parser A} {s : ℕ} {x z : Told} → p ≡ q → TakesLess p s x z → TakesLess q s x z
less_by {A = A} {s = s} {x = x} {z = z} is first = subst (λ (t : Parser A). TakesLess t s x z) is first

-- one of several
less_next : {A : Type 0} (n : ℕ) (f : List A → Parser A) {s m : ℕ} {x y z : Told} {xs : List A}
    → HasRead (each n f) s x xs m y → TakesLess (f xs) m y z → TakesLess (each (suc n) f) s x z
unfolding each
less_next n f {xs = xs} first second =
    less_then (λ ys. f ys >>= (λ b. done (ys ++ b ∷ []))) first (less_first (λ b. done (xs ++ b ∷ [])) (λ b. goes_done (xs ++ b ∷ [])) second)

less_later : {A : Type 0} (n : ℕ) (f : List A → Parser A) {s : ℕ} {x z : Told} → ((xs : List A) → GoesOn (f xs)) → TakesLess (each n f) s x z
    → TakesLess (each (suc n) f) s x z
unfolding each
less_later n f each_one first =
    less_first (λ ys. f ys >>= (λ b. done (ys ++ b ∷ []))) (λ ys. goes_then (each_one ys) (λ b. goes_done (ys ++ b ∷ []))) first

pub less_among : {A : Type 0} (n i : ℕ) (f : List A → Parser A) {s m : ℕ} {x y z : Told} {xs : List A}
    → ((ys : List A) → GoesOn (f ys)) → i < n → HasRead (each i f) s x xs m y → TakesLess (f xs) m y z → TakesLess (each n f) s x z
less_among zero i f each_one below first second = elim below [ ]
less_among (suc n) i f {s = s} {m = m} {x = x} {y = y} {xs = xs} each_one below first second = elim (cases_eq i n) [
  | inl same ↦ less_next n f (subst (λ k. HasRead (each k f) s x xs m y) same first) second
  | inr other ↦ less_later n f each_one (less_among n i f each_one (omega (arith, below, other)) first second)
]
