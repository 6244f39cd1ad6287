-- Values one after another, each by those before it.
use Rattle.std.proofs.Common.{◌≡◌, ℕ, zero, suc, ◌+◌, ◌<◌, ◌≤◌, List, [], ◌∷◌, ◌++◌, Result, Err, IsErrAnd, sym, subst, arith, add-one, inl, inr}
use Rattle.std.proofs.lemmas.Bool.{cases_eq}
use Rattle.std.proofs.lemmas.Result.{err_from_is_err_and}
use Rattle.pic_io.specs.Told.{Told}
use Rattle.pic_fields.specs.Parser.{Parser, done, ◌>>=◌, each}
use Rattle.pic_fields.specs.Reads.{HasRead, Stops, Reads}
use Rattle.pic_fields.specs.declared.read_stop.ReadStop.{ReadStop}
use Rattle.pic_fields.proofs.ReadLaws.{read_then, read_done, stops_first, stops_then}

pub read_none : {A : Type 0} (f : List A → Parser A) (s : ℕ) (x : Told) → HasRead (each 0 f) s x [] s x
unfolding each
read_none f s x = read_done [] s x

-- one value more
pub read_more : {A : Type 0} (n : ℕ) (f : List A → Parser A) {s m e : ℕ} {x y z : Told} {xs : List A} {a : A}
    → HasRead (each n f) s x xs m y → HasRead (f xs) m y a e z → HasRead (each (n + 1) f) s x (xs ++ a ∷ []) e z
unfolding each
read_more n f {s = s} {e = e} {x = x} {z = z} {xs = xs} {a = a} first second =
    subst (λ m. HasRead (each m f) s x (xs ++ a ∷ []) e z) (sym (add-one n))
    (read_then (λ ys. f ys >>= (λ b. done (ys ++ b ∷ []))) first (read_then (λ b. done (xs ++ b ∷ [])) second (read_done (xs ++ a ∷ []) e z)))

stops_next : {A : Type 0} (n : ℕ) (f : List A → Parser A) {s m e d : ℕ} {x y z : Told} {xs : List A} {stop : ReadStop}
    → e ≤ d → HasRead (each n f) s x xs m y → Stops (f xs) m e y z stop → Stops (each (suc n) f) s d x z stop
unfolding each
stops_next n f {xs = xs} less first second =
    stops_then (λ ys. f ys >>= (λ b. done (ys ++ b ∷ []))) first (stops_first (λ b. done (xs ++ b ∷ [])) less second)

pub stops_later : {A : Type 0} (n : ℕ) (f : List A → Parser A) {s e : ℕ} {x z : Told} {stop : ReadStop} → Stops (each n f) s e x z stop
    → Stops (each (suc n) f) s e x z stop
unfolding each
stops_later n f first = stops_first (λ ys. f ys >>= (λ b. done (ys ++ b ∷ []))) (omega arith) first

-- where one of the values can't be had, they can't
pub stops_among : {A : Type 0} (n i : ℕ) (f : List A → Parser A) {s m e d : ℕ} {x y z : Told} {xs : List A} {stop : ReadStop}
    → i < n → e ≤ d → HasRead (each i f) s x xs m y → Stops (f xs) m e y z stop → Stops (each n f) s d x z stop
stops_among zero i f below less first second = elim below [ ]
stops_among (suc n) i f {s = s} {m = m} {x = x} {y = y} {xs = xs} below less first second = elim (cases_eq i n) [
  | inl same ↦ stops_next n f less (subst (λ k. HasRead (each k f) s x xs m y) same first) second
  | inr other ↦ stops_later n f (stops_among n i f (omega (arith, below, other)) less first second)
]

pub exits_among : {A C D : Type 0} (n i : ℕ) (f : List A → Parser A) {view : C → A} {other : D → List A} {s m e d : ℕ} {x y z : Told} {xs : List A}
    {stop : ReadStop} {r : Result D ReadStop}
    → IsErrAnd r (λ u. u ≡ stop) → i < n → e ≤ d → HasRead (each i f) s x xs m y → Reads view (f xs) m e y z (Err stop) → Reads other (each n f) s d x z r
exits_among n i f {stop = stop} {r = r} is below less first second =
    let q = err_from_is_err_and r is in
    rw (q.1, q.2) (record { answer = stops_among n i f below less first second.answer })
