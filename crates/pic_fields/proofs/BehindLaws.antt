-- Values one after another, of which some were read before.
use Rattle.std.proofs.Common.{◌≡◌, ℕ, zero, suc, ◌+◌, ◌-◌, ◌≤◌, List, [], ◌∷◌, ◌++◌, Result, Ok, Err}
use Rattle.std.proofs.Common.{IsErrAnd, refl, sym, ap, subst, ◌∙◌, arith, append_assoc, append-nil}
use Rattle.std.proofs.lemmas.Result.{err_from_is_err_and}
use Rattle.pic_io.specs.Told.{Told}
use Rattle.pic_fields.specs.Parser.{Input, Fault, Parsed, Parser, done, after, ◌>>=◌, each}
use Rattle.pic_fields.specs.Reads.{HasRead, Fails, Stops, Reads}
use Rattle.pic_fields.specs.Pieces.{each_behind}
use Rattle.pic_fields.specs.declared.read_stop.ReadStop.{ReadStop}
use Rattle.pic_fields.specs.declared.read_stop.ReadStop.TheVariants.{ReadFault, BadDump}
use Rattle.pic_fields.proofs.ReadLaws.{read_then, read_done, stops_first, stops_then, stops_up}
use Rattle.pic_fields.proofs.EachLaws.{stops_later}

-- another spelling of a part
read_by : {A : Type 0} {p q : Parser A} {s e : ℕ} {x z : Told} {a : A} → ((i : Input) → q i ≡ p i) → HasRead p s x a e z → HasRead q s x a e z
read_by same first = record {
  calm = first.calm;
  moves = first.moves;
  whole = first.whole;
  reads = λ rest left. (let (held, was, is) = first.reads rest left in (held, was, same _ ∙ is));
}

fails_by : {A : Type 0} {p q : Parser A} {s : ℕ} {x z : Told} {f : Fault} → ((i : Input) → q i ≡ p i) → Fails p s x f z → Fails q s x f z
fails_by same first = record { calm = first.calm; held = first.held; was = first.was; fails = same _ ∙ first.fails }

stops_by : {A : Type 0} {p q : Parser A} {s e : ℕ} {x z : Told} {stop : ReadStop} → ((i : Input) → q i ≡ p i) → Stops p s e x z stop → Stops q s e x z stop
stops_by {stop = ReadFault} same first = record { why = first.why; moves = first.moves; less = first.less }
stops_by {stop = BadDump place cause} same first = record { why = fails_by same first.why; moves = first.moves; less = first.less }

-- all values are the first ones, and those behind them
last_value : {A : Type 0} (xs ys : List A) (r : Parsed A)
    → after r (λ x. done ((xs ++ ys) ++ x ∷ [])) ≡ after (after r (λ y. done (ys ++ y ∷ []))) (λ zs. done (xs ++ zs))
unfolding done
last_value xs ys (Ok x) = ap (λ l. Ok (l, x.1)) (append_assoc xs ys (x.0 ∷ []))
last_value xs ys (Err e) = refl

next_value : {A : Type 0} (f : List A → Parser A) (xs : List A) (r : Parsed (List A))
    → after (after r (λ ys. done (xs ++ ys))) (λ zs. f zs >>= (λ x. done (zs ++ x ∷ [])))
    ≡ after (after r (λ ys. f (xs ++ ys) >>= (λ y. done (ys ++ y ∷ [])))) (λ zs. done (xs ++ zs))
unfolding done ◌>>=◌
next_value f xs (Ok r) = last_value xs r.0 (f (xs ++ r.0) r.1)
next_value f xs (Err e) = refl

abbrev behind_them : {A : Type 0} → (List A → Parser A) → ℕ → List A → Parser (List A)
behind_them f k xs = each_behind xs k f >>= (λ ys. done (xs ++ ys))

none_behind : {A : Type 0} (f : List A → Parser A) (r : Parsed (List A)) → r ≡ after r (behind_them f 0)
unfolding done ◌>>=◌ each
none_behind f (Ok x) = ap (λ l. Ok (l, x.1)) (sym (append-nil x.0))
none_behind f (Err e) = refl

more_behind : {A : Type 0} (f : List A → Parser A) (k : ℕ) (r : Parsed (List A))
    → after (after r (behind_them f k)) (λ zs. f zs >>= (λ x. done (zs ++ x ∷ []))) ≡ after r (behind_them f (suc k))
unfolding ◌>>=◌ each
more_behind f k (Ok x) = next_value f x.0 (each k (λ ys. f (x.0 ++ ys)) x.1)
more_behind f k (Err e) = refl

each_two : {A : Type 0} (f : List A → Parser A) (m k : ℕ) (i : Input) → each (m + k) f i ≡ after (each m f i) (behind_them f k)
unfolding ◌>>=◌ each
each_two f m zero i =
    let none : m + 0 ≡ m = omega arith in
    ap (λ n. each n f i) none ∙ none_behind f (each m f i)
each_two f m (suc k) i =
    let one : m + suc k ≡ suc (m + k) = omega arith in
    ap (λ n. each n f i) one
    ∙ ap (λ r. after r (λ zs. f zs >>= (λ x. done (zs ++ x ∷ [])))) (each_two f m k i)
    ∙ more_behind f k (each m f i)

both : {A : Type 0} (f : List A → Parser A) (m k : ℕ) (i : Input) → each (m + k) f i ≡ (each m f >>= behind_them f k) i
unfolding ◌>>=◌
both f m k i = each_two f m k i

pub read_behind : {A : Type 0} (f : List A → Parser A) (m k : ℕ) {s d e : ℕ} {x y z : Told} {xs ys : List A}
    → HasRead (each m f) s x xs d y → HasRead (each_behind xs k f) d y ys e z → HasRead (each (m + k) f) s x (xs ++ ys) e z
read_behind f m k {e = e} {z = z} {xs = xs} {ys = ys} first second =
    read_by (both f m k) (read_then (behind_them f k) first (read_then (λ zs. done (xs ++ zs)) second (read_done (xs ++ ys) e z)))

stops_within : {A : Type 0} (f : List A → Parser A) (m j : ℕ) {s e : ℕ} {x z : Told} {stop : ReadStop} → Stops (each m f) s e x z stop
    → Stops (each (m + j) f) s e x z stop
stops_within f m zero {s = s} {e = e} {x = x} {z = z} {stop = stop} first =
    let none : m ≡ m + 0 = omega arith in
    subst (λ n. Stops (each n f) s e x z stop) none first
stops_within f m (suc j) {s = s} {e = e} {x = x} {z = z} {stop = stop} first =
    let one : suc (m + j) ≡ m + suc j = omega arith in
    subst (λ n. Stops (each n f) s e x z stop) one (stops_later (m + j) f (stops_within f m j first))

-- where one of the values behind can't be had, they all can't
pub exits_behind : {A C D : Type 0} (f : List A → Parser A) (m k n : ℕ) {view : C → List A} {other : D → List A} {s d e u : ℕ} {x y z : Told} {xs : List A}
    {stop : ReadStop} {r : Result D ReadStop}
    → IsErrAnd r (λ w. w ≡ stop) → m + k ≤ n → e ≤ u → HasRead (each m f) s x xs d y → Reads view (each_behind xs k f) d e y z (Err stop)
    → Reads other (each n f) s u x z r
exits_behind f m k n {s = s} {e = e} {u = u} {x = x} {z = z} {xs = xs} {stop = stop} {r = r} is below less first second =
    let q = err_from_is_err_and r is in
    let more : m + k + (n - (m + k)) ≡ n = omega (arith, below) in
    let rest = stops_first (λ zs. done (xs ++ zs)) {e = e} {d = e} (omega arith) second.answer in
    let all = stops_by (both f m k) (stops_then (behind_them f k) first rest) in
    rw (q.1, q.2) (record { answer = subst (λ w. Stops (each w f) s u x z stop) more (stops_within f (m + k) (n - (m + k)) (stops_up less all)) })
