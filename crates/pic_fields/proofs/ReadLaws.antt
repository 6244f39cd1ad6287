-- What calls gave one after another, held against the format that they read.
use Rattle.std.proofs.Common.{◌≡◌, ℕ, ◌+◌, ◌<◌, ◌≤◌, Bool, true, false, List, [], ◌++◌, length, Option, Some}
use Rattle.std.proofs.Common.{None, Result, Ok, Err, IsErrAnd, refl, ap, subst, ◌∙◌, arith, length-append}
use Rattle.std.proofs.lemmas.Result.{err_from_is_err_and}
use Rattle.std.specs.Prelude.{option_map}
use Rattle.pic_io.specs.Told.{Told, Rose, Calm, raised}
use Rattle.pic_io.specs.Source.{with_front}
use Rattle.pic_io.proofs.Takes.{given_twice}
use Rattle.pic_fields.specs.Parser.{Input, Fault, fault, Parser, done, after, ◌>>=◌, mapped, tested_by, checked}
use Rattle.pic_fields.specs.Reads.{Left, Moves, HasRead, Fails, HasReadAll, Stops, Reads, ReadsEnd}
use Rattle.pic_fields.specs.declared.read_stop.ReadStop.{ReadStop}
use Rattle.pic_fields.specs.declared.read_stop.ReadStop.TheVariants.{ReadFault, BadDump}

pub then_ok : {A B : Type 0} (p : Parser A) (f : A → Parser B) (i j : Input) (a : A) → p i ≡ Ok (a, j) → (p >>= f) i ≡ f a j
unfolding ◌>>=◌
then_ok p f i j a e = ap (λ r. after r f) e

pub then_err : {A B : Type 0} (p : Parser A) (f : A → Parser B) (i : Input) (e : Fault) → p i ≡ Err e → (p >>= f) i ≡ Err e
unfolding ◌>>=◌
then_err p f i e is = ap (λ r. after r f) is

-- a source tells some bytes, or any could be left
rest_in : (known : Option (List ℕ)) → (rest : List ℕ) × (known ≡ option_map (λ _. rest) known)
rest_in None = ([], refl)
rest_in (Some bytes) = (bytes, refl)

pub some_rest : (t : Told) → (rest : List ℕ) × Left t rest
some_rest t = rest_in t.bytes

-- a count that stayed and then rose
pub rose_after : (x y z : Told) → Calm x y → Rose y z → Rose x z
rose_after x y z calm rose = subst (λ n. raised n ≤ z.faults) calm rose

-- what was taken by two calls, one after the other
pub moves_then : {s m e : ℕ} {x y z : Told} → Moves s m x y → Moves m e y z → Moves s e x z
moves_then {x = x} {y = y} {z = z} first second =
    let size = length-append first.front second.front in
    let one = first.most in
    let two = second.most in
    record {
      front = first.front ++ second.front;
      moved = given_twice x y z first.front second.front first.moved second.moved;
      most = omega (arith, size, one, two);
    }

pub same_front : (known : Option (List ℕ)) → known ≡ with_front [] known
same_front None = refl
same_front (Some bytes) = refl

-- nothing was taken
pub moves_none : (s : ℕ) (x : Told) → Moves s s x x
moves_none s x = record { front = []; moved = same_front x.bytes; most = omega arith }

pub moves_up : {s e d : ℕ} {x z : Told} → e ≤ d → Moves s e x z → Moves s d x z
moves_up less first = let most = first.most in record { front = first.front; moved = first.moved; most = omega (arith, most, less) }

-- how many bytes that were
pub then_size : {s m e : ℕ} {x y z : Told} (first : Moves s m x y) (second : Moves m e y z)
    → length (moves_then first second).front ≡ length first.front + length second.front
unfolding moves_then
then_size first second = length-append first.front second.front

pub none_size : (s : ℕ) (x : Told) → length (moves_none s x).front ≡ 0
unfolding moves_none
none_size s x = refl

pub up_size : {s e d : ℕ} {x z : Told} (less : e ≤ d) (first : Moves s e x z) → length (moves_up less first).front ≡ length first.front
unfolding moves_up
up_size less first = refl

-- a value, and then another
pub read_then : {A B : Type 0} {p : Parser A} (f : A → Parser B) {s m e : ℕ} {x y z : Told} {a : A} {b : B}
    → HasRead p s x a m y → HasRead (f a) m y b e z → HasRead (p >>= f) s x b e z
read_then f first second = record {
  calm = second.calm ∙ first.calm;
  moves = moves_then first.moves second.moves;
  whole = omega (arith, first.whole, second.whole, then_size first.moves second.moves);
  reads = λ rest left. (let (h2, left2, e2) = second.reads rest left in
      let (h1, left1, e1) = first.reads h2 left2 in
      (h1, left1, then_ok _ f _ _ _ e1 ∙ e2));
}

-- the first part fails
fails_first : {A B : Type 0} {p : Parser A} (f : A → Parser B) {s : ℕ} {x z : Told} {e : Fault} → Fails p s x e z → Fails (p >>= f) s x e z
fails_first f first = record { calm = first.calm; held = first.held; was = first.was; fails = then_err _ f _ _ first.fails }

-- a value, and then a fault
fails_then : {A B : Type 0} {p : Parser A} (f : A → Parser B) {s m : ℕ} {x y z : Told} {a : A} {e : Fault}
    → HasRead p s x a m y → Fails (f a) m y e z → Fails (p >>= f) s x e z
fails_then f first second =
    let (held, was, e1) = first.reads second.held second.was in
    record { calm = second.calm ∙ first.calm; held = held; was = was; fails = then_ok _ f _ _ _ e1 ∙ second.fails }

-- a value, and then the last one
pub ends_then : {A B : Type 0} {p : Parser A} (f : A → Parser B) {s m e : ℕ} {x y z : Told} {a : A} {b : B}
    → HasRead p s x a m y → HasReadAll (f a) m e y b z → HasReadAll (p >>= f) s e x b z
ends_then f first second =
    let (held, was, e1) = first.reads second.held second.was in
    record {
      calm = second.calm ∙ first.calm;
      moves = moves_then first.moves second.moves;
      end = second.end;
      held = held;
      was = was;
      stop = second.stop;
      reads = then_ok _ f _ _ _ e1 ∙ second.reads;
    }

-- a read that failed took no more by further bytes that it might have taken
part_up : {A : Type 0} {p : Parser A} {s e d : ℕ} {x z : Told} {stop : ReadStop} (less : e ≤ d) (h : Stops p s e x z stop) → stop ≡ ReadFault
    → s + length (moves_up less h.moves).front < d
part_up less h same = let part = h.less same in omega (arith, part, less, up_size less h.moves)

-- why a call stopped, where it is the first part, or comes after one
pub stops_first : {A B : Type 0} {p : Parser A} (f : A → Parser B) {s e d : ℕ} {x z : Told} {stop : ReadStop} → e ≤ d → Stops p s e x z stop
    → Stops (p >>= f) s d x z stop
stops_first f {stop = ReadFault} less first = record { why = first.why; moves = moves_up less first.moves; less = part_up less first }
stops_first f {stop = BadDump place cause} less first =
    record { why = fails_first f first.why; moves = moves_up less first.moves; less = λ same. cc }

pub stops_then : {A B : Type 0} {p : Parser A} (f : A → Parser B) {s m e : ℕ} {x y z : Told} {a : A} {stop : ReadStop}
    → HasRead p s x a m y → Stops (f a) m e y z stop → Stops (p >>= f) s e x z stop
stops_then f {x = x} {y = y} {z = z} {stop = ReadFault} first second = record {
  why = rose_after x y z first.calm second.why;
  moves = moves_then first.moves second.moves;
  less = λ same. (let part = second.less same in
      let most = first.moves.most in
      omega (arith, part, most, then_size first.moves second.moves));
}
stops_then f {stop = BadDump place cause} first second =
    record { why = fails_then f first second.why; moves = moves_then first.moves second.moves; less = λ same. cc }

-- a call after a value
pub goes_on : {A B C : Type 0} {p : Parser A} (f : A → Parser B) {view : C → B} {s m e : ℕ} {x y z : Told} {a : A} {r : Result C ReadStop}
    → HasRead p s x a m y → Reads view (f a) m e y z r → Reads view (p >>= f) s e x z r
goes_on f {r = Ok c} first second = record { answer = read_then f first second.answer }
goes_on f {r = Err stop} first second = record { answer = stops_then f first second.answer }

pub goes_on_to_end : {A B C : Type 0} {p : Parser A} (f : A → Parser B) {view : C → B} {s m e : ℕ} {x y z : Told} {a : A} {r : Result C ReadStop}
    → HasRead p s x a m y → ReadsEnd view (f a) m e y z r → ReadsEnd view (p >>= f) s e x z r
goes_on_to_end f {r = Ok c} first second = record { answer = ends_then f first second.answer }
goes_on_to_end f {r = Err stop} first second = record { answer = stops_then f first second.answer }

-- a call that stopped as the first part
pub exits : {A B C D : Type 0} {p : Parser A} (f : A → Parser B) {view : C → A} {other : D → B} {s e d : ℕ} {x z : Told} {stop : ReadStop}
    {r : Result D ReadStop}
    → e ≤ d → IsErrAnd r (λ y. y ≡ stop) → Reads view p s e x z (Err stop) → Reads other (p >>= f) s d x z r
exits f {stop = stop} {r = r} less is first =
    let q = err_from_is_err_and r is in
    rw (q.1, q.2) (record { answer = stops_first f less first.answer })

pub exits_to_end : {A B C D : Type 0} {p : Parser A} (f : A → Parser B) {view : C → A} {other : D → B} {s e d : ℕ} {x z : Told} {stop : ReadStop}
    {r : Result D ReadStop}
    → e ≤ d → IsErrAnd r (λ y. y ≡ stop) → Reads view p s e x z (Err stop) → ReadsEnd other (p >>= f) s d x z r
exits_to_end f {stop = stop} {r = r} less is first =
    let q = err_from_is_err_and r is in
    rw (q.1, q.2) (record { answer = stops_first f less first.answer })

-- a value that takes no bytes
pub read_done : {A : Type 0} (a : A) (s : ℕ) (x : Told) → HasRead (done a) s x a s x
unfolding done
read_done a s x = record { calm = refl; moves = moves_none s x; whole = omega (arith, none_size s x); reads = λ rest left. (rest, left, refl) }

-- a value as another
pub read_as : {A B : Type 0} {p : Parser A} (f : A → B) {s e : ℕ} {x z : Told} {a : A} → HasRead p s x a e z → HasRead (mapped f p) s x (f a) e z
unfolding mapped done
read_as f first = read_then (λ b. done (f b)) first (read_done (f _) _ _)

pub stops_as : {A B : Type 0} {p : Parser A} (f : A → B) {s e : ℕ} {x z : Told} {stop : ReadStop} → Stops p s e x z stop → Stops (mapped f p) s e x z stop
unfolding mapped
stops_as f first = stops_first (λ b. done (f b)) (omega arith) first

pub exits_as : {A B C D : Type 0} {p : Parser A} (f : A → B) {view : C → A} {other : D → B} {s e : ℕ} {x z : Told} {stop : ReadStop} {r : Result D ReadStop}
    → IsErrAnd r (λ y. y ≡ stop) → Reads view p s e x z (Err stop) → Reads other (mapped f p) s e x z r
exits_as f {stop = stop} {r = r} is first =
    let q = err_from_is_err_and r is in
    rw (q.1, q.2) (record { answer = stops_as f first.answer })

pub reads_as : {A B C : Type 0} {p : Parser A} (f : A → B) {view : C → A} {s e : ℕ} {x z : Told} {r : Result C ReadStop}
    → Reads view p s e x z r → Reads (λ c. f (view c)) (mapped f p) s e x z r
reads_as f {r = Ok c} h = record { answer = read_as f h.answer }
reads_as f {r = Err stop} h = record { answer = stops_as f h.answer }

pub reads_up_to : {A C : Type 0} {p : Parser A} {view : C → A} {s d e : ℕ} {x z : Told} {r : Result C ReadStop} → d ≡ e → Reads view p s d x z r
    → Reads view p s e x z r
reads_up_to {p = p} {view = view} {s = s} {x = x} {z = z} {r = r} is h = subst (λ n. Reads view p s n x z r) is h

-- a test that is passed
pub tested_true : {A : Type 0} (place cause : ℕ) (test : A → Bool) (x : A × Input) → test x.0 ≡ true → tested_by place cause test (Ok x) ≡ Ok x
tested_true place cause test x e = rw e refl

tested_false : {A : Type 0} (place cause : ℕ) (test : A → Bool) (x : A × Input) → test x.0 ≡ false → tested_by place cause test (Ok x) ≡ Err (fault place cause)
tested_false place cause test x e = rw e refl

pub passes : {A : Type 0} {p : Parser A} (cause : ℕ) (test : A → Bool) {s e : ℕ} {x z : Told} {a : A}
    → HasRead p s x a e z → test a ≡ true → HasRead (checked cause test p) s x a e z
unfolding checked
passes cause test first is = record {
  calm = first.calm;
  moves = first.moves;
  whole = first.whole;
  reads = λ rest left. (let (held, was, e1) = first.reads rest left in
      (held, was, ap (tested_by _ cause test) e1 ∙ tested_true _ cause test _ is));
}

-- one that is not
refused : {A : Type 0} {p : Parser A} (cause : ℕ) (test : A → Bool) {s e : ℕ} {x z : Told} {a : A}
    → HasRead p s x a e z → test a ≡ false → Fails (checked cause test p) s x (fault s cause) z
unfolding checked
refused cause test {z = z} first is =
    let (rest, left) = some_rest z in
    let (held, was, e1) = first.reads rest left in
    record { calm = first.calm; held = held; was = was; fails = ap (tested_by _ cause test) e1 ∙ tested_false _ cause test _ is }

-- a call that refuses a value
pub refuses : {A : Type 0} {p : Parser A} (cause : ℕ) (test : A → Bool) {s e : ℕ} {x z : Told} {a : A}
    → HasRead p s x a e z → test a ≡ false → Stops (checked cause test p) s e x z (BadDump s cause)
refuses cause test first is = record { why = refused cause test first is; moves = first.moves; less = λ same. cc }

fails_checked : {A : Type 0} {p : Parser A} (cause : ℕ) (test : A → Bool) {s : ℕ} {x z : Told} {e : Fault} → Fails p s x e z
    → Fails (checked cause test p) s x e z
unfolding checked
fails_checked cause test first = record { calm = first.calm; held = first.held; was = first.was; fails = ap (tested_by _ cause test) first.fails }

pub stops_checked : {A : Type 0} {p : Parser A} (cause : ℕ) (test : A → Bool) {s e : ℕ} {x z : Told} {stop : ReadStop}
    → Stops p s e x z stop → Stops (checked cause test p) s e x z stop
stops_checked cause test {stop = ReadFault} first = record { why = first.why; moves = first.moves; less = first.less }
stops_checked cause test {stop = BadDump place c} first =
    record { why = fails_checked cause test first.why; moves = first.moves; less = first.less }

pub exits_checked : {A C D : Type 0} {p : Parser A} (cause : ℕ) (test : A → Bool) {view : C → A} {other : D → A} {s e : ℕ} {x z : Told} {stop : ReadStop}
    {r : Result D ReadStop}
    → IsErrAnd r (λ y. y ≡ stop) → Reads view p s e x z (Err stop) → Reads other (checked cause test p) s e x z r
exits_checked cause test {stop = stop} {r = r} is first =
    let q = err_from_is_err_and r is in
    rw (q.1, q.2) (record { answer = stops_checked cause test first.answer })

-- further bytes that a call doesn't take
pub stops_up : {A : Type 0} {p : Parser A} {s e d : ℕ} {x z : Told} {stop : ReadStop} → e ≤ d → Stops p s e x z stop → Stops p s d x z stop
stops_up less h = record { why = h.why; moves = moves_up less h.moves; less = part_up less h }

pub ended_up : {A : Type 0} {p : Parser A} {s e d : ℕ} {x z : Told} {a : A} → e ≤ d → HasReadAll p s e x a z → HasReadAll p s d x a z
ended_up less h = record { calm = h.calm; moves = moves_up less h.moves; end = h.end; held = h.held; was = h.was; stop = h.stop; reads = h.reads }

pub ends_up : {A C : Type 0} {p : Parser A} {view : C → A} {s e d : ℕ} {x z : Told} {r : Result C ReadStop} → e ≤ d → ReadsEnd view p s e x z r
    → ReadsEnd view p s d x z r
ends_up {r = Ok c} less h = record { answer = ended_up less h.answer }
ends_up {r = Err stop} less h = record { answer = stops_up less h.answer }

-- another spelling of the value, of the end, or of the start
pub read_same : {A : Type 0} {p : Parser A} {s e : ℕ} {x z : Told} {a b : A} → a ≡ b → HasRead p s x a e z → HasRead p s x b e z
read_same {p = p} {s = s} {e = e} {x = x} {z = z} is first = subst (λ c. HasRead p s x c e z) is first

pub read_up_to : {A : Type 0} {p : Parser A} {s d e : ℕ} {x z : Told} {a : A} → d ≡ e → HasRead p s x a d z → HasRead p s x a e z
read_up_to {p = p} {s = s} {x = x} {z = z} {a = a} is first = subst (λ n. HasRead p s x a n z) is first
