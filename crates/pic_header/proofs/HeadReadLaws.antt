-- Calls that read parts of the header one after another.
use Rattle.std.proofs.Common.{◌≡◌, ℕ, List, ◌<◌, ◌≤◌, Result, Ok, Err, IsErrAnd, subst, ◌∙◌}
use Rattle.std.proofs.lemmas.Result.{err_from_is_err_and}
use Rattle.pic_io.specs.Told.{Told, Calm}
use Rattle.pic_fields.specs.declared.read_stop.ReadStop.{ReadStop}
use Rattle.pic_fields.specs.Parser.{Parser, ◌>>=◌, each}
use Rattle.pic_fields.specs.Reads.{Moves, HasRead, Reads}
use Rattle.pic_fields.proofs.ReadLaws.{moves_then, moves_up, read_then, stops_first, stops_then, stops_up}
use Rattle.pic_fields.proofs.EachLaws.{stops_among}
use Rattle.pic_header.specs.declared.head_stop.HeadStop.{HeadStop}
use Rattle.pic_header.specs.declared.head_stop.HeadStop.TheVariants.{Read, NoMemory}
use Rattle.pic_header.specs.HeadReads.{HeadReads}

-- a call after a value
pub head_goes_on : {A B C : Type 0} {p : Parser A} (f : A → Parser B) {view : C → B} {s m e : ℕ} {end : B → ℕ} {x y z : Told} {a : A} {r : Result C HeadStop}
    → HasRead p s x a m y → HeadReads view (f a) m end e y z r → HeadReads view (p >>= f) s end e x z r
head_goes_on f {r = Ok c} first second = record { answer = read_then f first second.answer }
head_goes_on f {r = Err (Read stop)} first second = record { answer = stops_then f first second.answer }
head_goes_on f {r = Err NoMemory} first second =
    record { answer = record { calm = second.answer.calm ∙ first.calm; moves = moves_then first.moves second.answer.moves } }

-- a call that stopped
pub head_exits : {A B C D : Type 0} {p : Parser A} (f : A → Parser B) {view : C → A} {other : D → B} {s e d : ℕ} {end : B → ℕ} {x z : Told} {stop : ReadStop}
    {r : Result D HeadStop}
    → e ≤ d → IsErrAnd r (λ y. y ≡ Read stop) → Reads view p s e x z (Err stop) → HeadReads other (p >>= f) s end d x z r
head_exits f {stop = stop} {r = r} less is first =
    let q = err_from_is_err_and r is in
    rw (q.1, q.2) (record { answer = stops_first f less first.answer })

-- the same for one that takes memory
stays : {A B C D : Type 0} {p : Parser A} (f : A → Parser B) {view : C → A} {other : D → B} {s e d : ℕ} {to : A → ℕ} {end : B → ℕ} {x z : Told}
    (stop : HeadStop)
    → e ≤ d → HeadReads view p s to e x z (Err stop) → HeadReads other (p >>= f) s end d x z (Err stop)
stays f (Read stop) less first = record { answer = stops_first f less first.answer }
stays f NoMemory less first = record { answer = record { calm = first.answer.calm; moves = moves_up less first.answer.moves } }

pub head_passes_on : {A B C D : Type 0} {p : Parser A} (f : A → Parser B) {view : C → A} {other : D → B} {s e d : ℕ} {to : A → ℕ} {end : B → ℕ} {x z : Told}
    {stop : HeadStop} {r : Result D HeadStop}
    → e ≤ d → IsErrAnd r (λ y. y ≡ stop) → HeadReads view p s to e x z (Err stop) → HeadReads other (p >>= f) s end d x z r
head_passes_on f {stop = stop} {r = r} less is first =
    let q = err_from_is_err_and r is in
    rw (q.1, q.2) (stays f stop less first)

-- a call that stopped as another of the same part did
same_stops : {A C D : Type 0} {p : Parser A} {view : C → A} {other : D → A} {s e d : ℕ} {to end : A → ℕ} {x z : Told} (stop : HeadStop)
    → e ≤ d → HeadReads view p s to e x z (Err stop) → HeadReads other p s end d x z (Err stop)
same_stops (Read stop) less first = record { answer = stops_up less first.answer }
same_stops NoMemory less first = record { answer = record { calm = first.answer.calm; moves = moves_up less first.answer.moves } }

pub head_stops_as : {A C D : Type 0} {p : Parser A} {view : C → A} {other : D → A} {s e d : ℕ} {to end : A → ℕ} {x z : Told} {stop : HeadStop}
    {r : Result D HeadStop}
    → e ≤ d → IsErrAnd r (λ y. y ≡ stop) → HeadReads view p s to e x z (Err stop) → HeadReads other p s end d x z r
head_stops_as {stop = stop} {r = r} less is first =
    let q = err_from_is_err_and r is in
    rw (q.1, q.2) (same_stops stop less first)

-- want of memory
pub head_starves : {A D : Type 0} (p : Parser A) {other : D → A} {s d : ℕ} {end : A → ℕ} {x z : Told} {r : Result D HeadStop}
    → IsErrAnd r (λ y. y ≡ NoMemory) → Calm x z → Moves s d x z → HeadReads other p s end d x z r
head_starves p {r = r} is calm moves =
    let q = err_from_is_err_and r is in
    rw (q.1, q.2) (record { answer = record { calm = calm; moves = moves } })

-- further bytes that a call doesn't take
pub head_up : {A C : Type 0} {p : Parser A} {view : C → A} {s e d : ℕ} {end : A → ℕ} {x z : Told} {r : Result C HeadStop} → e ≤ d
    → HeadReads view p s end e x z r → HeadReads view p s end d x z r
head_up {r = Ok c} less h = record { answer = h.answer }
head_up {r = Err (Read stop)} less h = record { answer = stops_up less h.answer }
head_up {r = Err NoMemory} less h = record { answer = record { calm = h.answer.calm; moves = moves_up less h.answer.moves } }

-- another spelling of a part
pub head_by : {A C : Type 0} {p q : Parser A} {view : C → A} {s e : ℕ} {end : A → ℕ} {x z : Told} {r : Result C HeadStop} → p ≡ q
    → HeadReads view p s end e x z r → HeadReads view q s end e x z r
head_by {A = A} {view = view} {s = s} {e = e} {end = end} {x = x} {z = z} {r = r} is h = subst (λ (t : Parser A). HeadReads view t s end e x z r) is h

-- one of several
stays_among : {A C D : Type 0} (n i : ℕ) (f : List A → Parser A) {view : C → A} {other : D → List A} {s m e d : ℕ} {to : A → ℕ} {end : List A → ℕ}
    {x y z : Told} {xs : List A} (stop : HeadStop)
    → i < n → e ≤ d → HasRead (each i f) s x xs m y → HeadReads view (f xs) m to e y z (Err stop) → HeadReads other (each n f) s end d x z (Err stop)
stays_among n i f (Read stop) below less first second = record { answer = stops_among n i f below less first second.answer }
stays_among n i f NoMemory below less first second =
    record { answer = record { calm = second.answer.calm ∙ first.calm; moves = moves_up less (moves_then first.moves second.answer.moves) } }

pub head_among : {A C D : Type 0} (n i : ℕ) (f : List A → Parser A) {view : C → A} {other : D → List A} {s m e d : ℕ} {to : A → ℕ} {end : List A → ℕ}
    {x y z : Told} {xs : List A} {stop : HeadStop}
    {r : Result D HeadStop} → IsErrAnd r (λ u. u ≡ stop) → i < n → e ≤ d → HasRead (each i f) s x xs m y → HeadReads view (f xs) m to e y z (Err stop)
    → HeadReads other (each n f) s end d x z r
head_among n i f {stop = stop} {r = r} is below less first second =
    let q = err_from_is_err_and r is in
    rw (q.1, q.2) (stays_among n i f stop below less first second)

-- the same for values that take no memory
pub read_among : {A C D : Type 0} (n i : ℕ) (f : List A → Parser A) {view : C → A} {other : D → List A} {s m e d : ℕ} {end : List A → ℕ}
    {x y z : Told} {xs : List A} {stop : ReadStop} {r : Result D HeadStop}
    → IsErrAnd r (λ u. u ≡ Read stop) → i < n → e ≤ d → HasRead (each i f) s x xs m y → Reads view (f xs) m e y z (Err stop)
    → HeadReads other (each n f) s end d x z r
read_among n i f {stop = stop} {r = r} is below less first second =
    let q = err_from_is_err_and r is in
    rw (q.1, q.2) (record { answer = stops_among n i f below less first second.answer })
