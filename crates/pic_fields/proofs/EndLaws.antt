-- The end of the bytes, with a value that was read before it.
use Rattle.std.proofs.Common.{◌≡◌, ℕ, List, [], ◌∷◌, Result, Ok, Err, IsErrAnd, refl, ap, ◌∙◌}
use Rattle.std.proofs.lemmas.Result.{err_from_is_err_and}
use Rattle.pic_io.specs.Told.{Told}
use Rattle.pic_fields.specs.declared.read_stop.ReadStop.{ReadStop}
use Rattle.pic_fields.specs.declared.read_stop.ReadStop.TheVariants.{ReadFault, BadDump}
use Rattle.pic_fields.specs.Parser.{Input, Fault, Parsed, ended, finished}
use Rattle.pic_fields.specs.Reads.{HasReadAll, Fails, Stops, ReadsEnd, as_it_is}

-- another value in the place of none
abbrev swap : {A : Type 0} → A → Parsed (Unit {0}) → Parsed A
swap a (Ok x) = Ok (a, x.1)
swap a (Err e) = Err e

ended_as : {A : Type 0} (a : A) (place : ℕ) (bytes : List ℕ) → ended a place bytes ≡ swap a (ended (tt {0}) place bytes)
ended_as a place [] = refl
ended_as a place (b ∷ bytes) = refl

finished_as : {A : Type 0} (a : A) (i : Input) → finished a i ≡ swap a (finished (tt {0}) i)
unfolding finished
finished_as a i = ended_as a i.place i.bytes

pub ends_with : {A : Type 0} (a : A) {s e : ℕ} {x z : Told} → HasReadAll (finished (tt {0})) s e x (tt {0}) z → HasReadAll (finished a) s e x a z
ends_with a h = record { calm = h.calm; moves = h.moves; end = h.end; held = h.held; was = h.was; stop = h.stop; reads = finished_as a _ ∙ ap (swap a) h.reads }

fails_with : {A : Type 0} (a : A) {s : ℕ} {x z : Told} {f : Fault} → Fails (finished (tt {0})) s x f z → Fails (finished a) s x f z
fails_with a e = record { calm = e.calm; held = e.held; was = e.was; fails = finished_as a _ ∙ ap (swap a) e.fails }

stops_with : {A : Type 0} (a : A) {s e : ℕ} {x z : Told} {stop : ReadStop} → Stops (finished (tt {0})) s e x z stop → Stops (finished a) s e x z stop
stops_with a {stop = ReadFault} h = record { why = h.why; moves = h.moves; less = h.less }
stops_with a {stop = BadDump place cause} h = record { why = fails_with a h.why; moves = h.moves; less = h.less }

pub exits_at_end : {A D : Type 0} (a : A) {other : D → A} {s e : ℕ} {x z : Told} {stop : ReadStop} {r : Result D ReadStop}
    → IsErrAnd r (λ y. y ≡ stop) → ReadsEnd as_it_is (finished (tt {0})) s e x z (Err stop) → ReadsEnd other (finished a) s e x z r
exits_at_end a {stop = stop} {r = r} is h =
    let q = err_from_is_err_and r is in
    rw (q.1, q.2) (record { answer = stops_with a h.answer })
