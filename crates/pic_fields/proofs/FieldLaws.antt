-- A field of bytes, from what filling a room gave.
use Rattle.std.proofs.Common.{◌≡◌, ℕ, ◌+◌, ◌<◌, ◌≤◌, List, [], ◌∷◌, ◌++◌, length, take, Option, Some, None, Result}
use Rattle.std.proofs.Common.{Ok, Err, IsErrAnd, refl, sym, ap, subst, ◌∙◌, arith, append-nil, length-append, ◌≢◌}
use Rattle.std.specs.Prelude.{option_map}
use Rattle.std.proofs.lemmas.Bool.{lt-ltb, le-ltb}
use Rattle.std.proofs.Math.Seq.{take-append_seam, drop-append_seam}
use Rattle.std.proofs.lemmas.List.{take_all, length-take-le}
use Rattle.std.proofs.lemmas.Result.{err_from_is_err_and}
use Rattle.pic_io.specs.Told.{Told}
use Rattle.pic_io.specs.Source.{with_front, IsAtEnd}
use Rattle.pic_fields.specs.Parser.{input, fault, Parser, field, cut_short, too_many, finished}
use Rattle.pic_fields.specs.Reads.{Left, Moves, HasRead, Fails, HasReadAll, Stops, Reads, ReadsEnd}
use Rattle.pic_fields.specs.Fills.{Filled, Fills}
use Rattle.pic_fields.specs.declared.read_stop.ReadStop.{ReadStop}
use Rattle.pic_fields.specs.declared.read_stop.ReadStop.TheVariants.{ReadFault, BadDump}
use Rattle.pic_fields.proofs.ReadLaws.{some_rest}

-- what was left before some bytes were taken
pub left_before : (before now : Option (List ℕ)) (front rest : List ℕ) → before ≡ with_front front now → now ≡ option_map (λ _. rest) now
    → before ≡ option_map (λ _. front ++ rest) before
left_before before None front rest taken left = taken ∙ ap (option_map (λ _. front ++ rest)) (sym taken)
left_before before (Some bytes) front rest taken left =
    taken ∙ ap (λ o. with_front front o) left ∙ ap (option_map (λ _. front ++ rest)) (sym taken)

-- a field of all of some bytes, with more behind them
pub field_is : (place : ℕ) (front rest : List ℕ) → field (length front) (input place (front ++ rest)) ≡ Ok (front, input (place + length front) rest)
unfolding field
field_is place front rest =
    let long : length front ≤ length (front ++ rest) = omega (arith, length-append front rest) in
    rw (le-ltb (length (front ++ rest)) (length front) long) (rw (take-append_seam front rest) (rw (drop-append_seam front rest) refl))

field_cut : (place : ℕ) (bytes : List ℕ) (n : ℕ) → length bytes < n → field n (input place bytes) ≡ Err (fault (place + length bytes) cut_short)
unfolding field
field_cut place bytes n short = rw (lt-ltb (length bytes) n short) refl

-- what filling a room took
pub filled_moves : (before now : Told) (room : List ℕ) (n place count : ℕ) → length room ≡ n → Filled before now room count → Moves place (place + n) before now
filled_moves before now room n place count is filled =
    let most = filled.most in
    let size = length-take-le count room most in
    record { front = take count room; moved = filled.taken; most = omega (arith, size, most, is) }

pub filled_size : (before now : Told) (room : List ℕ) (n place count : ℕ) (is : length room ≡ n) (filled : Filled before now room count)
    → length (filled_moves before now room n place count is filled).front ≡ count
unfolding filled_moves
filled_size before now room n place count is filled = let most = filled.most in length-take-le count room most

pub read_field : (before now : Told) (room : List ℕ) (n place count : ℕ) → length room ≡ n → Filled before now room count → n ≤ count
    → HasRead (field n) place before room (place + n) now
read_field before now room n place count is filled all =
    let whole : take count room ≡ room = take_all count room (omega (arith, is, all)) in
    let taken = filled.taken ∙ ap (λ l. with_front l now.bytes) whole in
    subst (λ m. HasRead (field m) place before room (place + m) now) is (record {
      calm = filled.calm;
      moves = filled_moves before now room (length room) place count refl filled;
      whole = omega (arith, filled.most, is, all, filled_size before now room (length room) place count refl filled);
      reads = λ rest left. (room ++ rest, left_before before.bytes now.bytes room rest taken left, field_is place room rest);
    })

-- filling a room failed
pub stops_filling : {A : Type 0} {p : Parser A} {s e : ℕ} {x z : Told} (room : List ℕ) (stop : ReadStop) → s + length room ≤ e → Fills x z room (Err stop)
    → Stops p s e x z stop
stops_filling room ReadFault fits breaks =
    let part = breaks.less in
    record {
      why = breaks.rose;
      moves = record { front = breaks.front; moved = breaks.moved; most = omega (arith, part, fits) };
      less = λ same. omega (arith, part, fits);
    }
stops_filling room (BadDump place cause) fits breaks = absurd breaks

pub exits_filling : {A D : Type 0} {p : Parser A} {other : D → A} {s e : ℕ} {x z : Told} {r : Result D ReadStop} (room : List ℕ) (stop : ReadStop)
    → s + length room ≤ e → IsErrAnd r (λ y. y ≡ stop) → Fills x z room (Err stop) → Reads other p s e x z r
exits_filling {r = r} room stop fits is breaks =
    let q = err_from_is_err_and r is in
    rw (q.1, q.2) (record { answer = stops_filling room stop fits breaks })

pub exits_filling_end : {A D : Type 0} {p : Parser A} {other : D → A} {s e : ℕ} {x z : Told} {r : Result D ReadStop} (room : List ℕ) (stop : ReadStop)
    → s + length room ≤ e → IsErrAnd r (λ y. y ≡ stop) → Fills x z room (Err stop) → ReadsEnd other p s e x z r
exits_filling_end {r = r} room stop fits is breaks =
    let q = err_from_is_err_and r is in
    rw (q.1, q.2) (record { answer = stops_filling room stop fits breaks })

-- what was taken is all there was
pub all_taken : (before now : Told) (front : List ℕ) → before.bytes ≡ with_front front now.bytes → IsAtEnd now → Left before front
all_taken before now front taken end =
    left_before before.bytes now.bytes front [] taken end ∙ ap (λ l. option_map (λ _. l) before.bytes) (append-nil front)

pub fails_field : (before now : Told) (room : List ℕ) (n place count : ℕ) → length room ≡ n → Filled before now room count → count < n
    → Fails (field n) place before (fault (place + count) cut_short) now
fails_field before now room n place count is filled short =
    let held = take count room in
    let size : length held ≡ count = length-take-le count room (omega (arith, is, short)) in
    let end = filled.end (omega (arith, is, short)) in
    record {
      calm = filled.calm;
      held = held;
      was = all_taken before now held filled.taken end;
      fails = field_cut place held n (omega (arith, size, short)) ∙ ap (λ k. Err (fault (place + k) cut_short)) size;
    }

pub ends_here : (before now : Told) (room : List ℕ) (place count : ℕ) → length room ≡ 1 → Filled before now room count → count ≡ 0
    → HasReadAll (finished (tt {0})) place (place + 1) before (tt {0}) now
unfolding finished
ends_here before now room place count is filled none =
    let end = filled.end (omega (arith, is, none)) in
    let nothing : take count room ≡ [] = rw none refl in
    record {
      calm = filled.calm;
      moves = filled_moves before now room 1 place count is filled;
      end = end;
      held = [];
      was = all_taken before now [] (filled.taken ∙ ap (λ l. with_front l now.bytes) nothing) end;
      stop = place;
      reads = refl;
    }

one_byte : (room : List ℕ) → length room ≡ 1 → (b : ℕ) × (room ≡ b ∷ [])
one_byte [] is = absurd (omega (arith, is))
one_byte (b ∷ []) is = (b, refl)
one_byte (b ∷ (c ∷ bytes)) is = absurd (omega (arith, is))

pub more_here : (before now : Told) (room : List ℕ) (place count : ℕ) → length room ≡ 1 → Filled before now room count → count ≢ 0
    → Fails (finished (tt {0})) place before (fault place too_many) now
unfolding finished
more_here before now room place count is filled some =
    let (rest, left) = some_rest now in
    let (b, one) = one_byte room is in
    let whole : take count room ≡ room = take_all count room (omega (arith, is, some)) in
    record {
      calm = filled.calm;
      held = b ∷ rest;
      was = left_before before.bytes now.bytes (b ∷ []) rest (filled.taken ∙ ap (λ l. with_front l now.bytes) (whole ∙ one)) left;
      fails = refl;
    }
