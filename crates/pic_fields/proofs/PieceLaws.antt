-- What is read from a piece that was taken ahead is what the source would have given.
use Rattle.std.proofs.Common.{◌≡◌, ℕ, ◌+◌, ◌≤◌, List, [], ◌∷◌, ◌++◌, length, take, Some, Result, Ok, Err, inl, inr, refl, ap, subst, ◌∙◌, arith, length-append}
use Rattle.std.specs.Prelude.{option_map}
use Rattle.std.proofs.lemmas.Bool.{cases_lt}
use Rattle.std.proofs.lemmas.List.{length-take-le}
use Rattle.pic_io.specs.Told.{Told}
use Rattle.pic_io.specs.Source.{with_front}
use Rattle.pic_fields.specs.declared.read_stop.ReadStop.{ReadStop}
use Rattle.pic_fields.specs.declared.read_stop.ReadStop.TheVariants.{ReadFault, BadDump}
use Rattle.pic_fields.specs.Parser.{Parser, Fault, input}
use Rattle.pic_fields.specs.Reads.{HasRead, Fails, Stops, Reads}
use Rattle.pic_fields.specs.Fills.{Filled}
use Rattle.pic_fields.specs.Pieces.{piece_told}
use Rattle.pic_fields.proofs.ReadLaws.{some_rest, moves_up, up_size}
use Rattle.pic_fields.proofs.FieldLaws.{left_before, all_taken, filled_moves, filled_size}
use Rattle.pic_fields.proofs.LengthLaws.{behind, Leaves, IsOfLength}

-- what a piece told is what it held
piece_held : (bytes held : List ℕ) → Some bytes ≡ option_map (λ _. held) (Some bytes) → held ≡ bytes
piece_held bytes held was = cc

-- and what was taken of it and what is left are all of it
piece_parts : (bytes front left : List ℕ) → Some bytes ≡ with_front front (Some left) → length bytes ≡ length front + length left
piece_parts bytes front left is =
    let same : bytes ≡ front ++ left = cc in
    ap (λ (l : List ℕ). length l) same ∙ length-append front left

none_left : (xs : List ℕ) → length xs ≡ 0 → xs ≡ []
none_left [] is = refl
none_left (x ∷ xs) is = absurd (omega (arith, is))

-- a value
pub read_piece : {A : Type 0} {p : Parser A} {s e : ℕ} {x z : Told} {a : A} (n count : ℕ) (room left : List ℕ)
    → IsOfLength p n → length room ≡ n → s + n ≤ e → Filled x z room count → HasRead p s (piece_told (take count room)) a e (piece_told left)
    → HasRead p s x a e z
read_piece {p = p} {s = s} {e = e} {x = x} {z = z} {a = a} n count room left sized size fits filled read =
    let bytes = take count room in
    let (held, was, read_held) = read.reads left refl in
    let is = subst (λ b. p (input s b) ≡ Ok (a, input e left)) (piece_held bytes held was) read_held in
    let leaves : length left + n ≡ length bytes = subst (Leaves n (length bytes)) is (sized.leaves (input s bytes)) in
    let most = filled.most in
    let long = length-take-le count room most in
    let none = none_left left (omega (arith, leaves, long, most, size)) in
    let parts = piece_parts bytes read.moves.front left read.moves.moved in
    let taken = filled_moves x z room n s count size filled in
    let sizes : length (moves_up fits taken).front ≡ count = up_size fits taken ∙ filled_size x z room n s count size filled in
    record {
      calm = filled.calm;
      moves = moves_up fits taken;
      whole = omega (arith, leaves, long, most, size, read.whole, parts, sizes);
      reads = λ rest after. (
        bytes ++ rest,
        left_before x.bytes z.bytes bytes rest filled.taken after,
        sized.same (input s bytes) rest (omega (arith, leaves))
            ∙ ap (behind rest) is
            ∙ ap (λ l. Ok (a, input e (l ++ rest))) none,
      );
    }

-- a fault
fails_piece : {A : Type 0} {p : Parser A} {s : ℕ} {x z : Told} {f : Fault} (n count : ℕ) (room left : List ℕ)
    → IsOfLength p n → length room ≡ n → Filled x z room count → Fails p s (piece_told (take count room)) f (piece_told left) → Fails p s x f z
fails_piece {p = p} {s = s} {x = x} {z = z} {f = f} n count room left sized size filled fails =
    let bytes = take count room in
    let is = subst (λ b. p (input s b) ≡ Err f) (piece_held bytes fails.held fails.was) fails.fails in
    let most = filled.most in
    let long = length-take-le count room most in
    elim (cases_lt count n) [
      | inl short ↦ record {
        calm = filled.calm;
        held = bytes;
        was = all_taken x z bytes filled.taken (filled.end (omega (arith, short, size)));
        fails = is;
      }
      | inr whole ↦ (let (rest, after) = some_rest z in
          record {
            calm = filled.calm;
            held = bytes ++ rest;
            was = left_before x.bytes z.bytes bytes rest filled.taken after;
            fails = sized.same (input s bytes) rest (omega (arith, long, whole)) ∙ ap (behind rest) is;
          })
    ]

stops_piece : {A : Type 0} {p : Parser A} {s d e : ℕ} {x z : Told} {stop : ReadStop} (n count : ℕ) (room left : List ℕ)
    → IsOfLength p n → length room ≡ n → s + n ≤ e → Filled x z room count → Stops p s d (piece_told (take count room)) (piece_told left) stop
    → Stops p s e x z stop
stops_piece {stop = ReadFault} n count room left sized size fits filled stops = absurd (let why = stops.why in omega (arith, why))
stops_piece {s = s} {x = x} {z = z} {stop = BadDump place cause} n count room left sized size fits filled stops = record {
  why = fails_piece n count room left sized size filled stops.why;
  moves = moves_up fits (filled_moves x z room n s count size filled);
  less = λ same. cc;
}

-- a call that reads from a piece of n bytes, which is cut only at the end of the input
pub reads_piece : {A C : Type 0} {p : Parser A} {view : C → A} {s e : ℕ} {x z : Told} {r : Result C ReadStop} (n count : ℕ) (room left : List ℕ)
    → IsOfLength p n → length room ≡ n → s + n ≤ e → Filled x z room count → Reads view p s e (piece_told (take count room)) (piece_told left) r
    → Reads view p s e x z r
reads_piece {r = Ok c} n count room left sized size fits filled reads =
    record { answer = read_piece n count room left sized size fits filled reads.answer }
reads_piece {r = Err stop} n count room left sized size fits filled reads =
    record { answer = stops_piece n count room left sized size fits filled reads.answer }
