-- A path that is put on the report in pieces.
use Rattle.std.proofs.Common.{◌≡◌, ℕ, ◌<◌, List, [], ◌∷◌, ◌++◌, length, get_or, take, drop, map, Result, refl, sym, ap, ◌∙◌, subst, append_assoc}
use Rattle.std.proofs.lemmas.List.{map-append, take-append-drop, take_more, length_push}
use Rattle.pic_io.specs.declared.side.Side.{Side}
use Rattle.pic_io.specs.Told.{Told}
use Rattle.pic_io.specs.Sinks.{LineCut, WritesLine}
use Rattle.pic_io.proofs.Puts.{appended_none, appended_twice, line_cut_after, line_cut_more, lines_after}
use Rattle.pic_deck.specs.declared.refusal.Refusal.{Refusal}
use Rattle.pic_report.specs.Lines.{printed_char, refused_line}
use Rattle.pic_report.specs.Piece.{HasPut}

-- a list of which each element stays as it is
pub map_same : (xs : List ℕ) → map (λ x. x) xs ≡ xs
map_same [] = refl
map_same (x ∷ xs) = ap (λ ys. x ∷ ys) (map_same xs)

-- one character more of a list
pub more_prefix : (cs ys : List ℕ) (c : ℕ) → ys ≡ take (length ys) cs → (length ys < length cs) × (c ≡ get_or cs (length ys) c)
    → ys ++ c ∷ [] ≡ take (length (ys ++ c ∷ [])) cs
more_prefix cs ys c e t =
    ap (λ zs. zs ++ c ∷ []) e
    ∙ ap (λ d. take (length ys) cs ++ d ∷ []) t.1
    ∙ sym (take_more cs (length ys) c t.0)
    ∙ ap (λ n. take n cs) (sym (length_push ys c))

-- nothing was put yet
pub none_put : (a : Told) (piece : List ℕ) → HasPut a a piece piece
none_put a piece = record { done = []; put = appended_none a; calm = refl; all = refl }

-- one part of the text after another
pub put_twice : (a b e : Told) (piece next text : List ℕ) → HasPut a b piece text → HasPut b e next piece → HasPut a e next text
put_twice a b e piece next text first second = record {
  done = first.done ++ second.done;
  put = appended_twice a b e first.done second.done first.put second.put;
  calm = second.calm ∙ first.calm;
  all = append_assoc first.done second.done next ∙ ap (λ t. first.done ++ t) second.all ∙ first.all;
}

-- the piece takes more of the text
pub put_later : (a b : Told) (piece text more : List ℕ) → HasPut a b piece text → HasPut a b (piece ++ more) (text ++ more)
put_later a b piece text more has = record {
  done = has.done;
  put = has.put;
  calm = has.calm;
  all = sym (append_assoc has.done piece more) ∙ ap (λ t. t ++ more) has.all;
}

-- the characters so far, and one more
pub printed_more : (head ys : List ℕ) (c : ℕ) → (head ++ map printed_char ys) ++ printed_char c ∷ [] ≡ head ++ map printed_char (ys ++ c ∷ [])
printed_more head ys c =
    append_assoc head (map printed_char ys) (printed_char c ∷ []) ∙ ap (λ t. head ++ t) (sym (map-append printed_char ys (c ∷ [])))

-- the last piece
pub put_rest : {T : Type 0} (a b e : Told) (piece text : List ℕ) (result : Result T Side) → HasPut a b piece text → WritesLine b e piece result
    → WritesLine a e text result
put_rest a b e piece text result has last =
    subst (λ (t : List ℕ). WritesLine a e t result) has.all (lines_after a b e has.done piece result (has.put, has.calm) last)

-- a piece that was cut
pub put_cut : (side : Side) (a b e : Told) (piece head cs ys : List ℕ) → ys ≡ take (length ys) cs → HasPut a b piece (head ++ map printed_char ys)
    → LineCut side b e piece → LineCut side a e (head ++ map printed_char cs)
put_cut side a b e piece head cs ys prefix has cut =
    let n = length ys in
    let rest = map printed_char (drop n cs) in
    let all : map printed_char ys ++ rest ≡ map printed_char cs =
    sym (map-append printed_char ys (drop n cs)) ∙ ap (map printed_char) (ap (λ zs. zs ++ drop n cs) prefix ∙ take-append-drop n cs) in
    let front = subst (LineCut side a e) has.all (line_cut_after side a b e has.done piece (has.put, has.calm) cut) in
    subst (LineCut side a e) (append_assoc head (map printed_char ys) rest ∙ ap (λ t. head ++ t) all)
    (line_cut_more side a e (head ++ map printed_char ys) rest front)

-- the line of a refusal, by another name of it
pub line_as : {T : Type 0} (a b : Told) (r q : Refusal) (result : Result T Side) → r ≡ q → WritesLine a b (refused_line q) result
    → WritesLine a b (refused_line r) result
line_as a b r q result is line = subst (λ (refusal : Refusal). WritesLine a b (refused_line refusal) result) (sym is) line
