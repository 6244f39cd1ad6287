-- Texts that are handed in one after another, with a room before the sink.
use Rattle.std.proofs.Common.{◌≡◌, ℕ, ◌+◌, ◌<◌, List, [], ◌∷◌, ◌++◌, length, get_or, take, drop, Result, Ok, Err}
use Rattle.std.proofs.Common.{ap, sym, subst, ◌∙◌, append_assoc, append-nil, take-append-drop}
use Rattle.std.specs.Prelude.{flat_map}
use Rattle.std.proofs.Math.Seq.{take-add}
use Rattle.std.proofs.lemmas.Grind.{flat_map-append}
use Rattle.std.proofs.lemmas.List.{take_more}
use Rattle.pic_io.specs.Told.{Told}
use Rattle.pic_io.specs.Sink.{AppendedFront, Puts}
use Rattle.pic_io.proofs.Puts.{appended_twice, front_after, front_of_more, puts_after}
use Rattle.pic_record.specs.Queues.{Queued, Queues}

-- a text pushed into the room
pub queued_push : (a b : Told) (w x s : List ℕ) → Queued a b w x [] → Queued a b w (x ++ s) s
queued_push a b w x s q = record {
  part = q.part;
  put = q.put;
  whole = sym (append_assoc q.part x s) ∙ ap (λ l. l ++ s) (q.whole ∙ append-nil w);
}

-- what was put and what waits, with one text more
whole_then : {a b : Told} (w x s t : List ℕ) (q : Queued a b w x s) → q.part ++ (x ++ t) ≡ w ++ (s ++ t)
whole_then w x s t q = sym (append_assoc q.part x t) ∙ ap (λ l. l ++ t) q.whole ∙ append_assoc w s t

pub queued_then : (a b c : Told) (w x y s t : List ℕ) → Queued a b w x s → Queued b c x y t → Queued a c w y (s ++ t)
queued_then a b c w x y s t first second = record {
  part = first.part ++ second.part;
  put = appended_twice a b c first.part second.part first.put second.put;
  whole = append_assoc first.part second.part y ∙ ap (λ l. first.part ++ l) second.whole ∙ whole_then w x s t first;
}

-- a text that is cut after one that was handed in
pub queued_cut : (a b c : Told) (w x s t : List ℕ) → Queued a b w x s → AppendedFront b c (x ++ t) → AppendedFront a c (w ++ (s ++ t))
queued_cut a b c w x s t first cut =
    subst (AppendedFront a c) (whole_then w x s t first) (front_after a b c first.part (x ++ t) first.put cut)

-- a text that is cut, with more behind it
pub cut_more : (a b : Told) (w s t : List ℕ) → AppendedFront a b (w ++ s) → AppendedFront a b (w ++ (s ++ t))
cut_more a b w s t cut = subst (AppendedFront a b) (append_assoc w s t) (front_of_more a b (w ++ s) t cut)

-- a call that hands a text in after one that was handed in
pub queues_then : {T E : Type 0} (a b c : Told) (w x y s t : List ℕ) (result : Result T E)
    → Queued a b w x s → Queues b c x y t result → Queues a c w y (s ++ t) result
queues_then a b c w x y s t (Ok _) first second = record { answer = queued_then a b c w x y s t first second.answer }
queues_then a b c w x y s t (Err _) first second = record { answer = queued_cut a b c w x s t first second.answer }

-- a put of all that waits
pub puts_rest : {T E : Type 0} (a b c : Told) (w x s : List ℕ) (result : Result T E)
    → Queued a b w x s → Puts b c x result → Puts a c (w ++ s) result
puts_rest a b c w x s result first second =
    subst (λ t. Puts a c t result) first.whole (puts_after a b c first.part x result first.put second)

-- a text that is put behind all that waits
pub puts_behind : {T E : Type 0} (a b c : Told) (w x s t : List ℕ) (result : Result T E)
    → Queued a b w x s → Puts b c (x ++ t) result → Puts a c ((w ++ s) ++ t) result
puts_behind a b c w x s t result first second =
    subst (λ l. Puts a c l result) (sym (append_assoc first.part x t) ∙ ap (λ l. l ++ t) first.whole)
    (puts_after a b c first.part (x ++ t) result first.put second)

-- the pieces before the i-th of a list, with one more,
pub flat_map-more : {A : Type 0} (f : A → List ℕ) (xs : List A) (i : ℕ) (d : A) → i < length xs
    → flat_map f (take i xs) ++ f (get_or xs i d) ≡ flat_map f (take (i + 1) xs)
flat_map-more f xs i d below =
    let piece = get_or xs i d in
    ap (λ l. flat_map f (take i xs) ++ l) (sym (append-nil (f piece)))
    ∙ sym (flat_map-append f (take i xs) (piece ∷ []))
    ∙ ap (flat_map f) (sym (take_more xs i d below))

-- and with a part of the list more
flat_map-part : {A : Type 0} (f : A → List ℕ) (xs part : List A) (i : ℕ) → part ≡ take (length part) (drop i xs)
    → flat_map f (take i xs) ++ flat_map f part ≡ flat_map f (take (i + length part) xs)
flat_map-part f xs part i is =
    sym (flat_map-append f (take i xs) part)
    ∙ ap (λ l. flat_map f (take i xs ++ l)) is
    ∙ ap (flat_map f) (sym (take-add i (length part) xs))

module _ {A : Type 0} (f : A → List ℕ) (xs : List A) (i : ℕ) (a b c : Told) (w x : List ℕ) (first : Queued a b w x (flat_map f (take i xs)))
  where
    -- the pieces before the k-th were handed in, once this text was,
    queued_up_to : (k : ℕ) (text y : List ℕ) → flat_map f (take i xs) ++ text ≡ flat_map f (take k xs) → Queued b c x y text
        → Queued a c w y (flat_map f (take k xs))
    queued_up_to k text y whole second = subst (Queued a c w y) whole (queued_then a b c w x y (flat_map f (take i xs)) text first second)

    -- and where this text is cut, the list is cut
    cut_up_to : (k : ℕ) (text : List ℕ) → flat_map f (take i xs) ++ text ≡ flat_map f (take k xs) → AppendedFront b c (x ++ text)
        → AppendedFront a c (w ++ flat_map f xs)
    cut_up_to k text up_to cut =
        let so_far = flat_map f (take i xs) in
        let rest = flat_map f (drop k xs) in
        let whole : (so_far ++ text) ++ rest ≡ flat_map f xs =
        ap (λ l. l ++ rest) up_to ∙ sym (flat_map-append f (take k xs) (drop k xs)) ∙ ap (flat_map f) (take-append-drop k xs) in
        subst (λ t. AppendedFront a c (w ++ t)) whole (cut_more a c w (so_far ++ text) rest (queued_cut a b c w x so_far text first cut))

-- one more of a list of pieces
pub queued_more : {A : Type 0} (f : A → List ℕ) (xs : List A) (i : ℕ) (d : A) (a b c : Told) (w x y : List ℕ) → i < length xs
    → Queued a b w x (flat_map f (take i xs)) → Queued b c x y (f (get_or xs i d)) → Queued a c w y (flat_map f (take (i + 1) xs))
queued_more f xs i d a b c w x y below first second = queued_up_to f xs i a b c w x first (i + 1) _ y (flat_map-more f xs i d below) second

-- a list of pieces, cut in one of them
pub cut_of_pieces : {A : Type 0} (f : A → List ℕ) (xs : List A) (i : ℕ) (d : A) (a b c : Told) (w x : List ℕ) → i < length xs
    → Queued a b w x (flat_map f (take i xs)) → AppendedFront b c (x ++ f (get_or xs i d)) → AppendedFront a c (w ++ flat_map f xs)
cut_of_pieces f xs i d a b c w x below first cut = cut_up_to f xs i a b c w x first (i + 1) _ (flat_map-more f xs i d below) cut

-- a part of a list of pieces more
pub queued_part : {A : Type 0} (f : A → List ℕ) (xs part : List A) (i : ℕ) (a b c : Told) (w x y : List ℕ) → part ≡ take (length part) (drop i xs)
    → Queued a b w x (flat_map f (take i xs)) → Queued b c x y (flat_map f part) → Queued a c w y (flat_map f (take (i + length part) xs))
queued_part f xs part i a b c w x y is first second = queued_up_to f xs i a b c w x first (i + length part) _ y (flat_map-part f xs part i is) second

-- a list of pieces, cut in a part of it
pub cut_of_part : {A : Type 0} (f : A → List ℕ) (xs part : List A) (i : ℕ) (a b c : Told) (w x : List ℕ) → part ≡ take (length part) (drop i xs)
    → Queued a b w x (flat_map f (take i xs)) → AppendedFront b c (x ++ flat_map f part) → AppendedFront a c (w ++ flat_map f xs)
cut_of_part f xs part i a b c w x is first cut = cut_up_to f xs i a b c w x first (i + length part) _ (flat_map-part f xs part i is) cut
