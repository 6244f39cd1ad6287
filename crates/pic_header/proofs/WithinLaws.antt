-- How far the bytes of a header were read, by calls that read its parts one after another.
use Rattle.std.proofs.Common.{◌≡◌, ℕ, zero, suc, ◌+◌, ◌<◌, ◌≤◌, List, ◌∷◌, [], ◌++◌, Option, Some, None, Ok, Err, inl, inr, refl, sym, ap, subst, ◌∙◌, arith}
use Rattle.std.specs.Prelude.{option_map}
use Rattle.std.proofs.lemmas.Bool.{cases_eq}
use Rattle.pic_io.specs.Told.{Told}
use Rattle.pic_io.specs.Source.{with_front}
use Rattle.pic_fields.specs.Parser.{input, Parsed, Parser, done, after, ◌>>=◌, each}
use Rattle.pic_fields.specs.Reads.{Left, Moves, HasRead}
use Rattle.pic_fields.proofs.ReadLaws.{then_ok, moves_then, moves_none, moves_up, some_rest}
use Rattle.pic_header.specs.HeadReads.{reach_of, TakesWithin}
use Rattle.pic_header.proofs.RunLaws.{RunsTo, Runs, IsNotBefore, GoesOn, goes_done, goes_then}

-- a part of so few bytes was read, or some of it
pub short_reach : {A : Type 0} (s n : ℕ) (r : Parsed A) → n ≤ 32 → RunsTo s n r → s + n ≤ reach_of r
short_reach s n (Ok x) few on = omega (arith, on)
short_reach s n (Err f) few on = omega (arith, on, few)

pub within_short : {A : Type 0} {p : Parser A} (n : ℕ) {s : ℕ} {x z : Told} → Runs p n → n ≤ 32 → Moves s (s + n) x z → TakesWithin p s x z
within_short {p = p} n {s = s} runs few first = record {
  moves = λ bytes told. moves_up (short_reach s n (p (input s bytes)) few (runs.on (input s bytes))) first;
}

-- what follows reaches as far
on_reach : {A : Type 0} (s : ℕ) (r : Parsed A) → IsNotBefore s r → s ≤ reach_of r
on_reach s (Ok x) on = on
on_reach s (Err f) on = omega (arith, on)

pub reach_after : {A B : Type 0} (r : Parsed A) (f : A → Parser B) → ((a : A) → GoesOn (f a)) → reach_of r ≤ reach_of (after r f)
reach_after (Ok x) f second = on_reach x.1.place (f x.0 x.1) ((second x.0).on x.1)
reach_after (Err e) f second = omega arith

-- the first part was read, or some of it
pub within_first : {A B : Type 0} {p : Parser A} (f : A → Parser B) {s : ℕ} {x z : Told} → ((a : A) → GoesOn (f a)) → TakesWithin p s x z
    → TakesWithin (p >>= f) s x z
unfolding ◌>>=◌
within_first {p = p} f {s = s} second first = record {
  moves = λ bytes told. moves_up (reach_after (p (input s bytes)) f second) (first.moves bytes told);
}

-- what is left of known bytes is known
left_known : (front bytes : List ℕ) (now : Option (List ℕ)) → Some bytes ≡ with_front front now → (rest : List ℕ) × (now ≡ Some rest)
left_known front bytes None is = absurd cc
left_known front bytes (Some rest) is = (rest, refl)

-- what a source told is what it held
pub told_held : (before : Option (List ℕ)) (bytes held : List ℕ) → before ≡ Some bytes → before ≡ option_map (λ _. held) before → held ≡ bytes
told_held None bytes held told was = cc
told_held (Some known) bytes held told was = cc

known_left : (now : Option (List ℕ)) (rest : List ℕ) → now ≡ Some rest → now ≡ option_map (λ _. rest) now
known_left None rest is = absurd cc
known_left (Some known) rest is = is

-- a part was read of known bytes: what follows is read of the known bytes that are left
pub after_known : {A B : Type 0} {p : Parser A} (f : A → Parser B) {s m : ℕ} {x y : Told} {a : A} (bytes : List ℕ)
    → HasRead p s x a m y → x.bytes ≡ Some bytes → (rest : List ℕ) × (y.bytes ≡ Some rest) × ((p >>= f) (input s bytes) ≡ f a (input m rest))
after_known {p = p} f {s = s} {m = m} {x = x} {y = y} {a = a} bytes first told =
    let (rest, known) = left_known first.moves.front bytes y.bytes (sym told ∙ first.moves.moved) in
    let (held, was, e1) = first.reads rest (known_left y.bytes rest known) in (
      rest,
      known,
      ap (λ b. (p >>= f) (input s b)) (sym (told_held x.bytes bytes held told was)) ∙ then_ok p f (input s held) (input m rest) a e1,
    )

-- a part was read, and then more
pub within_then : {A B : Type 0} {p : Parser A} (f : A → Parser B) {s m : ℕ} {x y z : Told} {a : A}
    → HasRead p s x a m y → TakesWithin (f a) m y z → TakesWithin (p >>= f) s x z
within_then f {s = s} {x = x} {z = z} first second = record {
  moves = λ bytes told. (let (rest, known, is) = after_known f bytes first told in
      subst (λ r. Moves s (reach_of r) x z) (sym is) (moves_then first.moves (second.moves rest known)));
}

-- what a part that was read says of the bytes that the source told
pub read_told : {A : Type 0} {p : Parser A} {s e : ℕ} {x z : Told} {a : A} (bytes : List ℕ) → HasRead p s x a e z → x.bytes ≡ Some bytes
    → (rest : List ℕ) × Left z rest × (p (input s bytes) ≡ Ok (a, input e rest))
read_told {p = p} {s = s} {x = x} {z = z} bytes first told =
    let (rest, left) = some_rest z in
    let (held, was, e1) = first.reads rest left in
    (rest, left, ap (λ b. p (input s b)) (sym (told_held x.bytes bytes held told was)) ∙ e1)

-- all of it was read
pub within_read : {A : Type 0} {p : Parser A} {s e : ℕ} {x z : Told} {a : A} → HasRead p s x a e z → TakesWithin p s x z
within_read {s = s} {x = x} {z = z} first = record {
  moves = λ bytes told. (let (rest, left, is) = read_told bytes first told in
      subst (λ r. Moves s (reach_of r) x z) (sym is) first.moves);
}

-- another spelling of a part
pub within_by : {A : Type 0} {p q : Parser A} {s : ℕ} {x z : Told} → p ≡ q → TakesWithin p s x z → TakesWithin q s x z
within_by {A = A} {s = s} {x = x} {z = z} is first = subst (λ (t : Parser A). TakesWithin t s x z) is first

-- nothing more was
pub within_done : {A : Type 0} (a : A) (s : ℕ) (x : Told) → TakesWithin (done a) s x x
unfolding done
within_done a s x = record { moves = λ bytes told. moves_none s x }

-- one of several
within_next : {A : Type 0} (n : ℕ) (f : List A → Parser A) {s m : ℕ} {x y z : Told} {xs : List A}
    → HasRead (each n f) s x xs m y → TakesWithin (f xs) m y z → TakesWithin (each (suc n) f) s x z
unfolding each
within_next n f {xs = xs} first second =
    within_then (λ ys. f ys >>= (λ b. done (ys ++ b ∷ []))) first (within_first (λ b. done (xs ++ b ∷ [])) (λ b. goes_done (xs ++ b ∷ [])) second)

within_later : {A : Type 0} (n : ℕ) (f : List A → Parser A) {s : ℕ} {x z : Told} → ((xs : List A) → GoesOn (f xs)) → TakesWithin (each n f) s x z
    → TakesWithin (each (suc n) f) s x z
unfolding each
within_later n f each_one first =
    within_first (λ ys. f ys >>= (λ b. done (ys ++ b ∷ []))) (λ ys. goes_then (each_one ys) (λ b. goes_done (ys ++ b ∷ []))) first

pub within_among : {A : Type 0} (n i : ℕ) (f : List A → Parser A) {s m : ℕ} {x y z : Told} {xs : List A}
    → ((ys : List A) → GoesOn (f ys)) → i < n → HasRead (each i f) s x xs m y → TakesWithin (f xs) m y z → TakesWithin (each n f) s x z
within_among zero i f each_one below first second = elim below [ ]
within_among (suc n) i f {s = s} {m = m} {x = x} {y = y} {xs = xs} each_one below first second = elim (cases_eq i n) [
  | inl same ↦ within_next n f (subst (λ k. HasRead (each k f) s x xs m y) same first) second
  | inr other ↦ within_later n f each_one (within_among n i f each_one (omega (arith, below, other)) first second)
]
