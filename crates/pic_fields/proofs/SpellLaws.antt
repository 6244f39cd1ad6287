-- Formats with one spelling for each value, put together.
use Rattle.std.proofs.Common.{◌≡◌, ℕ, zero, add-zero, add-one, suc, ◌+◌, ◌<◌, ◌≤◌, Bool, true, false, List, [], ◌∷◌, ◌++◌, length, get_or, take}
use Rattle.std.proofs.Common.{drop, Ok, Err, refl, sym, ap, subst, ◌∙◌, arith, append_assoc, append-nil, length-append, if◌then◌else◌, inl, inr}
use Rattle.std.specs.List.{flat_map}
use Rattle.std.proofs.lemmas.Bool.{cases_lt, lt-ltb, le-ltb}
use Rattle.std.proofs.lemmas.Grind.{flat_map-append}
use Rattle.std.proofs.Math.Seq.{take-length}
use Rattle.std.proofs.lemmas.List.{get_or-take, get_or-drop, get_or_past, length-take-le, take-append-drop, take-take, take_more, nil_from_length}
use Rattle.pic_fields.specs.Parser.{Input, input, Parsed, Parser, fault, done, after, ◌>>=◌, mapped, field, tested_by, checked, each}
use Rattle.pic_fields.specs.Bytes.{IsBytes}
use Rattle.pic_fields.proofs.Spells.{Spells}
use Rattle.pic_fields.proofs.ReadLaws.{then_ok, tested_true}
use Rattle.pic_fields.proofs.FieldLaws.{field_is}

-- a value that was read, and what is left
abbrev pub found : {A : Type 0} → A → Input → Parsed A
found a i = Ok (a, i)

abbrev pair_of : {A : Type 0} → A → Input → A × Input
pair_of a i = (a, i)

-- two values that were read are one
pub same_read : {A : Type 0} (a b : A) (i k : Input) → found a i ≡ found b k → (a ≡ b) × (i ≡ k)
same_read {A = A} a b i k is =
    let both : pair_of a i ≡ pair_of b k = cc in
    (ap (λ (q : A × Input). q.0) both, ap (λ (q : A × Input). q.1) both)

-- the parts of a value that was read
pub bind_parts : {A B : Type 0} (p : Parser A) (f : A → Parser B) (i k : Input) (b : B) → (p >>= f) i ≡ Ok (b, k)
    → (a : A) × (j : Input) × (p i ≡ Ok (a, j)) × (f a j ≡ Ok (b, k))
unfolding ◌>>=◌
bind_parts {A = A} {B = B} p f i k b is = go (p i) refl is
  where
    go : (r : Parsed A) → p i ≡ r → after r f ≡ Ok (b, k) → (a : A) × (j : Input) × (p i ≡ Ok (a, j)) × (f a j ≡ Ok (b, k))
    go (Ok x) e h = (x.0, x.1, e, h)
    go (Err e') e h = absurd cc

-- one part, and then the rest, which tells the part
pub spells_bind : {A B : Type 0} {p : Parser A} {f : A → Parser B} {s : A → List ℕ} {t : B → List ℕ} {F : A → Type 0} {G : A → B → Type 0} (part : B → A)
    → ((a : A) (b : B) → F a → G a b → part b ≡ a) → Spells p s F → ((a : A) → Spells (f a) t (G a))
    → Spells (p >>= f) (λ b. s (part b) ++ t b) (λ b. F (part b) × G (part b) b)
spells_bind {p = p} {f = f} {s = s} {t = t} {F = F} {G = G} part tells first second = record {
  again = λ place rest b fits. (let a = part b in
      let size = length-append (s a) (t b) in
      let e1 = first.again place (t b ++ rest) a fits.0 in
      let e2 = (second a).again (place + length (s a)) rest b fits.1 in
      let end : place + length (s a) + length (t b) ≡ place + length (s a ++ t b) = omega (arith, size) in
      ap (λ bytes. (p >>= f) (input place bytes)) (append_assoc (s a) (t b) rest)
      ∙ then_ok p f _ _ a e1
      ∙ e2
      ∙ ap (λ n. Ok (b, input n rest)) end);
  takes = λ place bytes b k small is. (let (a, j, e1, e2) = bind_parts p f (input place bytes) k b is in
      let one = first.takes place bytes a j small e1 in
      let two = (second a).takes j.place j.bytes b k one.small e2 in
      let same = tells a b one.fits two.fits in
      let size : length (s (part b) ++ t b) ≡ length (s a) + length (t b) = ap (λ x. length (s x ++ t b)) same ∙ length-append (s a) (t b) in
      record {
        fits = (subst F (sym same) one.fits, subst (λ x. G x b) (sym same) two.fits);
        parts = one.parts ∙ ap (λ l. s a ++ l) two.parts ∙ sym (append_assoc (s a) (t b) k.bytes) ∙ ap (λ x. (s x ++ t b) ++ k.bytes) (sym same);
        small = two.small;
        place_is = omega (arith, one.place_is, two.place_is, size);
      });
}

-- the last part, of which the value is made
pub spells_mapped : {A B : Type 0} {p : Parser A} {s : A → List ℕ} {F : A → Type 0} (make : A → B) (part : B → A) (G : B → Type 0)
    → ((b : B) → G b → F (part b)) → ((b : B) → G b → make (part b) ≡ b) → ((a : A) → F a → G (make a)) → ((a : A) → F a → part (make a) ≡ a)
    → Spells p s F → Spells (mapped make p) (λ b. s (part b)) G
unfolding mapped done
spells_mapped {p = p} {s = s} {F = F} make part G fits makes made parts first = record {
  again = λ place rest b good.
      then_ok p (λ a. done (make a)) _ _ (part b) (first.again place rest (part b) (fits b good))
      ∙ ap (λ x. Ok (x, input (place + length (s (part b))) rest)) (makes b good);
  takes = λ place bytes b k small is. (let (a, j, e1, e2) = bind_parts p (λ a. done (make a)) (input place bytes) k b is in
      let one = first.takes place bytes a j small e1 in
      let (value, input_is) = same_read (make a) b j k e2 in
      let same : part b ≡ a = ap part (sym value) ∙ parts a one.fits in
      record {
        fits = subst G value (made a one.fits);
        parts = one.parts ∙ ap (λ x. s x ++ j.bytes) (sym same) ∙ ap (λ (i : Input). s (part b) ++ i.bytes) input_is;
        small = subst (λ (i : Input). IsBytes i.bytes) input_is one.small;
        place_is = sym (ap (λ (i : Input). i.place) input_is) ∙ one.place_is ∙ ap (λ x. place + length (s x)) (sym same);
      });
}

-- a value that is made of one part and nothing else
pub spells_last : {A B : Type 0} {p : Parser A} {s : A → List ℕ} {F : A → Type 0} (make : A → B) (part : B → A)
    → ((a : A) → part (make a) ≡ a) → Spells p s F → Spells (p >>= (λ a. done (make a))) (λ b. s (part b)) (λ b. F (part b) × (b ≡ make (part b)))
unfolding mapped
spells_last {F = F} make part parts first =
    spells_mapped make part (λ b. F (part b) × (b ≡ make (part b))) (λ b good. good.0) (λ b good. sym good.1)
    (λ a good. (subst F (sym (parts a)) good, ap make (sym (parts a)))) (λ a good. parts a) first

-- a value that passes a test
pub passed_test : {A : Type 0} (place cause : ℕ) (test : A → Bool) (r : Parsed A) (a : A) (k : Input) → tested_by place cause test r ≡ Ok (a, k)
    → (r ≡ Ok (a, k)) × (test a ≡ true)
passed_test {A = A} place cause test (Err e) a k is = absurd cc
passed_test {A = A} place cause test (Ok x) a k is = go (test x.0) refl is
  where
    go : (v : Bool) → test x.0 ≡ v → (if v then found x.0 x.1 else Err (fault place cause)) ≡ found a k → (found x.0 x.1 ≡ found a k) × (test a ≡ true)
    go true e h = (h, ap test (sym (same_read x.0 a x.1 k h).0) ∙ e)
    go false e h = absurd cc

pub spells_checked : {A : Type 0} {p : Parser A} {s : A → List ℕ} {F : A → Type 0} (cause : ℕ) (test : A → Bool)
    → Spells p s F → Spells (checked cause test p) s (λ a. F a × (test a ≡ true))
unfolding checked
spells_checked {p = p} {s = s} cause test first = record {
  again = λ place rest a fits. ap (tested_by place cause test) (first.again place rest a fits.0)
      ∙ tested_true place cause test (a, input (place + length (s a)) rest) fits.1;
  takes = λ place bytes a k small is. (let (e1, good) = passed_test place cause test (p (input place bytes)) a k is in
      let one = first.takes place bytes a k small e1 in
      record { fits = (one.fits, good); parts = one.parts; small = one.small; place_is = one.place_is });
}

-- n bytes
pub record IsField (n : ℕ) (bytes : List ℕ) : Type 0 where
  pub size : length bytes ≡ n
  pub small : IsBytes bytes

small_front : (n : ℕ) (bytes : List ℕ) → IsBytes bytes → n ≤ length bytes → IsBytes (take n bytes)
small_front n bytes small enough i = elim (cases_lt i n) [
  | inl inside ↦ rw (get_or-take n bytes i 0 inside) (small i)
  | inr past ↦ (let size = length-take-le n bytes enough in rw (get_or_past (take n bytes) i 0 (omega (arith, size, past))) (omega arith))
]

small_rest : (n : ℕ) (bytes : List ℕ) → IsBytes bytes → IsBytes (drop n bytes)
small_rest n bytes small i = rw (get_or-drop n bytes i 0) (small (n + i))

pub spells_field : (n : ℕ) → Spells (field n) (λ bytes. bytes) (IsField n)
unfolding field
spells_field n = record {
  again = λ place rest a fits. subst (λ m. field m (input place (a ++ rest)) ≡ Ok (a, input (place + length a) rest)) fits.size (field_is place a rest);
  takes = λ place bytes a k small is. elim (cases_lt (length bytes) n) [
    | inl short ↦ (let none = rw (lt-ltb (length bytes) n short) at is in absurd cc)
    | inr enough ↦ (let some = rw (le-ltb (length bytes) n enough) at is in
        let (value, input_is) = same_read (take n bytes) a (input (place + n) (drop n bytes)) k some in
        let size = length-take-le n bytes enough in
        let rest : drop n bytes ≡ k.bytes = ap (λ (i : Input). i.bytes) input_is in
        record {
          fits = record { size = ap length (sym value) ∙ size; small = subst IsBytes value (small_front n bytes small enough) };
          parts = sym (take-append-drop n bytes) ∙ ap (λ l. l ++ drop n bytes) value ∙ ap (λ l. a ++ l) rest;
          small = subst IsBytes rest (small_rest n bytes small);
          place_is = sym (ap (λ (i : Input). i.place) input_is) ∙ ap (λ m. place + m) (sym size ∙ ap length value);
        })
  ];
}

-- a spelling that is the same
pub spells_so : {A : Type 0} {p : Parser A} {s t : A → List ℕ} {F G : A → Type 0} → ((a : A) → G a → F a) → ((a : A) → F a → G a) → ((a : A) → F a → t a ≡ s a)
    → Spells p s F → Spells p t G
spells_so {p = p} {s = s} {t = t} from to is h = record {
  again = λ place rest a fits. (let same = is a (from a fits) in
      subst (λ l. p (input place (l ++ rest)) ≡ Ok (a, input (place + length l) rest)) (sym same) (h.again place rest a (from a fits)));
  takes = λ place bytes a k small read. (let one = h.takes place bytes a k small read in
      let same = is a one.fits in
      record {
        fits = to a one.fits;
        parts = one.parts ∙ ap (λ l. l ++ k.bytes) (sym same);
        small = one.small;
        place_is = one.place_is ∙ ap (λ l. place + length l) (sym same);
      });
}

-- values one after another, each by those before it
pub record IsPushed {A : Type 0} (P : List A → Type 0) (G : List A → A → Type 0) (xs : List A) : Type 0 where
  pub before : List A
  pub last : A
  pub so_far : P before
  pub here : G before last
  pub whole : xs ≡ before ++ last ∷ []

abbrev pub FitsEach : {A : Type 0} → (List A → A → Type 0) → ℕ → List A → Type 0
FitsEach G zero xs = xs ≡ []
FitsEach G (suc n) xs = IsPushed (FitsEach G n) G xs

flat_map_push : {A : Type 0} (t : A → List ℕ) (xs : List A) (x : A) → flat_map t (xs ++ x ∷ []) ≡ flat_map t xs ++ t x
flat_map_push t xs x = flat_map-append t xs (x ∷ []) ∙ ap (λ l. flat_map t xs ++ l) (append-nil (t x))

pub spells_each : {A : Type 0} (f : List A → Parser A) (t : A → List ℕ) (G : List A → A → Type 0) (n : ℕ)
    → ((xs : List A) → Spells (f xs) t (G xs)) → Spells (each n f) (flat_map t) (FitsEach G n)
unfolding each done
spells_each f t G zero one = record {
  again = λ place rest xs none. rw none (ap (λ m. Ok ([], input m rest)) (sym (add-zero place)));
  takes = λ place bytes xs k small is. (let (value, input_is) = same_read [] xs (input place bytes) k is in
      record {
        fits = sym value;
        parts = ap (λ (i : Input). i.bytes) input_is ∙ ap (λ l. flat_map t l ++ k.bytes) value;
        small = subst (λ (i : Input). IsBytes i.bytes) input_is small;
        place_is = sym (ap (λ (i : Input). i.place) input_is) ∙ sym (add-zero place) ∙ ap (λ l. place + length (flat_map t l)) value;
      });
}
spells_each {A = A} f t G (suc n) one =
    let before = spells_each f t G n one in
    let next : List A → Parser (List A) = λ xs. f xs >>= (λ x. done (xs ++ x ∷ [])) in
    record {
      again = λ place rest xs fits. (let ys = fits.before in
          let y = fits.last in
          let text : flat_map t xs ≡ flat_map t ys ++ t y = ap (flat_map t) fits.whole ∙ flat_map_push t ys y in
          let size = length-append (flat_map t ys) (t y) in
          let e1 = before.again place (t y ++ rest) ys fits.so_far in
          let e2 = (one ys).again (place + length (flat_map t ys)) rest y fits.here in
          let end : place + length (flat_map t ys) + length (t y) ≡ place + length (flat_map t ys ++ t y) = omega (arith, size) in
          ap (λ l. (each n f >>= next) (input place (l ++ rest))) text
          ∙ ap (λ l. (each n f >>= next) (input place l)) (append_assoc (flat_map t ys) (t y) rest)
          ∙ then_ok (each n f) next _ _ ys e1
          ∙ then_ok (f ys) (λ x. done (ys ++ x ∷ [])) _ _ y e2
          ∙ ap (λ m. Ok (ys ++ y ∷ [], input m rest)) end
          ∙ ap (λ l. Ok (ys ++ y ∷ [], input (place + length l) rest)) (sym text)
          ∙ ap (λ l. Ok (l, input (place + length (flat_map t xs)) rest)) (sym fits.whole));
      takes = λ place bytes xs k small is. (let (ys, j, e1, rest) = bind_parts (each n f) next (input place bytes) k xs is in
          let (y, i, e2, e3) = bind_parts (f ys) (λ x. done (ys ++ x ∷ [])) j k xs rest in
          let (value, input_is) = same_read (ys ++ y ∷ []) xs i k e3 in
          let first = before.takes place bytes ys j small e1 in
          let second = (one ys).takes j.place j.bytes y i first.small e2 in
          let text : flat_map t xs ≡ flat_map t ys ++ t y = ap (flat_map t) (sym value) ∙ flat_map_push t ys y in
          let size = length-append (flat_map t ys) (t y) in
          let place_is = ap (λ (m : Input). m.place) input_is in
          let long = ap length text in
          record {
            fits = record { before = ys; last = y; so_far = first.fits; here = second.fits; whole = sym value };
            parts = first.parts ∙ ap (λ l. flat_map t ys ++ l) second.parts ∙ sym (append_assoc (flat_map t ys) (t y) i.bytes)
                ∙ ap (λ l. l ++ i.bytes) (sym text)
                ∙ ap (λ (m : Input). flat_map t xs ++ m.bytes) input_is;
            small = subst (λ (m : Input). IsBytes m.bytes) input_is second.small;
            place_is = omega (arith, first.place_is, second.place_is, place_is, long, size);
          });
    }

-- values that fit each at its place
pub fits_each : {A : Type 0} (G : List A → A → Type 0) (d : A) (n : ℕ) (xs : List A) → length xs ≡ n → ((i : ℕ) → i < n → G (take i xs) (get_or xs i d))
    → FitsEach G n xs
fits_each G d zero xs size each_fits = nil_from_length xs size
fits_each G d (suc n) xs size each_fits =
    let whole : xs ≡ take n xs ++ get_or xs n d ∷ [] = sym (take-length xs) ∙ ap (λ m. take m xs) (size ∙ sym (add-one n))
    ∙ take_more xs n d (omega (arith, size)) in
    record {
      before = take n xs;
      last = get_or xs n d;
      so_far = fits_each G d n (take n xs) (length-take-le n xs (omega (arith, size)))
          (λ i below. rw (take-take i n xs (omega (arith, below)), get_or-take n xs i d below) (each_fits i (omega (arith, below))));
      here = each_fits n (omega arith);
      whole = whole;
    }

-- texts one after another, from the right
pub right_4 : (a b c d : List ℕ) → a ++ b ++ c ++ d ≡ a ++ (b ++ (c ++ d))
right_4 a b c d = append_assoc (a ++ b) c d ∙ append_assoc a b (c ++ d)

pub right_5 : (a b c d e : List ℕ) → a ++ b ++ c ++ d ++ e ≡ a ++ (b ++ (c ++ (d ++ e)))
right_5 a b c d e = append_assoc (a ++ b ++ c) d e ∙ right_4 a b c (d ++ e)

pub right_6 : (a b c d e f : List ℕ) → a ++ b ++ c ++ d ++ e ++ f ≡ a ++ (b ++ (c ++ (d ++ (e ++ f))))
right_6 a b c d e f = append_assoc (a ++ b ++ c ++ d) e f ∙ right_5 a b c d (e ++ f)

pub right_7 : (a b c d e f g : List ℕ) → a ++ b ++ c ++ d ++ e ++ f ++ g ≡ a ++ (b ++ (c ++ (d ++ (e ++ (f ++ g)))))
right_7 a b c d e f g = append_assoc (a ++ b ++ c ++ d ++ e) f g ∙ right_6 a b c d e (f ++ g)

-- two spellings of which one begins the other are one, of one value
pub one_spelling : {A : Type 0} {p : Parser A} {s : A → List ℕ} {F : A → Type 0} → Spells p s F → (a b : A) (x y : List ℕ) → F a → F b → s a ++ x ≡ s b ++ y
    → (a ≡ b) × (x ≡ y)
one_spelling {p = p} {s = s} h a b x y fits_a fits_b is =
    let e = sym (h.again 0 x a fits_a) ∙ ap (λ l. p (input 0 l)) is ∙ h.again 0 y b fits_b in
    let (value, input_is) = same_read a b _ _ e in
    (value, ap (λ (i : Input). i.bytes) input_is)
