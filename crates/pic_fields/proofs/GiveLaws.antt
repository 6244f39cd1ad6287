-- What a format gives from any list of numbers, bytes or not: values that are so, with what is left some way on.
use Rattle.std.proofs.Common.{◌≡◌, ℕ, ℤ, zero, suc, ◌+◌, ◌<◌, ◌≤◌, Bool, true, List, [], ◌∷◌, ◌++◌, length}
use Rattle.std.proofs.Common.{get_or, take, drop, Ok, inl, inr, refl, sym, ap, subst, ◌∙◌, arith, length-append}
use Rattle.std.specs.Prelude.{⊤}
use Rattle.std.proofs.Math.Seq.{take-append_seam}
use Rattle.std.proofs.lemmas.Bool.{cases_lt, lt-ltb, le-ltb}
use Rattle.std.proofs.lemmas.List.{length-drop, length-take-le, drop-drop, take-append-le, get_or_append_left, get_or_push}
use Rattle.pic_fields.specs.Parser.{Input, input, Parser, done, ◌>>=◌, mapped, field, checked, each}
use Rattle.pic_fields.specs.Number.{byte_at, u32_at, i32_at, i64_at, is_from_to, within, is_between, between, is_at_most, at_most, letter, exactly}
use Rattle.pic_fields.proofs.SpellLaws.{FitsEach, same_read, bind_parts, passed_test}

-- an input is another some bytes on
pub record IsFurther (i j : Input) : Type 0 where
  pub n : ℕ
  pub most : n ≤ length i.bytes
  pub is : j ≡ input (i.place + n) (drop n i.bytes)

pub further_none : (i : Input) → IsFurther i i
further_none i = record { n = 0; most = omega arith; is = ap (λ p. input p i.bytes) (let none : i.place ≡ i.place + 0 = omega arith in none) }

pub further_then : (i j k : Input) → IsFurther i j → IsFurther j k → IsFurther i k
further_then i j k first second =
    let n = first.n in
    let m = second.n in
    let left : length j.bytes ≡ length (drop n i.bytes) = ap (λ (o : Input). length o.bytes) first.is in
    let size = length-drop n i.bytes in
    let place : i.place + n + m ≡ i.place + (n + m) = omega arith in
    record {
      n = n + m;
      most = omega (arith, first.most, second.most, left, size);
      is = second.is
          ∙ ap (λ (o : Input). input (o.place + m) (drop m o.bytes)) first.is
          ∙ ap (λ b. input (i.place + n + m) b) (drop-drop m n i.bytes)
          ∙ ap (λ p. input p (drop (n + m) i.bytes)) place;
    }

-- by the bytes that are left, and by the place
pub further_left : (i j : Input) (n : ℕ) → IsFurther i j → length j.bytes + n ≡ length i.bytes → j ≡ input (i.place + n) (drop n i.bytes)
further_left i j n on left =
    let rest : length j.bytes ≡ length (drop on.n i.bytes) = ap (λ (o : Input). length o.bytes) on.is in
    let size = length-drop on.n i.bytes in
    let most = on.most in
    let same : on.n ≡ n = omega (arith, rest, size, most, left) in
    on.is ∙ ap (λ m. input (i.place + m) (drop m i.bytes)) same

pub further_place : (i j : Input) (n : ℕ) → IsFurther i j → j.place ≡ i.place + n → j ≡ input (i.place + n) (drop n i.bytes)
further_place i j n on place =
    let here : j.place ≡ i.place + on.n = ap (λ (o : Input). o.place) on.is in
    let same : on.n ≡ n = omega (arith, here, place) in
    on.is ∙ ap (λ m. input (i.place + m) (drop m i.bytes)) same

-- a format gives values that are so, and leaves what is further on
pub record Gives {A : Type 0} (p : Parser A) (Is : A → Type 0) : Type 0 where
  pub is : (i j : Input) (a : A) → p i ≡ Ok (a, j) → Is a
  pub further : (i j : Input) (a : A) → p i ≡ Ok (a, j) → IsFurther i j

pub gives_so : {A : Type 0} {p : Parser A} {F G : A → Type 0} → ((a : A) → F a → G a) → Gives p F → Gives p G
gives_so so first = record { is = λ i j a read. so a (first.is i j a read); further = λ i j a read. first.further i j a read }

pub gives_any : {A : Type 0} {p : Parser A} {F : A → Type 0} → Gives p F → Gives p (λ a. ⊤)
gives_any first = gives_so (λ a is. tt) first

pub gives_done : {A : Type 0} {Is : A → Type 0} (a : A) → Is a → Gives (done a) Is
unfolding done
gives_done {Is = Is} a good = record {
  is = λ i j b read. subst Is (same_read a b i j read).0 good;
  further = λ i j b read. subst (IsFurther i) (same_read a b i j read).1 (further_none i);
}

pub gives_then : {A B : Type 0} {p : Parser A} {f : A → Parser B} {F : A → Type 0} {G : B → Type 0}
    → Gives p F → ((a : A) → F a → Gives (f a) G) → Gives (p >>= f) G
gives_then {p = p} {f = f} first second = record {
  is = λ i j b read. (let (a, k, e1, e2) = bind_parts p f i j b read in (second a (first.is i k a e1)).is k j b e2);
  further = λ i j b read. (let (a, k, e1, e2) = bind_parts p f i j b read in
      further_then i k j (first.further i k a e1) ((second a (first.is i k a e1)).further k j b e2));
}

pub gives_mapped : {A B : Type 0} {p : Parser A} {F : A → Type 0} {G : B → Type 0} (make : A → B) → ((a : A) → F a → G (make a)) → Gives p F
    → Gives (mapped make p) G
unfolding mapped
gives_mapped make made first = gives_then first (λ a is. gives_done (make a) (made a is))

pub gives_checked : {A : Type 0} {p : Parser A} {F : A → Type 0} (cause : ℕ) (test : A → Bool) → Gives p F
    → Gives (checked cause test p) (λ a. F a × (test a ≡ true))
unfolding checked
gives_checked {p = p} cause test first = record {
  is = λ i j a read. (let (e, good) = passed_test i.place cause test (p i) a j read in (first.is i j a e, good));
  further = λ i j a read. (let (e, good) = passed_test i.place cause test (p i) a j read in first.further i j a e);
}

pub gives_field : (n : ℕ) → Gives (field n) (λ bytes. length bytes ≡ n)
unfolding field
gives_field n = record {
  is = λ i j a read. elim (cases_lt (length i.bytes) n) [
    | inl short ↦ (let none = rw (lt-ltb (length i.bytes) n short) at read in absurd cc)
    | inr enough ↦ (let some = rw (le-ltb (length i.bytes) n enough) at read in
        ap length (sym (same_read (take n i.bytes) a (input (i.place + n) (drop n i.bytes)) j some).0) ∙ length-take-le n i.bytes enough)
  ];
  further = λ i j a read. elim (cases_lt (length i.bytes) n) [
    | inl short ↦ (let none = rw (lt-ltb (length i.bytes) n short) at read in absurd cc)
    | inr enough ↦ (let some = rw (le-ltb (length i.bytes) n enough) at read in
        record { n = n; most = enough; is = sym (same_read (take n i.bytes) a (input (i.place + n) (drop n i.bytes)) j some).1 })
  ];
}

-- values one after another, each by those before it
pub gives_each : {A : Type 0} (f : List A → Parser A) (G : List A → A → Type 0) (n : ℕ) → ((xs : List A) → Gives (f xs) (G xs))
    → Gives (each n f) (FitsEach G n)
unfolding each
gives_each f G zero one = gives_done [] refl
gives_each f G (suc n) one =
    gives_then (gives_each f G n one)
    (λ xs so_far. gives_then (one xs) (λ x here. gives_done (xs ++ x ∷ []) (record { before = xs; last = x; so_far = so_far; here = here; whole = refl })))

-- each of them at its place
pub record AreEach {A : Type 0} (G : List A → A → Type 0) (d : A) (n : ℕ) (xs : List A) : Type 0 where
  pub size : length xs ≡ n
  pub at : (i : ℕ) → i < n → G (take i xs) (get_or xs i d)

pub each_fits : {A : Type 0} (G : List A → A → Type 0) (d : A) (n : ℕ) (xs : List A) → FitsEach G n xs → AreEach G d n xs
each_fits G d zero xs fits = record { size = ap length fits; at = λ i below. absurd (omega (arith, below)) }
each_fits G d (suc n) xs fits =
    let ys = fits.before in
    let y = fits.last in
    let first = each_fits G d n ys fits.so_far in
    let long = first.size in
    let size = length-append ys (y ∷ []) in
    rw fits.whole (record {
      size = omega (arith, size, long);
      at = λ i below. elim (cases_lt i n) [
        | inl inside ↦ rw (
          take-append-le i ys (y ∷ []) (omega (arith, inside, long)),
          get_or_append_left ys (y ∷ []) d i (omega (arith, inside, long)),
        ) (first.at i inside)
        | inr last ↦ (let here : length ys ≡ i = omega (arith, below, last, long) in
            subst (λ k. G (take k (ys ++ y ∷ [])) (get_or (ys ++ y ∷ []) k d)) here
            (rw (take-append_seam ys (y ∷ []), get_or_push ys y d (length ys) refl) fits.here))
      ];
    })

-- numbers, and a text
pub gives_u32 : Gives u32_at (λ n. ⊤)
unfolding u32_at
gives_u32 = gives_mapped _ (λ a is. tt) (gives_field 4)

pub gives_within : (cause low high : ℕ) → Gives (within cause low high) (λ n. is_from_to low high n ≡ true)
unfolding within
gives_within cause low high = gives_so (λ n is. is.1) (gives_checked cause (is_from_to low high) gives_u32)

pub gives_between : (cause : ℕ) (low high : ℤ) → Gives (between cause low high) (λ z. is_between low high z ≡ true)
unfolding between i32_at
gives_between cause low high = gives_so (λ z is. is.1) (gives_checked cause (is_between low high) (gives_mapped {G = λ z. ⊤} _ (λ a is. tt) (gives_field 4)))

pub gives_at_most : (cause most : ℕ) → Gives (at_most cause most) (λ z. is_at_most most z ≡ true)
unfolding at_most i64_at
gives_at_most cause most = gives_so (λ z is. is.1) (gives_checked cause (is_at_most most) (gives_mapped {G = λ z. ⊤} _ (λ a is. tt) (gives_field 8)))

gives_letter : (cause : ℕ) (text before : List ℕ) → Gives (letter cause text before) (λ b. ⊤)
unfolding letter byte_at
gives_letter cause text before = gives_any (gives_checked cause _ (gives_mapped {G = λ z. ⊤} _ (λ a is. tt) (gives_field 1)))

pub gives_exactly : (cause : ℕ) (text : List ℕ) → Gives (exactly cause text) (λ bytes. ⊤)
unfolding exactly
gives_exactly cause text = gives_any (gives_each (letter cause text) (λ before b. ⊤) (length text) (gives_letter cause text))
