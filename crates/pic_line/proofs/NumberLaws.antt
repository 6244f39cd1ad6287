-- A text that passes a range as `clap` tests it is a number of that range as it is read.
use Rattle.std.proofs.Common.{◌≡◌, ◌∙◌, ℕ, ◌<◌, ◌≤◌, ◌^◌, ◌==◌, Bool, true, false, cond, List, [], ◌∷◌, drop, Option, Some}
use Rattle.std.proofs.Common.{None, sym, ap, ap₂, subst, refl, true≢false, arith}
use Rattle.std.specs.Prelude.{pos, ◌&&◌, unwrap_or}
use Rattle.std.specs.Str.Parse.{IsNumeral, digits_value, starts_with_minus, without_leading_plus}
use Rattle.std.proofs.lemmas.Bool.{ne_eqb, eqb-true, and_parts}
use Rattle.std.proofs.lemmas.Int.{ints}
use Rattle.std.proofs.lemmas.Str.Parse.{digit_from_value}
use Rattle.clap.specs.declared.builder.value_parser.ValueParser.{ValueParser}
use Rattle.clap.specs.declared.builder.value_parser.ValueParser.TheVariants as vp
use Rattle.clap.specs.Facts.{parser_of_value}
use Rattle.clap.specs.Lexer.{without_minus}
use Rattle.clap.specs.Values.{IsSignedIn, IsUnsignedIn, read_as, reading_of}
use Rattle.clap.specs.ValueTests.{accepts, is_unsigned_in}
use Rattle.clap.proofs.ValueTestLemmas.{accepts-Accepts, Accepts-accepts}

minus_off : (t : List ℕ) → without_minus t ≡ cond (starts_with_minus t) (drop 1 t) t
minus_off [] = refl
minus_off (x ∷ xs) = go (x == 45)
  where
    go : (b : Bool) → unwrap_or (cond b (Some xs) None) (x ∷ xs) ≡ cond b xs (x ∷ xs)
    go true = refl
    go false = refl

no_plus : (ds : List ℕ) → IsNumeral 10 ds → without_leading_plus ds ≡ ds
no_plus [] h = refl
no_plus (d ∷ ds) h =
    let plus : (d == 43) ≡ false = ne_eqb _ _ (λ e. omega (arith, digit_from_value d h.1.0)) in
    ap (λ (b : Bool). drop (cond b 1 0) (d ∷ ds)) plus

-- behind a minus only zero is left, and that is read without it
unsigned : (low high : ℕ) (t : List ℕ) → IsSignedIn (pos low) (pos high) t → IsUnsignedIn low high (without_minus t)
unsigned low high t passed = subst (λ (u : List ℕ). IsUnsignedIn low high u) (sym (minus_off t)) (go (starts_with_minus t) refl)
  where
    go : (b : Bool) → starts_with_minus t ≡ b → IsUnsignedIn low high (cond b (drop 1 t) t)
    go true minus =
        let numeral : IsNumeral 10 (drop 1 t) = rw minus at passed.0 in
        let low_ok = rw minus at passed.2 in
        let none : digits_value 10 (drop 1 t) < 2 ^ 64 = omega (arith, ints) in
        let least : low ≤ digits_value 10 (drop 1 t) = omega (arith, ints) in
        let most : digits_value 10 (drop 1 t) ≤ high = omega (arith, ints) in
        subst (λ (u : List ℕ). IsNumeral 10 u × (digits_value 10 u < 2 ^ 64) × (low ≤ digits_value 10 u) × (digits_value 10 u ≤ high))
        (sym (no_plus (drop 1 t) numeral)) (numeral, none, least, most)
    go false minus =
        let numeral : IsNumeral 10 (without_leading_plus t) = rw minus at passed.0 in
        let fits = rw minus at passed.1 in
        let low_ok = rw minus at passed.2 in
        let high_ok = rw minus at passed.3 in
        let below : digits_value 10 (without_leading_plus t) < 2 ^ 63 = fits.sfits in
        (numeral, omega (arith, below), omega (arith, ints), omega (arith, ints))

-- the parser takes the numbers from low to high
abbrev pub is_range : ℕ → ℕ → Option ValueParser → Bool
is_range low high (Some (vp.Signed (pos a) (pos b))) = (a == low) && (b == high)
is_range low high parser = false

pub range_reads : (low high : ℕ) (i : Bool) (o : Option ValueParser) (v : List ℕ) → is_range low high o ≡ true
    → accepts i (parser_of_value o) v ≡ true → is_unsigned_in low high (read_as (reading_of (parser_of_value o)) v) ≡ true
range_reads low high i (Some (vp.Signed (pos a) (pos b))) v is passes =
    let both = and_parts (a == low) (b == high) is in
    ap₂ (λ (m n : ℕ). is_unsigned_in m n (without_minus v)) (sym (eqb-true a low both.0)) (sym (eqb-true b high both.1))
    ∙ Accepts-accepts false (vp.Unsigned a b) (without_minus v) (unsigned a b v (accepts-Accepts false (vp.Signed (pos a) (pos b)) v passes))
range_reads low high i o v is passes = absurd (true≢false (sym is))
