-- The bytes of a deck: which are accepted, and why others are refused.
use Rattle.std.proofs.Common.{◌≡◌, ℕ, ◌<◌, ◌≤◌, true, false, inl, inr, List, length, Option, Some, None, Ok, Err, refl, sym, ap, ◌∙◌, arith}
use Rattle.std.specs.Prelude.{nat_le, if◌then◌else◌}
use Rattle.std.proofs.lemmas.Bool.{cases_lt}
use Rattle.std.proofs.lemmas.Bool.Decides.{nat_tests}
use Rattle.toml.specs.Data.{Members}
use Rattle.pic_walk.specs.declared.fault.Fault.{Fault}
use Rattle.pic_walk.specs.Bounds.{most_bytes}
use Rattle.pic_walk.specs.Walk.{Walked}
use Rattle.pic_deck.specs.declared.refusal.Refusal.{Refusal}
use Rattle.pic_deck.specs.declared.refusal.Refusal.TheVariants.{Text}
use Rattle.pic_deck.specs.Deck.{DeckView}
use Rattle.pic_deck.specs.Keys.{deck}
use Rattle.pic_deck.specs.Reading.{document, as_read, deck_in, too_long, walk}
use Rattle.pic_deck.specs.Refusal.{ReadDeck, refusal_of}
use Rattle.pic_deck_laws.specs.DeckTables.{AreDeck, DecksAreRead}
use Rattle.pic_deck_laws.specs.DeckTests.{IsRefusalOf, too_many, no_text, failed, DecksAreRefused}
use Rattle.pic_deck_laws.proofs.DeckLaws.{decks_are_spelled}
use Rattle.pic_deck_laws.proofs.DeckTestLaws.{decks_are_tested}

walk_few : (bytes : List ℕ) → length bytes ≤ most_bytes → walk bytes ≡ deck_in (document bytes)
unfolding walk
walk_few bytes few =
    let same : nat_le (length bytes) most_bytes ≡ true = grind (arith, nat_tests) in
    ap (λ b. if b then deck_in (document bytes) else Err (too_long (length bytes))) same

walk_many : (bytes : List ℕ) → most_bytes < length bytes → walk bytes ≡ Err (too_long (length bytes))
unfolding walk
walk_many bytes many =
    let same : nat_le (length bytes) most_bytes ≡ false = grind (arith, nat_tests) in
    ap (λ b. if b then deck_in (document bytes) else Err (too_long (length bytes))) same

read_ok : {A : Type 0} (w : Walked A) (a : A) → as_read w ≡ Ok a → w ≡ Ok a
unfolding as_read
read_ok (Ok b) a e = ap Ok cc
read_ok (Err q) a e = absurd (cc e)

record Refused {A : Type 0} (w : Walked A) (r : Refusal) : Type 0 where
  fault : Fault
  first : w ≡ Err fault
  is : r ≡ refusal_of fault

read_err : {A : Type 0} (w : Walked A) (r : Refusal) → as_read w ≡ Err r → Refused w r
unfolding as_read
read_err (Ok b) r e = absurd (cc e)
read_err (Err q) r e = record { fault = q; first = refl; is = cc }

ok_read : {A : Type 0} (w : Walked A) (a : A) → w ≡ Ok a → as_read w ≡ Ok a
unfolding as_read
ok_read w a e = ap as_read e

err_read : {A : Type 0} (w : Walked A) (q : Fault) → w ≡ Err q → as_read w ≡ Err (refusal_of q)
unfolding as_read
err_read w q e = ap as_read e

-- What a document gives
in_ok : (bytes : List ℕ) → length bytes ≤ most_bytes → (o : Option Members) → document bytes ≡ o → (d : DeckView) → deck_in o ≡ Ok d → AreDeck bytes d
unfolding deck_in
in_ok bytes few None is d e = absurd (cc e)
in_ok bytes few (Some ms) is d e =
    record { few = few; members = ms; document = is; spells = (decks_are_spelled ms d).0 (read_ok (deck ms) d e) }

in_from : (ms : Members) (d : DeckView) → deck ms ≡ Ok d → deck_in (Some ms) ≡ Ok d
unfolding deck_in
in_from ms d e = ok_read (deck ms) d e

read_of : (bytes : List ℕ) (d : DeckView) → walk bytes ≡ Ok d → AreDeck bytes d
read_of bytes d e = elim (cases_lt most_bytes (length bytes)) [
  | inr few ↦ in_ok bytes few (document bytes) refl d (sym (walk_few bytes few) ∙ e)
  | inl many ↦ (let same : ◌≡◌ {A = ReadDeck} (Err (too_long (length bytes))) (Ok d) = sym (walk_many bytes many) ∙ e in absurd (cc same))
]

of_read : (bytes : List ℕ) (d : DeckView) → AreDeck bytes d → walk bytes ≡ Ok d
of_read bytes d is =
    walk_few bytes is.few ∙ ap deck_in is.document ∙ in_from is.members d ((decks_are_spelled is.members d).1 is.spells)

pub decks_are_read : DecksAreRead
decks_are_read bytes d = (read_of bytes d, of_read bytes d)

in_err : (bytes : List ℕ) → length bytes ≤ most_bytes → (o : Option Members) → document bytes ≡ o → (r : Refusal) → deck_in o ≡ Err r → IsRefusalOf bytes r
unfolding deck_in
in_err bytes few None is r e = no_text few is (sym cc)
in_err bytes few (Some ms) is r e =
    let refused = read_err (deck ms) r e in
    failed few ms is refused.fault (((decks_are_tested ms).refuses refused.fault).0 refused.first) refused.is

err_in : (ms : Members) (q : Fault) → deck ms ≡ Err q → deck_in (Some ms) ≡ Err (refusal_of q)
unfolding deck_in
err_in ms q e = err_read (deck ms) q e

none_in : deck_in None ≡ Err Text
unfolding deck_in
none_in = refl

refused_by : (bytes : List ℕ) (r : Refusal) → walk bytes ≡ Err r → IsRefusalOf bytes r
refused_by bytes r e = elim (cases_lt most_bytes (length bytes)) [
  | inr few ↦ in_err bytes few (document bytes) refl r (sym (walk_few bytes few) ∙ e)
  | inl many ↦
      (let same : ◌≡◌ {A = ReadDeck} (Err (too_long (length bytes))) (Err r) = sym (walk_many bytes many) ∙ e in
      let is : r ≡ too_long (length bytes) = cc same in
      too_many many is)
]

by_refusal : (bytes : List ℕ) (r : Refusal) → IsRefusalOf bytes r → walk bytes ≡ Err r
by_refusal bytes r (too_many many is) = walk_many bytes many ∙ ap Err (sym is)
by_refusal bytes r (no_text few none is) = walk_few bytes few ∙ ap deck_in none ∙ none_in ∙ ap Err (sym is)
by_refusal bytes r (failed few ms there fault first is) =
    walk_few bytes few ∙ ap deck_in there ∙ err_in ms fault (((decks_are_tested ms).refuses fault).1 first) ∙ ap Err (sym is)

pub decks_are_refused : DecksAreRefused
decks_are_refused bytes r = (refused_by bytes r, by_refusal bytes r)
