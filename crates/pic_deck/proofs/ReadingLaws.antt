-- The deck that some bytes are: how the answers of its reader follow from what it finds.
use Rattle.std.proofs.Common.{◌≡◌, ◌↔◌, ◌<◌, ◌≤◌, ℕ, List, length, true, false, leb, Option, Some, None}
use Rattle.std.proofs.Common.{Result, Ok, Err, IsErrAnd, inl, inr, ap, sym, ◌∙◌, refl}
use Rattle.std.proofs.lemmas.Bool.{cases_Bool, leb-true, leb-false, le-leb, lt-leb}
use Rattle.std.proofs.lemmas.Result.{err_from_is_err_and}
use Rattle.std.proofs.lemmas.Str.{IsUtf8-from_is_utf8, is_utf8-from_IsUtf8}
use Rattle.std.specs.Str.{IsUtf8, is_utf8}
use Rattle.toml.specs.Data.{Members}
use Rattle.toml.specs.Parse.{parse_document}
use Rattle.pic_walk.specs.Bounds.{most_bytes}
use Rattle.pic_walk.specs.declared.fault.Fault.{Fault}
use Rattle.pic_walk.specs.declared.fault.Fault.TheVariants as walk_fault
use Rattle.pic_walk.specs.declared.fault.WalkStop.{WalkStop}
use Rattle.pic_walk.specs.declared.fault.WalkStop.TheVariants as walk_stop
use Rattle.pic_walk.specs.Walk.{Walked, IsFault, WalksAs}
use Rattle.pic_deck.specs.declared.refusal.Refusal.{Refusal}
use Rattle.pic_deck.specs.declared.refusal.Refusal.TheVariants.{Text}
use Rattle.pic_deck.specs.declared.refusal.DeckFault.{DeckFault}
use Rattle.pic_deck.specs.declared.refusal.DeckFault.TheVariants.{Refused, NoMemory}
use Rattle.pic_deck.specs.Deck.{DeckView}
use Rattle.pic_deck.specs.Keys.{deck}
use Rattle.pic_deck.specs.Refusal.{refusal_of, deck_fault_of, IsRefusal, IsTextFault, ReadDeck, ReadsAs}
use Rattle.pic_deck.specs.Reading.{document, as_read, deck_in, too_long, walk, IsNoText}

pub document_is : (bs : List ℕ) (ms : Members) → IsUtf8 bs → parse_document bs ≡ Some ms → document bs ≡ Some ms
unfolding document
document_is bs ms text is = rw (is_utf8-from_IsUtf8 bs text) is

pub no_document : (bs : List ℕ) → (IsUtf8 bs → parse_document bs ≡ None) → document bs ≡ None
unfolding document
no_document bs none =
    elim (cases_Bool (is_utf8 bs)) [
      | inl text ↦ rw text (none (IsUtf8-from_is_utf8 bs text))
      | inr other ↦ rw other
    ]

-- a walk's stop that is this fault, or want of memory, is this refusal, or want of memory
pub as_refusal : (q : Fault) (s : WalkStop) (e : DeckFault) → IsFault q s → e ≡ deck_fault_of s → IsRefusal (refusal_of q) e
as_refusal q (walk_stop.Found p) e is same = rw same (ap refusal_of is)
as_refusal q walk_stop.NoMemory e is same = rw same tt

-- the walk of few bytes is that of their document
pub walk_short : (bs : List ℕ) → length bs ≤ most_bytes → walk bs ≡ deck_in (document bs)
unfolding walk
walk_short bs small = let e : leb (length bs) most_bytes ≡ true = le-leb _ _ small in rw e

pub walk_long : (bs : List ℕ) → most_bytes < length bs → walk bs ≡ Err (too_long (length bs))
unfolding walk
walk_long bs large = let e : leb (length bs) most_bytes ≡ false = lt-leb _ _ large in rw e

pub walk_is : (bs : List ℕ) (ms : Members) → length bs ≤ most_bytes → document bs ≡ Some ms → walk bs ≡ as_read (deck ms)
unfolding deck_in
walk_is bs ms small e = walk_short bs small ∙ rw e

pub walk_text : (bs : List ℕ) → length bs ≤ most_bytes → document bs ≡ None → walk bs ≡ Err Text
unfolding deck_in
walk_text bs small e = walk_short bs small ∙ rw e

-- a fault that is this refusal, or want of memory, answers a reading that refuses so
pub refuses : (w : ReadDeck) (q : Refusal) (e : DeckFault) → IsRefusal q e → w ≡ Err q → ReadsAs w (Err e)
refuses w q (Refused p) is h = record { answer = h ∙ ap Err (sym is) }
refuses w q NoMemory is h = record { answer = tt }

-- the exit of a `?` where there is no document
pub no_text : (bs : List ℕ) (e : DeckFault) {r : Result DeckView DeckFault} → length bs ≤ most_bytes → IsErrAnd r (λ y. y ≡ e)
    → IsTextFault (document bs) e → ReadsAs (walk bs) r
no_text bs e {r} small h fault =
    let p = err_from_is_err_and r h in
    rw (p.1, p.2) (go e fault)
  where
    go : (e : DeckFault) → IsTextFault (document bs) e → ReadsAs (walk bs) (Err e)
    go (Refused q) is = record { answer = walk_text bs small is.1 ∙ ap Err (sym is.0) }
    go NoMemory is = record { answer = tt }

-- a walk's stop is the reading's
pub stops : {A B : Type 0} (w : Walked A) (e : WalkStop) {t : B → A} {r : Result A DeckFault} → IsErrAnd r (λ y. y ≡ deck_fault_of e)
    → WalksAs t w (Err e) → ReadsAs (as_read w) r
unfolding as_read
stops w e {t} {r} h stop =
    let p = err_from_is_err_and r h in
    rw (p.1, p.2) (go e stop)
  where
    go : (e : WalkStop) → WalksAs t w (Err e) → ReadsAs (as_read w) (Err (deck_fault_of e))
    go (walk_stop.Found fault) is = record { answer = rw is.answer }
    go walk_stop.NoMemory is = record { answer = tt }

pub reads : {A : Type 0} (w : Walked A) (a : A) → w ≡ Ok a → ReadsAs (as_read w) (Ok a)
unfolding as_read
reads w a e = record { answer = rw e }

-- a fault is no want of a text
no_fault : (fault : Fault) → refusal_of fault ≡ Text → ⊥
no_fault (walk_fault.Unknown path) e = cc
no_fault (walk_fault.Missing path) e = cc
no_fault (walk_fault.Kind path) e = cc
no_fault (walk_fault.Limit path value low high) e = cc
no_fault (walk_fault.Name path) e = cc

same_refusal : (p q : Refusal) → ◌≡◌ {A = ReadDeck} (Err p) (Err q) → p ≡ q
same_refusal p q e = cc

-- the walk of a document isn't refused so
named : (w : Walked DeckView) → as_read w ≡ Err Text → ⊥
unfolding as_read
named (Ok d) e = cc
named (Err fault) e = no_fault fault (same_refusal _ _ e)

no_members : (o : Option Members) → deck_in o ≡ Err Text → o ≡ None
unfolding deck_in
no_members None e = refl
no_members (Some ms) e = absurd (named (deck ms) e)

pub text_exactly : (bs : List ℕ) → (walk bs ≡ Err Text) ↔ IsNoText bs
text_exactly bs = (λ e. to e, λ no. walk_text bs no.size no.none)
  where
    to : walk bs ≡ Err Text → IsNoText bs
    to e = elim (cases_Bool (leb (length bs) most_bytes)) [
      | inl few ↦
          (let small = leb-true (length bs) most_bytes few in
          record { size = small; none = no_members (document bs) (sym (walk_short bs small) ∙ e) })
      | inr many ↦
          (let out = walk_long bs (leb-false (length bs) most_bytes many) in
          let same = same_refusal _ _ (sym out ∙ e) in
          absurd (cc same))
    ]

-- a deck has few enough bytes
pub deck_size : (bs : List ℕ) (d : DeckView) → walk bs ≡ Ok d → length bs ≤ most_bytes
deck_size bs d e = elim (cases_Bool (leb (length bs) most_bytes)) [
  | inl few ↦ leb-true (length bs) most_bytes few
  | inr many ↦
      (let out = walk_long bs (leb-false (length bs) most_bytes many) in
      let same : ◌≡◌ {A = ReadDeck} (Err (too_long (length bs))) (Ok d) = sym out ∙ e in
      absurd (cc same))
]
