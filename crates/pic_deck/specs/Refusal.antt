-- Why a deck is refused: the fault that its walk meets first, or bytes that are no text.
use Rattle.std.specs.Prelude.{◌≡◌, ⊤, Option, None, Result, Ok, Err}
use Rattle.toml.specs.Data.{Members}
use Rattle.pic_walk.specs.declared.fault.Fault.{Fault}
use Rattle.pic_walk.specs.declared.fault.Fault.TheVariants as walk_fault
use Rattle.pic_walk.specs.declared.fault.WalkStop.{WalkStop}
use Rattle.pic_walk.specs.declared.fault.WalkStop.TheVariants as walk_stop
use Rattle.pic_deck.specs.declared.refusal.Refusal.{Refusal}
use Rattle.pic_deck.specs.declared.refusal.Refusal.TheVariants.{Text, Unknown, Missing, Kind, Limit, Name}
use Rattle.pic_deck.specs.declared.refusal.DeckFault.{DeckFault}
use Rattle.pic_deck.specs.declared.refusal.DeckFault.TheVariants.{Refused, NoMemory}
use Rattle.pic_deck.specs.Deck.{DeckView}

-- the refusal that names a fault
abbrev pub refusal_of : Fault → Refusal
refusal_of (walk_fault.Unknown path) = Unknown path
refusal_of (walk_fault.Missing path) = Missing path
refusal_of (walk_fault.Kind path) = Kind path
refusal_of (walk_fault.Limit path value low high) = Limit path value low high
refusal_of (walk_fault.Name path) = Name path

-- what a walk's stop is to a deck
abbrev pub deck_fault_of : WalkStop → DeckFault
deck_fault_of (walk_stop.Found fault) = Refused (refusal_of fault)
deck_fault_of walk_stop.NoMemory = NoMemory

-- a call's fault is this refusal, or want of memory
abbrev pub IsRefusal : Refusal → DeckFault → Type 0
IsRefusal r (Refused q) = q ≡ r
IsRefusal r NoMemory = ⊤

-- a call's fault is that there is no document, or want of memory
abbrev pub IsTextFault : Option Members → DeckFault → Type 0
IsTextFault o (Refused q) = (q ≡ Text) × (o ≡ None)
IsTextFault o NoMemory = ⊤

-- a deck, or the refusal of it
abbrev pub ReadDeck : Type 0
ReadDeck = Result DeckView Refusal

-- a call's answer is the value or its refusal, or want of memory
abbrev pub AnswersRead : {A : Type 0} → Result A Refusal → Result A DeckFault → Type 0
AnswersRead w (Ok a) = w ≡ Ok a
AnswersRead w (Err (Refused r)) = w ≡ Err r
AnswersRead w (Err NoMemory) = ⊤

-- the same as a record, of which lemmas find their arguments
pub record ReadsAs {A : Type 0} (w : Result A Refusal) (r : Result A DeckFault) : Type 0 where
  pub answer : AnswersRead w r
