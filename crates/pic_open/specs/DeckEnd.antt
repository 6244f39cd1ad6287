-- The stages of a deck. Each gives a value for the next one, or an end: the deck isn't run.
use Rattle.std.specs.Prelude.{Result, Ok, Err}
use Rattle.pic_charge.specs.declared.breaks.Break.{Break}
use Rattle.pic_deck.specs.declared.refusal.Refusal.{Refusal}
use Rattle.pic_report.specs.declared.ended.Ended.{Ended}
use Rattle.pic_report.specs.declared.ended.Ended.TheVariants.{Refused, Gauss, ReadFault}

-- why a deck isn't run: a read failed; its walk or its displaced start refuses it so; or this is the least
-- node where its E and its charge don't meet Gauss's law
pub data DeckEnd : Type 0 where
  Unread : DeckEnd
  Unfit : Refusal → DeckEnd
  Unmet : Break → DeckEnd

-- what a stage gives
abbrev pub Staged : Type 0 → Type 0
Staged A = Result A DeckEnd

-- one stage, and then another from its value
infixl 10 ◌>>=◌
abbrev pub ◌>>=◌ : {A B : Type 0} → Staged A → (A → Staged B) → Staged B
Ok a >>= f = f a
Err end >>= f = Err end

-- the answer
abbrev pub ended_at : DeckEnd → Ended
ended_at Unread = ReadFault
ended_at (Unfit refusal) = Refused refusal
ended_at (Unmet b) = Gauss b
