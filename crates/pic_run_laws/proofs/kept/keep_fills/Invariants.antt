use Rattle.std.proofs.Common.{ℕ, ◌<◌, get_or}
use Rattle.pic_deck.specs.declared.species.Species.{Species}
use Rattle.pic_run_laws.specs.KeptDecks.{IsByThrees}
use Rattle.pic_run_laws.proofs.kept.keep_fills.Given as goal

-- what fills the species so far says its numbers by threes
abbrev pub invariant-loop-one : goal.invariant-loop-one
invariant-loop-one l = (k : ℕ) (d : Species) → k < l.one-index → IsByThrees (get_or l.species k d).fill
