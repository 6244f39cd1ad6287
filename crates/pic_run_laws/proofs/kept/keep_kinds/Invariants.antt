use Rattle.std.proofs.Common.{ℕ, ◌<◌, get_or}
use Rattle.pic_deck.specs.declared.species.Species.{Species}
use Rattle.pic_header.specs.Header.{HasMultipliers}
use Rattle.pic_run_laws.proofs.kept.keep_kinds.Given as goal

-- the species so far keep their multipliers
abbrev pub invariant-loop-one : goal.invariant-loop-one
invariant-loop-one l = (k : ℕ) (d : Species) → k < l.one-index → HasMultipliers (get_or l.species k d).kind
