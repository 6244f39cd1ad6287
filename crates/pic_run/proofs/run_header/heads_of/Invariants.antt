use Rattle.std.proofs.Common.{◌≡◌, map, take}
use Rattle.pic_deck.specs.Species.{head_of}
use Rattle.pic_run.proofs.run_header.heads_of.Given as goal

-- the heads so far
abbrev pub invariant-loop-one : goal.invariant-loop-one
invariant-loop-one l = l.heads.items ≡ map head_of (take l.one-index l.species)
