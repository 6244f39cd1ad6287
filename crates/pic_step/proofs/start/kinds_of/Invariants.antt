use Rattle.std.proofs.Common.{◌≡◌, map, take}
use Rattle.pic_deck.specs.declared.species.Species.{Species}
use Rattle.pic_step.proofs.start.kinds_of.Given as goal

abbrev pub invariant-loop-species : goal.invariant-loop-species
invariant-loop-species l = l.kinds.items ≡ map (λ (s : Species). s.kind) (take l.species-index l.species-items)
