use Rattle.std.proofs.Common.{◌≡◌, take}
use Rattle.pic_deck.specs.Species.{particles_of}
use Rattle.pic_deck.proofs.species_reader.particles_of.Given as goal

abbrev pub invariant-loop-one : goal.invariant-loop-one
invariant-loop-one l = l.total ≡ particles_of (take l.one-index l.species)
