use Rattle.pic_displace.specs.Displace.{way_of}
use Rattle.pic_displace.proofs.AddedLaws.{HasAdded}
use Rattle.pic_displace.proofs.displacing.add_ways.Given as goal

-- the flux of the ways so far has been added
abbrev pub invariant-loop-particle : goal.invariant-loop-particle
invariant-loop-particle l = HasAdded l.cells.side (way_of l.species l.particles) l.particles l.particle-index l.initial.to l.to
