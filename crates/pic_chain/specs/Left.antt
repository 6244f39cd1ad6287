-- What is left of a walk along a chain.
use Rattle.std.specs.Prelude.{List}
use Rattle.pic_num.specs.declared.motion.Particle.{Particle}
use Rattle.pic_chain.specs.declared.chain_iter.ChainIter.{ChainIter}
use Rattle.pic_chain.specs.Links.{linked}

-- the particles that have not come yet
abbrev pub left_of : ChainIter → List Particle
left_of walk = linked walk.next.now
