-- What nodes stand for: lists of particles.
use Rattle.std.specs.Prelude.{ℕ, List, [], ◌∷◌, Option, None, Some}
use Rattle.std.specs.declared.boxed.Box.{Box}
use Rattle.std.specs.declared.alloc.Global.{Global}
use Rattle.pic_num.specs.declared.motion.Particle.{Particle}
use Rattle.pic_chain.specs.declared.node.Node.{Node, Node', Held-Node-next, None', Some'}

-- the particle of a node
abbrev pub particle_of : Node → Particle
particle_of (Node' particle next home) = particle

-- its number in the order in which nodes were made
abbrev pub home_of : Node → ℕ
home_of (Node' particle next home) = home

-- the particles of a node and of all that stand behind it
abbrev mutual
  pub particles_of : Node → List Particle
  particles_of (Node' particle next home) = particle ∷ particles_behind next

  pub particles_behind : Held-Node-next → List Particle
  particles_behind None' = []
  particles_behind (Some' p node) = particles_of node

-- the particles of a list of boxed nodes, by its first
abbrev pub linked : Option (Box Node Global) → List Particle
linked None = []
linked (Some node) = particles_of node.value
