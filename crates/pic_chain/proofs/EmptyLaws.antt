-- A node has at least its own particle.
use Rattle.std.specs.Prelude.{◌≡◌, []}
use Rattle.pic_chain.specs.declared.node.Node.{Node, Node'}
use Rattle.pic_chain.specs.Links.{particles_of}

-- what begins with a node isn't empty
pub never_empty : (node : Node) → particles_of node ≡ [] → ⊥
never_empty (Node' particle next home) e = cc
