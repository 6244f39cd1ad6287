use Rattle.std.proofs.Common.{rules}
use Rattle.pic_num.specs.Space.{spot}
use Rattle.pic_flux.proofs.EdgeLaws.{edges_of}
use Rattle.pic_flux.proofs.edges.has_edges.Goals as goal

pub returns : goal.returns
returns c = λ yes.
    edges_of c.args.to.now.low c.args.to.now.size (spot c.args.cell) (search rules) (search rules) (search rules) (search rules) (search rules) (search rules)
