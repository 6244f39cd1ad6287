use Rattle.std.proofs.Common.{ap, ◌∙◌}
use Rattle.pic_tile.specs.CoreState.{CoreState}
use Rattle.pic_tile.specs.Tiling.{Tiling, neighbour_of}
use Rattle.pic_core.proofs.machine.Core.find_and_post.Goals as goal

pub post-requires-clause-to : goal.post-requires-clause-to
post-requires-clause-to c =
    c.neighbour-to.ensures.value ∙ ap (λ (m : Tiling). neighbour_of m.tiles c.args.tile c.args.dir) c.map.ensures.value
    ∙ ap (λ (z : CoreState). neighbour_of z.frame.map.tiles c.args.tile c.args.dir) c.self.view_is
