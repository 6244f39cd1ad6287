use Rattle.std.proofs.Common.{map, sym, ap, ◌∙◌, subst}
use Rattle.std.proofs.lemmas.List.{take_all}
use Rattle.pic_grid.specs.Species.{HeadView}
use Rattle.pic_tile.specs.Frame.{AreKinds}
use Rattle.pic_on_dump.proofs.resuming.kinds_of.Goals as goal

pub from_vec-requires : goal.from_vec-requires
from_vec-requires c =
    let all = take_all c.loop-head.head-index c.args.heads.now c.loop-head-test.false in
    subst AreKinds (sym (c.loop-head.invariant ∙ ap (map (λ (s : HeadView). s.kind)) all)) c.requires
