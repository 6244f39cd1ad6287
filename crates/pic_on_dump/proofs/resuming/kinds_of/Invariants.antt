use Rattle.std.proofs.Common.{◌≡◌, map, take}
use Rattle.pic_grid.specs.Species.{HeadView}
use Rattle.pic_on_dump.proofs.resuming.kinds_of.Given as goal

-- the kinds so far
abbrev pub invariant-loop-head : goal.invariant-loop-head
invariant-loop-head l = l.kinds.items ≡ map (λ (s : HeadView). s.kind) (take l.head-index l.heads)
