use Rattle.std.proofs.Common.{ℕ, ◌<◌, get_or}
use Rattle.pic_grid.specs.Species.{HeadView}
use Rattle.pic_header.specs.Header.{HasMultipliers}
use Rattle.pic_header.proofs.header.keep_kinds.Given as goal

-- the species so far keep their multipliers
abbrev pub invariant-loop-head : goal.invariant-loop-head
invariant-loop-head l = (k : ℕ) (d : HeadView) → k < l.head-index → HasMultipliers (get_or l.heads k d).kind
