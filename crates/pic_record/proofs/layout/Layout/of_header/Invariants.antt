-- The species so far.
use Rattle.std.proofs.Common.{◌≡◌, map, take}
use Rattle.pic_record.proofs.layout.Layout.of_header.Given as goal

abbrev pub invariant-loop-head : goal.invariant-loop-head
invariant-loop-head l = record {
  kinds : l.kinds.items ≡ map (λ s. s.kind) (take l.head-index l.heads);
  counts : l.counts.items ≡ map (λ s. s.count) (take l.head-index l.heads);
}
