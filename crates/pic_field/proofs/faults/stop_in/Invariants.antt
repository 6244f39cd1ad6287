use Rattle.std.proofs.Common.{◌≡◌}
use Rattle.pic_num.specs.Space.{triple, unwrapped}
use Rattle.pic_block.specs.Block.{edge_at}
use Rattle.pic_field.proofs.FaultLaws.{fault_below}
use Rattle.pic_block.proofs.PlaceLaws.{IsPlace}
use Rattle.pic_field.proofs.faults.stop_in.Given as goal

-- the walk stands at the place of its number, and has found the least stop so far
abbrev pub invariant-loop-number : goal.invariant-loop-number
invariant-loop-number l = record {
  place : IsPlace (triple l.zone.size) l._number l.place.axis (triple l.place.inner);
  stop : l.stop ≡ fault_below l.phase l.by (λ a p. edge_at l.b a (unwrapped p)) l.b l._number;
}
