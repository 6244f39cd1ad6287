use Rattle.std.proofs.Common.{◌≡◌}
use Rattle.pic_yard.specs.Returns.{boxes_on, shed}
use Rattle.pic_yard.proofs.giving_back.stack.Given as goal

abbrev pub invariant-loop-number : goal.invariant-loop-number
invariant-loop-number l =
    (l.seat.table_id ≡ l.initial.seat.table_id) × (l.seat.me ≡ (l.initial.seat.me.0, boxes_on l.fn.tile l.number (shed l.fn.tile l.number l.initial.seat.me.1)))
