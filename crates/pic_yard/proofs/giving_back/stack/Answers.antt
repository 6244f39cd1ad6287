use Rattle.std.proofs.Common.{rules, ℕ, List, sym, ap}
use Rattle.pic_yard.specs.Contents.{Slot}
use Rattle.pic_yard.proofs.StackLaws.{no_stack, stack_next}
use Rattle.pic_yard.proofs.giving_back.stack.Goals as goal

pub loop-number-init : goal.loop-number-init
loop-number-init c = (search rules, ap (λ (l : List (ℕ × Slot)). (c.args.seat.now.me.0, l)) (sym (no_stack c.args.tile c.args.seat.now.me.1)))

pub loop-number-preserved : goal.loop-number-preserved
loop-number-preserved c = (
  search rules,
  stack_next c.args.seat.now.me c.loop-number.seat.me c.bring.new.seat.me c.args.tile c.loop-number.number c.mailbox.result (search rules) (search rules)
      c.loop-number.invariant.1 (c.requires.received c.loop-number.number (search rules)) c.bring.ensures.slots,
)
