use Rattle.pic_core.specs.Events.{Ran}
use Rattle.pic_core.specs.InTurn.{IsFinishing, merging, up_to}
use Rattle.pic_core.proofs.machine.Core.merge_others.Given as goal

abbrev pub invariant-loop-number : goal.invariant-loop-number
invariant-loop-number l = record {
  at : IsFinishing l.fn.tile l.fn.dir (up_to l.number) l.self;
  ran : Ran l.fn.self (merging l.fn.to l.number) l.self;
}
