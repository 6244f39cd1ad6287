use Rattle.std.proofs.Common.{◌+◌, flat_map}
use Rattle.std.specs.List.{range_with_len}
use Rattle.pic_tile.specs.CoreState.{slot_of}
use Rattle.pic_core.specs.Events.{Ran}
use Rattle.pic_core.specs.InTurn.{IsAt, posting}
use Rattle.pic_core.proofs.machine.Core.run_tile.Given as goal

abbrev pub invariant-loop-number : goal.invariant-loop-number
invariant-loop-number g l = record {
  at : IsAt (l.tile + 1) (slot_of l.tile l.number) (slot_of l.tile l.number) l.self;
  ran : Ran l.initial.self (flat_map (posting l.initial.self.frame.map l.tile) (range_with_len 0 l.number)) l.self;
}
