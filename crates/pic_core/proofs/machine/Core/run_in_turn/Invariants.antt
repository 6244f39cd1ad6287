use Rattle.std.proofs.Common.{◌*◌, flat_map}
use Rattle.std.specs.List.{range_with_len}
use Rattle.pic_tile.specs.Directions.{directions}
use Rattle.pic_core.specs.Events.{Ran}
use Rattle.pic_core.specs.InTurn.{IsAt, tiling}
use Rattle.pic_core.proofs.machine.Core.run_in_turn.Given as goal

abbrev pub invariant-loop-tile : goal.invariant-loop-tile
invariant-loop-tile g l = record {
  at : IsAt l.tile (l.tile * directions) (l.tile * directions) l.self;
  ran : Ran l.initial.self (flat_map (tiling l.initial.self.frame.map) (range_with_len 0 l.tile)) l.self;
}
