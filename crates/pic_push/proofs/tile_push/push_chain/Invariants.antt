use Rattle.std.proofs.Common.{length}
use Rattle.pic_tile.specs.Frame.{felt_in}
use Rattle.pic_push.proofs.PushingLaws.{Pushing}
use Rattle.pic_push.proofs.tile_push.push_chain.Given as goal

-- those done are where the definition has them
abbrev pub invariant-loop-node : goal.invariant-loop-node
invariant-loop-node l = Pushing (felt_in l.frame) l.frame.map l.frame.kinds l.fn.own.chain l.rest l.fn.tile.number l.own l.tile

abbrev pub decreases-loop-node : goal.decreases-loop-node
decreases-loop-node l = length l.rest
