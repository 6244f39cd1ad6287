use Rattle.pic_tile.specs.Directions.{here}
use Rattle.pic_push.proofs.ZoneLaws.{same_parcels, same_headroom}
use Rattle.pic_push.proofs.node_push.push_node.Goals as goal

pub push_node_wide-requires-clause-open : goal.push_node_wide-requires-clause-open
push_node_wide-requires-clause-open c = same_parcels _ _ _ _ c.requires.low c.requires.size c.args.tile.now c.requires.open

pub push_node_wide-requires-clause-room : goal.push_node_wide-requires-clause-room
push_node_wide-requires-clause-room c = same_headroom _ _ _ _ c.requires.low c.requires.size here c.args.own.now c.requires.room
