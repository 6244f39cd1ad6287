-- The state that a core has.
use Rattle.pic_core.specs.declared.machine.Core.TheInside.{Inside}
use Rattle.pic_tile.specs.CoreState.{CoreState}

abbrev pub state_of : Inside → CoreState
state_of c = record {
  frame = c.frame;
  opening = c.opening.value.items;
  tiles = c.tiles.items;
  mail = c.mail.items;
  received = c.received.items;
  claimed = c.claimed.items;
  posted = c.posted.items;
  merged = c.merged.items;
  shut = c.shut.items;
}
