-- The ways between the tiles of an opening, and the slots of its board.
use Rattle.std.proofs.Common.{arith}
use Rattle.pic_tile.specs.Directions.{directions, here}
use Rattle.pic_tile.proofs.AllTilesLaws.{neighbour_below, sender_below}
use Rattle.pic_tile.proofs.HeldLaws.{neighbour_forth}
use Rattle.pic_tile.proofs.LeavingLaws.{neighbour_here}
use Rattle.pic_tile.proofs.TilingLaws.{neighbour_back}
use Rattle.atomic_table.specs.Table.{State}
use Rattle.pic_yard.specs.declared.opening.Opening.{Opening}
use Rattle.pic_yard.specs.declared.view.View.{View}
use Rattle.pic_yard.specs.Contents.{Slot, slot_kinds, tiles_in, to_of, from_of}
use Rattle.pic_yard.specs.Rule.{Rule, board_of}
use Rattle.pic_yard.proofs.PlaceLaws.{SlotsHold}
use Rattle.pic_yard.proofs.Ways.{AreWays}

pub ways_of : (o : Opening) → AreWays (tiles_in o) directions here (to_of o) (from_of o)
unfolding to_of from_of
ways_of o = record {
  to_below = λ t d tile dir. neighbour_below o.frame.map.tiles t d tile;
  from_below = λ r d tile dir. sender_below o.frame.map d r tile;
  back = λ t d tile dir. neighbour_back o.frame.map.tiles t d tile dir;
  forth = λ r d tile dir. neighbour_forth o.frame.map.tiles r d tile dir;
  here_below = omega arith;
  stays = λ t tile. neighbour_here o.frame.map.tiles t tile;
}

abbrev pub slots_hold : (o : Opening) (s : State Slot View) (rule : Rule o s) → SlotsHold (slot_kinds o) (board_of o s rule.posted rule.shut) (to_of o)
slots_hold o s rule = record {
  homes = s.homes;
  ways = ways_of o;
  came = rule.marks.came;
  whole = rule.marks.whole;
  places = rule.places;
  aways = rule.aways;
}
