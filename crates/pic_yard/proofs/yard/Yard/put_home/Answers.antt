use Rattle.std.proofs.Common.{rules, None}
use Rattle.pic_yard.proofs.PostCalls.{tile_few}
use Rattle.pic_yard.proofs.ReceiveCalls.{home_held, is_put_home}
use Rattle.pic_yard.proofs.yard.Yard.put_home.Goals as goal

pub stack-requires-clause-few : goal.stack-requires-clause-few
stack-requires-clause-few c = tile_few c.args.self.now c.args.seat.now c.args.number c.requires.serves
    (c.requires.serves.sits.carries.inside c.args.number c.requires.right)

pub home-requires : goal.home-requires
home-requires c = tile_few c.args.self.now c.args.seat.now c.args.number c.requires.serves
    (c.requires.serves.sits.carries.inside c.args.number c.requires.right)

pub exchange_tile-requires-clause-place : goal.exchange_tile-requires-clause-place
exchange_tile-requires-clause-place c = (
  None,
  home_held c.args.self.now c.args.seat.now c.stack.new.seat c.args.number c.home.result c.requires.serves c.requires.right c.args.tile
      c.requires.finished c.stack.ensures.slots c.home.ensures,
)

pub returns : goal.returns
returns c =
    is_put_home c.args.self.now c.args.seat.now c.stack.new.seat c.args.number c.home.result c.requires.serves c.requires.right c.args.tile
    c.requires.finished c.stack.ensures.slots c.home.ensures c.exchange_tile.new.seat c.exchange_tile.ensures.lies (search rules)
