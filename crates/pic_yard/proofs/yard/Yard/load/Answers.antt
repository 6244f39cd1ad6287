use Rattle.std.proofs.Common.{rules, Some, None}
use Rattle.pic_yard.specs.declared.slot_content.SlotContent.TheVariants as holds
use Rattle.pic_yard.proofs.LoadLaws.{box_held, has_loaded}
use Rattle.pic_yard.proofs.PostCalls.{tile_few}
use Rattle.pic_yard.proofs.yard.Yard.load.Goals as goal

pub home-requires : goal.home-requires
home-requires c = tile_few c.args.self.now c.args.seat.now c.args.to c.requires.serves
    (c.requires.serves.sits.carries.near c.args.to c.args.dir c.requires.lists).0

pub mailbox-requires : goal.mailbox-requires
mailbox-requires c = tile_few c.args.self.now c.args.seat.now c.args.to c.requires.serves
    (c.requires.serves.sits.carries.near c.args.to c.args.dir c.requires.lists).0

pub exchange-requires-clause-held : goal.exchange-requires-clause-held
exchange-requires-clause-held c = (
  None,
  box_held c.args.self.now c.args.seat.now c.bring.new.seat c.args.to c.args.dir c.requires.serves c.requires.lists
      (Some (holds.Parcel c.args.parcel)) c.requires.parcel c.home.result c.mailbox.result c.home.ensures c.mailbox.ensures c.bring.ensures.slots,
)

pub returns : goal.returns
returns c =
    has_loaded c.args.self.now c.args.seat.now c.bring.new.seat c.args.to c.args.dir c.requires.serves c.requires.lists
    (Some (holds.Parcel c.args.parcel)) c.requires.parcel c.home.result c.mailbox.result c.home.ensures c.mailbox.ensures c.bring.ensures.slots
    c.exchange.new.seat c.exchange.ensures.lies (search rules)
