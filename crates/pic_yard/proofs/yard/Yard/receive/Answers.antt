use Rattle.std.proofs.Common.{rules, ℕ, ◌∙◌, sym, ap, subst}
use Rattle.pic_yard.specs.Members.{In}
use Rattle.pic_yard.specs.Sits.{slot_at}
use Rattle.pic_yard.proofs.PostCalls.{tile_few}
use Rattle.pic_yard.proofs.ReceiveCalls.{receive_serves, receive_others}
use Rattle.pic_yard.proofs.yard.Yard.receive.Goals as goal

pub mailbox-requires : goal.mailbox-requires
mailbox-requires c =
    tile_few c.args.self.now c.args.seat.now c.right.inside.number c.requires.serves
    (c.requires.serves.sits.carries.inside c.right.inside.number
    (subst (λ (r : ℕ). In r c.args.seat.now.me.0.rights) (sym c.right.view_is) c.requires.right))

pub returns-clause-serves : goal.returns-clause-serves
returns-clause-serves c =
    receive_serves c.args.self.now c.args.seat.now c.exchange.new.seat c.args.right.now c.args.dir c.mailbox.result c.requires.serves
    c.requires.right (search rules) (c.mailbox.ensures ∙ ap (λ (r : ℕ). slot_at r c.args.dir) c.right.view_is) c.exchange.ensures.lies (search rules)

pub returns-clause-others : goal.returns-clause-others
returns-clause-others c =
    receive_others c.args.self.now c.args.seat.now c.exchange.new.seat c.args.right.now c.args.dir c.mailbox.result c.requires.serves
    c.requires.right (search rules) (c.mailbox.ensures ∙ ap (λ (r : ℕ). slot_at r c.args.dir) c.right.view_is) c.exchange.ensures.lies
