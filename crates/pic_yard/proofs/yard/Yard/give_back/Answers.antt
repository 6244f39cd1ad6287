use Rattle.std.proofs.Common.{ℕ, sym, ◌∙◌, subst}
use Rattle.pic_yard.specs.declared.yard.Yard.{Yard}
use Rattle.pic_yard.specs.Inside.{yard_of}
use Rattle.pic_yard.specs.Members.{In}
use Rattle.pic_yard.specs.Returns.{IsPutHome}
use Rattle.pic_yard.specs.Yards.{opening_of}
use Rattle.pic_yard.proofs.PostCalls.{word_there, serves_parts}
use Rattle.pic_yard.proofs.ReceiveCalls.{give_asked, back_view, back_serves, back_keeps}
use Rattle.pic_yard.proofs.yard.Yard.give_back.Goals as goal

pub store-requires : goal.store-requires
store-requires c = (
  c.put_home.ensures.table ∙ (serves_parts c.args.self.now c.self.inside c.args.seat.now c.self.view_is c.requires.serves).own,
  word_there c.args.self.now c.self.inside c.right.inside.number c.self.view_is c.self.invariant (c.requires.serves.sits.carries.inside c.right.inside.number
      (subst (λ (r : ℕ). In r c.args.seat.now.me.0.rights) (sym c.right.view_is) c.requires.right)),
  give_asked (yard_of c.self.inside) c.args.seat.now c.put_home.new.seat c.args.right c.right.inside.number
      (serves_parts c.args.self.now c.self.inside c.args.seat.now c.self.view_is c.requires.serves) c.requires.right
      (subst (λ (y : Yard). IsPutHome (opening_of y) c.args.seat.now c.put_home.new.seat c.right.inside.number) (sym c.self.view_is) c.put_home.ensures)
      c.right.view_is c.self.inside.table.shared.table_id.slots c.put_home.new.seat.id,
)

pub returns-clause-serves : goal.returns-clause-serves
returns-clause-serves c =
    back_serves c.args.self.now c.args.seat.now c.put_home.new.seat c.args.right c.right.inside.number c.requires.serves c.requires.right
    c.put_home.ensures c.right.view_is
    c.store.new.seat c.store.ensures.2 c.store.ensures.0

pub returns-clause-view : goal.returns-clause-view
returns-clause-view c =
    back_view c.args.self.now c.args.seat.now c.put_home.new.seat c.args.right c.right.inside.number c.requires.serves c.requires.right
    c.put_home.ensures c.right.view_is
    c.store.new.seat c.store.ensures.2

pub returns-clause-kept : goal.returns-clause-kept
returns-clause-kept c =
    back_keeps c.args.self.now c.args.seat.now c.put_home.new.seat c.args.right c.right.inside.number c.requires.serves c.requires.right
    c.put_home.ensures c.right.view_is
    c.store.new.seat c.store.ensures.2
