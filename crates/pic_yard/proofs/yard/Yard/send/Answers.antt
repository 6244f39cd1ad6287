use Rattle.std.proofs.Common.{sym, ◌∙◌, subst}
use Rattle.pic_yard.specs.declared.yard.Yard.{Yard}
use Rattle.pic_yard.specs.Loads.{HasLoaded}
use Rattle.pic_yard.specs.Yards.{opening_of}
use Rattle.pic_yard.proofs.PostCalls.{post_asked, post_few, post_serves, post_keeps, post_mail, has_posted, word_there, serves_parts, mail_for}
use Rattle.pic_yard.proofs.yard.Yard.send.Goals as goal

pub fetch_add-arrived-requires : goal.fetch_add-arrived-requires
fetch_add-arrived-requires c = (
  c.load.ensures.table ∙ (serves_parts c.args.self.now c.self.inside c.args.seat.now c.self.view_is c.requires.serves).own,
  word_there c.args.self.now c.self.inside c.args.to c.self.view_is c.self.invariant
      (c.requires.serves.sits.carries.near c.args.to c.args.dir c.requires.lists).0,
  let load = subst (λ (y : Yard). HasLoaded (opening_of y) c.args.seat.now c.load.new.seat c.args.to c.args.dir) (sym c.self.view_is) c.load.ensures in
      post_asked c.self.inside.table.shared.key.value c.self.inside.table.shared.table_id.slots c.load.new.seat.id c.load.new.seat.me c.args.to
      c.args.dir (c.requires.serves.sits.carries.near c.args.to c.args.dir c.requires.lists).1 load.parcel load.loaded,
)

pub answer-requires : goal.answer-requires
answer-requires c =
    post_few c.args.self.now c.args.seat.now c.load.new.seat c.fetch_add-arrived.new.seat c.args.to c.args.dir c.fetch_add-arrived.result
    c.requires.serves c.requires.lists c.load.ensures c.fetch_add-arrived.ensures.2

pub returns-clause-serves : goal.returns-clause-serves
returns-clause-serves c =
    post_serves c.args.self.now c.args.seat.now c.load.new.seat c.fetch_add-arrived.new.seat c.args.to c.args.dir c.fetch_add-arrived.result
    c.requires.serves c.requires.lists c.load.ensures c.fetch_add-arrived.ensures.2
    c.fetch_add-arrived.ensures.0

pub returns-clause-posted : goal.returns-clause-posted
returns-clause-posted c =
    has_posted c.args.self.now c.args.seat.now c.load.new.seat c.fetch_add-arrived.new.seat c.args.to c.args.dir c.fetch_add-arrived.result
    c.requires.serves c.requires.lists c.load.ensures c.fetch_add-arrived.ensures.2
    c.answer.result c.answer.ensures

pub returns-clause-mail : goal.returns-clause-mail
returns-clause-mail c =
    mail_for (opening_of c.args.self.now) c.fetch_add-arrived.new.seat c.args.to c.fetch_add-arrived.result c.answer.result c.answer.ensures
    (post_mail c.args.self.now c.args.seat.now c.load.new.seat c.fetch_add-arrived.new.seat c.args.to c.args.dir c.fetch_add-arrived.result
    c.requires.serves c.requires.lists c.load.ensures c.fetch_add-arrived.ensures.2)

pub returns-clause-kept : goal.returns-clause-kept
returns-clause-kept c =
    post_keeps c.args.self.now c.args.seat.now c.load.new.seat c.fetch_add-arrived.new.seat c.args.to c.args.dir c.fetch_add-arrived.result
    c.requires.serves c.requires.lists c.load.ensures c.fetch_add-arrived.ensures.2
