use Rattle.std.proofs.Common.{rules, ℕ, ◌<◌, ◌≤◌, Some, subst, arith}
use Rattle.pic_tile.specs.Tile.{tile_in}
use Rattle.pic_yard.specs.Yards.{opening_of}
use Rattle.pic_yard.proofs.DrawnLaws.{draw_asked, past_serves, tile_held, tile_serves, tile_mail}
use Rattle.pic_yard.proofs.PostCalls.{serves_parts, tiles_seen}
use Rattle.pic_yard.proofs.yard.Yard.claim.Goals as goal

pub fetch_add-number-requires : goal.fetch_add-number-requires
fetch_add-number-requires c =
    let serves = serves_parts c.args.self.now c.self.inside c.args.seat.now c.self.view_is c.requires.serves in
    let words = c.self.invariant.words_are in (
      serves.own,
      omega (arith, words),
      draw_asked c.self.inside.table.shared.key.value c.self.inside.table.shared.table_id.slots c.args.seat.now.id c.args.seat.now.me
          serves.sits c.requires.fresh,
    )

pub returns-then-number-self-clause-serves : goal.returns-then-number-self-clause-serves
returns-then-number-self-clause-serves c =
    past_serves c.args.self.now c.args.seat.now c.fetch_add-number.new.seat c.fetch_add-number.result c.requires.serves c.fetch_add-number.ensures.0
    c.fetch_add-number.ensures.2
    (subst (λ (n : ℕ). n ≤ c.fetch_add-number.result) (tiles_seen c.args.self.now c.self.inside c.self.view_is c.self.invariant) (search rules))

pub exchange_tile-requires-clause-place : goal.exchange_tile-requires-clause-place
exchange_tile-requires-clause-place c = (
  Some (tile_in (opening_of c.args.self.now).tiles.items c.fetch_add-number.result),
  tile_held c.args.self.now c.args.seat.now c.fetch_add-number.new.seat c.fetch_add-number.result c.requires.serves c.fetch_add-number.ensures.2
      (subst (λ (n : ℕ). c.fetch_add-number.result < n) (tiles_seen c.args.self.now c.self.inside c.self.view_is c.self.invariant) (search rules))
      c.home.result c.home.ensures,
)

pub returns-clause-serves : goal.returns-clause-serves
returns-clause-serves c =
    tile_serves c.args.self.now c.args.seat.now c.fetch_add-number.new.seat c.fetch_add-number.result c.requires.serves c.fetch_add-number.ensures.2
    (subst (λ (n : ℕ). c.fetch_add-number.result < n) (tiles_seen c.args.self.now c.self.inside c.self.view_is c.self.invariant) (search rules))
    c.home.result c.home.ensures c.exchange_tile.new.seat c.exchange_tile.ensures.lies (search rules)

pub returns-clause-mail : goal.returns-clause-mail
returns-clause-mail c =
    tile_mail c.args.self.now c.args.seat.now c.fetch_add-number.new.seat c.fetch_add-number.result c.requires.serves c.fetch_add-number.ensures.2
    (subst (λ (n : ℕ). c.fetch_add-number.result < n) (tiles_seen c.args.self.now c.self.inside c.self.view_is c.self.invariant) (search rules))
    c.home.result c.home.ensures c.exchange_tile.new.seat c.exchange_tile.ensures.lies
