use Rattle.std.proofs.Common.{◌+◌, ◌*◌, ◌^◌, lit≤}
use Rattle.pic_num.specs.Limits.{most_side}
use Rattle.pic_grid.specs.Hat.{only_at}
use Rattle.pic_num.specs.Space.{triple}
use Rattle.pic_charge.specs.Sums.{nodes_in}
use Rattle.pic_charge.proofs.SpreadLaws.{only_most, spread_size, room_after, low_share, high_share, line_added}
use Rattle.pic_charge.proofs.sum_spread.add_line.Goals as goal

pub add-requires-clause-size : goal.add-requires-clause-size
add-requires-clause-size c =
    (low_share _ (2 ^ 45) c.args.amount c.times.result c.args.x c.requires.x c.requires.size (lit≤ tt) c.times.ensures).size

pub add-requires-2-clause-size : goal.add-requires-2-clause-size
add-requires-2-clause-size c =
    (high_share _ (2 ^ 45) c.args.amount c.times-2.result c.args.x c.requires.x c.requires.size (lit≤ tt) c.times-2.ensures).size

pub add-requires-2-clause-room : goal.add-requires-2-clause-room
add-requires-2-clause-room c =
    let s = c.args.x in
    let low = low_share _ (2 ^ 45) c.args.amount c.times.result s c.requires.x c.requires.size (lit≤ tt) c.times.ensures in
    room_after (nodes_in (triple c.args.n) c.args.sums.now) _ _ (2 ^ 62 + 2 * 2 ^ 59) (2 ^ 59) (2 ^ 62 + 3 * 2 ^ 59) c.requires.room c.add.ensures.sums
    (λ p. spread_size _ (only_at s.low 1) (only_at c.args.y 1) (only_at c.args.z 1) p (2 ^ 45 * most_side) 1 1 1 low.size
    (only_most s.low 1 p.x) (only_most c.args.y 1 p.y) (only_most c.args.z 1 p.z))
    (lit≤ tt)

pub returns-clause-sums : goal.returns-clause-sums
returns-clause-sums c =
    let n = triple c.args.n in
    let s = c.args.x in
    let low = low_share _ (2 ^ 45) c.args.amount c.times.result s c.requires.x c.requires.size (lit≤ tt) c.times.ensures in
    let high = high_share _ (2 ^ 45) c.args.amount c.times-2.result s c.requires.x c.requires.size (lit≤ tt) c.times-2.ensures in
    line_added (nodes_in n c.args.sums.now) (nodes_in n c.add.new.sums) (nodes_in n c.add-2.new.sums)
    c.args.amount _ _ s (2 ^ 45) low high (only_at c.args.y 1) (only_at c.args.z 1)
    c.add.ensures.sums c.add-2.ensures.sums
