use Rattle.std.proofs.Common.{◌+◌, ◌*◌, ◌^◌, lit≤}
use Rattle.pic_num.specs.Limits.{most_side}
use Rattle.pic_grid.specs.Hat.{only_at}
use Rattle.pic_grid.specs.Pair.{weight_in}
use Rattle.pic_num.specs.Space.{triple}
use Rattle.pic_charge.specs.Sums.{nodes_in}
use Rattle.pic_charge.proofs.SpreadLaws.{only_most, weight_in_most, spread_size, room_after, low_share, high_share, plane_added}
use Rattle.pic_charge.proofs.sum_spread.add_plane.Goals as goal

pub add_line-requires-clause-size : goal.add_line-requires-clause-size
add_line-requires-clause-size c =
    (low_share _ (2 ^ 31) c.args.amount c.times.result c.args.y c.requires.y c.requires.size (lit≤ tt) c.times.ensures).size

pub add_line-requires-2-clause-size : goal.add_line-requires-2-clause-size
add_line-requires-2-clause-size c =
    (high_share _ (2 ^ 31) c.args.amount c.times-2.result c.args.y c.requires.y c.requires.size (lit≤ tt) c.times-2.ensures).size

pub add_line-requires-2-clause-room : goal.add_line-requires-2-clause-room
add_line-requires-2-clause-room c =
    let s = c.args.y in
    let low = low_share _ (2 ^ 31) c.args.amount c.times.result s c.requires.y c.requires.size (lit≤ tt) c.times.ensures in
    room_after (nodes_in (triple c.args.n) c.args.sums.now) _ _ (2 ^ 62 + 2 ^ 59) (2 ^ 59) (2 ^ 62 + 2 * 2 ^ 59) c.requires.room c.add_line.ensures.sums
    (λ p. spread_size _ (weight_in c.args.x) (only_at s.low 1) (only_at c.args.z 1) p (2 ^ 31 * most_side) most_side 1 1 low.size
    (weight_in_most _ c.args.x p.x c.requires.x) (only_most s.low 1 p.y) (only_most c.args.z 1 p.z))
    (lit≤ tt)

pub returns-clause-sums : goal.returns-clause-sums
returns-clause-sums c =
    let n = triple c.args.n in
    let s = c.args.y in
    let low = low_share _ (2 ^ 31) c.args.amount c.times.result s c.requires.y c.requires.size (lit≤ tt) c.times.ensures in
    let high = high_share _ (2 ^ 31) c.args.amount c.times-2.result s c.requires.y c.requires.size (lit≤ tt) c.times-2.ensures in
    plane_added (nodes_in n c.args.sums.now) (nodes_in n c.add_line.new.sums) (nodes_in n c.add_line-2.new.sums)
    c.args.amount _ _ s (2 ^ 31) low high (weight_in c.args.x) (only_at c.args.z 1)
    c.add_line.ensures.sums c.add_line-2.ensures.sums
