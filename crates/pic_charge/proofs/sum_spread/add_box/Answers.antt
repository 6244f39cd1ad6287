use Rattle.std.proofs.Common.{◌+◌, ◌*◌, ◌^◌, lit≤}
use Rattle.pic_num.specs.Limits.{most_side}
use Rattle.pic_grid.specs.Hat.{only_at}
use Rattle.pic_grid.specs.Pair.{weight_in}
use Rattle.pic_num.specs.Space.{triple}
use Rattle.pic_charge.specs.Sums.{nodes_in}
use Rattle.pic_charge.proofs.SpreadLaws.{only_most, weight_in_most, spread_size, room_after, low_share, high_share, box_added}
use Rattle.pic_charge.proofs.sum_spread.add_box.Goals as goal

pub add_plane-requires-clause-size : goal.add_plane-requires-clause-size
add_plane-requires-clause-size c =
    (low_share _ (2 ^ 17) c.args.amount c.times.result c.args.z c.requires.z c.requires.size (lit≤ tt) c.times.ensures).size

pub add_plane-requires-2-clause-size : goal.add_plane-requires-2-clause-size
add_plane-requires-2-clause-size c =
    (high_share _ (2 ^ 17) c.args.amount c.times-2.result c.args.z c.requires.z c.requires.size (lit≤ tt) c.times-2.ensures).size

pub add_plane-requires-2-clause-room : goal.add_plane-requires-2-clause-room
add_plane-requires-2-clause-room c =
    let s = c.args.z in
    let low = low_share _ (2 ^ 17) c.args.amount c.times.result s c.requires.z c.requires.size (lit≤ tt) c.times.ensures in
    room_after (nodes_in (triple c.args.n) c.args.sums.now) _ _ (2 ^ 62) (2 ^ 59) (2 ^ 62 + 2 ^ 59) c.requires.room c.add_plane.ensures.sums
    (λ p. spread_size _ (weight_in c.args.x) (weight_in c.args.y) (only_at s.low 1) p (2 ^ 17 * most_side) most_side most_side 1 low.size
    (weight_in_most _ c.args.x p.x c.requires.x) (weight_in_most _ c.args.y p.y c.requires.y) (only_most s.low 1 p.z))
    (lit≤ tt)

pub returns-clause-sums : goal.returns-clause-sums
returns-clause-sums c =
    let n = triple c.args.n in
    let s = c.args.z in
    let low = low_share _ (2 ^ 17) c.args.amount c.times.result s c.requires.z c.requires.size (lit≤ tt) c.times.ensures in
    let high = high_share _ (2 ^ 17) c.args.amount c.times-2.result s c.requires.z c.requires.size (lit≤ tt) c.times-2.ensures in
    box_added (nodes_in n c.args.sums.now) (nodes_in n c.add_plane.new.sums) (nodes_in n c.add_plane-2.new.sums)
    c.args.amount _ _ s (2 ^ 17) low high (weight_in c.args.x) (weight_in c.args.y)
    c.add_plane.ensures.sums c.add_plane-2.ensures.sums
