use Rattle.std.proofs.Common.{◌*◌, ◌^◌, lit≤}
use Rattle.pic_num.specs.Limits.{most_side}
use Rattle.pic_grid.specs.Hat.{only_at}
use Rattle.pic_grid.specs.Pair.{weight_in}
use Rattle.pic_charge.proofs.SpreadLaws.{only_most, weight_in_most, spread_size, room_after, low_share, high_share, plane_added}
use Rattle.pic_charge.proofs.spread.add_plane.Goals as goal

pub add_line-requires-clause-size : goal.add_line-requires-clause-size
add_line-requires-clause-size c =
    (low_share _ (2 ^ 33) c.args.amount c.times.result c.args.y c.requires.y c.requires.size (lit≤ tt) c.times.ensures).size

pub add_line-requires-2-clause-size : goal.add_line-requires-2-clause-size
add_line-requires-2-clause-size c =
    (high_share _ (2 ^ 33) c.args.amount c.times-2.result c.args.y c.requires.y c.requires.size (lit≤ tt) c.times-2.ensures).size

pub add_line-requires-2-clause-room : goal.add_line-requires-2-clause-room
add_line-requires-2-clause-room c =
    let s = c.args.y in
    let low = low_share _ (2 ^ 33) c.args.amount c.times.result s c.requires.y c.requires.size (lit≤ tt) c.times.ensures in
    room_after c.args.to.now _ _ (2 ^ 88) (2 ^ 61) (2 ^ 89) c.requires.room c.add_line.ensures
    (λ p. spread_size _ (weight_in c.args.x) (only_at s.low 1) (only_at c.args.z 1) p (2 ^ 33 * most_side) most_side 1 1 low.size
    (weight_in_most _ c.args.x p.x c.requires.x) (only_most s.low 1 p.y) (only_most c.args.z 1 p.z))
    (lit≤ tt)

pub returns : goal.returns
returns c =
    let s = c.args.y in
    let low = low_share _ (2 ^ 33) c.args.amount c.times.result s c.requires.y c.requires.size (lit≤ tt) c.times.ensures in
    let high = high_share _ (2 ^ 33) c.args.amount c.times-2.result s c.requires.y c.requires.size (lit≤ tt) c.times-2.ensures in
    plane_added c.args.to.now c.add_line.new.to c.add_line-2.new.to c.args.amount _ _ s (2 ^ 33) low high (weight_in c.args.x) (only_at c.args.z 1)
    c.add_line.ensures c.add_line-2.ensures
