use Rattle.std.proofs.Common.{◌<◌, rules}
use Rattle.pic_tile.specs.Directions.{directions}
use Rattle.pic_tile.proofs.ReceivedLaws.{MayMerge}
use Rattle.pic_yard.specs.Yards.{opening_of}
use Rattle.pic_crew.proofs.TakeLaws.{can_merge, one_taken}
use Rattle.pic_crew.proofs.finishing.take_one.Goals as goal

may : (c : goal.After-merge-arg-1) → MayMerge c.receive-parcel.result c.args.tile.now
may c =
    let sits = c.requires.serves.sits in
    let below : c.args.dir < directions = search rules in
    can_merge (opening_of c.args.yard.now) sits.sound sits.opens c.args.right.now c.args.dir c.args.tile.now c.receive-parcel.result
    (sits.carries.inside c.args.right.now c.requires.right) below c.receive-parcel.ensures.parcel c.requires.can

pub merge-requires-clause-zone : goal.merge-requires-clause-zone
merge-requires-clause-zone c = (may c).zone

pub merge-requires-clause-layers : goal.merge-requires-clause-layers
merge-requires-clause-layers c = (may c).layers

pub merge-requires-clause-room : goal.merge-requires-clause-room
merge-requires-clause-room c = (may c).room

pub merge-requires-clause-small : goal.merge-requires-clause-small
merge-requires-clause-small c = (may c).small

pub returns-clause-tile : goal.returns-clause-tile
returns-clause-tile c =
    let sits = c.requires.serves.sits in
    let below : c.args.dir < directions = search rules in
    one_taken (opening_of c.args.yard.now) sits.sound sits.opens c.args.right.now c.args.dir c.args.tile.now c.receive-parcel.result
    (sits.carries.inside c.args.right.now c.requires.right) below c.receive-parcel.ensures.parcel c.merge.new.tile c.merge.ensures
