use Rattle.std.proofs.Common.{◌≡◌, ◌++◌, List, length, take, drop, sym, ap, ◌∙◌, subst, arith}
use Rattle.pic_tile.specs.Tile.{TileValue}
use Rattle.pic_yard.specs.declared.yard.Yard.{Yard}
use Rattle.pic_yard.specs.Contents.{tiles_in}
use Rattle.pic_yard.specs.Ended.{AreMerged}
use Rattle.pic_yard.specs.Inside.{yard_of}
use Rattle.pic_yard.specs.Seats.{HasAllNumbers}
use Rattle.pic_yard.specs.Unloading.{slots_in}
use Rattle.pic_yard.specs.Yards.{opening_of, view_of}
use Rattle.pic_yard.proofs.CloseLaws.{all_finished, all_merged, have_exchanged, keep_the_bound, whole_room}
use Rattle.pic_yard.proofs.yard.Yard.close.Goals as goal

pub unload-requires-clause-homes : goal.unload-requires-clause-homes
unload-requires-clause-homes c t below =
    let o = opening_of (yard_of c.self.inside) in
    let all = subst (λ (y : Yard). HasAllNumbers (opening_of y).seats (view_of c.args.seat)) (sym c.self.view_is) c.requires.all in
    let count : length c.as_mut_slice.result.now ≡ tiles_in o =
    ap (λ (ts : List TileValue). length ts) c.as_mut_slice.ensures.value ∙ c.self.invariant.room_is ∙ c.self.invariant.tiles_are in
    let f = all_finished o c.args.seat.id c.args.seat.me.0 _ (slots_in c.close_with-closed.result) c.close_with-closed.ensures.values.2
    c.requires.serves.sits.live all c.requires.ended t (omega (arith, below, count)) in
    record { tile = f.tile; lies = f.lies }

merged : (c : goal.After-free) → AreMerged (opening_of c.args.self) (take c.self.inside.room.len
    (c.unload.new.tiles ++ drop (length c.unload.new.tiles) c.self.inside.room.items))
merged c =
    let o = opening_of (yard_of c.self.inside) in
    let all = subst (λ (y : Yard). HasAllNumbers (opening_of y).seats (view_of c.args.seat)) (sym c.self.view_is) c.requires.all in
    let room = c.self.inside.room in
    let was : length c.as_mut_slice.result.now ≡ length room.items = ap (λ (ts : List TileValue). length ts) c.as_mut_slice.ensures.value in
    let long : length c.unload.new.tiles ≡ length room.items = c.unload.ensures.long ∙ was in
    let count : length c.unload.new.tiles ≡ tiles_in o = long ∙ c.self.invariant.room_is ∙ c.self.invariant.tiles_are in
    let parts : AreMerged o c.unload.new.tiles =
    all_merged o (slots_in c.close_with-closed.result) c.unload.new.tiles
    (all_finished o c.args.seat.id c.args.seat.me.0 _ (slots_in c.close_with-closed.result) c.close_with-closed.ensures.values.2
    c.requires.serves.sits.live all c.requires.ended) count
    (λ r below. c.unload.ensures.tiles r (omega (arith, below, long, was))) in
    subst (λ (ts : List TileValue). AreMerged (opening_of c.args.self) ts) (sym (whole_room room.len c.unload.new.tiles room.items room.ok.0 long))
    (subst (λ (y : Yard). AreMerged (opening_of y) c.unload.new.tiles) c.self.view_is parts)

pub returns-clause-frame : goal.returns-clause-frame
returns-clause-frame c = c.self.invariant.frame_is ∙ ap (λ (y : Yard). (opening_of y).frame) c.self.view_is

pub returns-clause-merged : goal.returns-clause-merged
returns-clause-merged c = merged c

pub returns-clause-exchanged : goal.returns-clause-exchanged
returns-clause-exchanged c =
    let sits = c.requires.serves.sits in
    have_exchanged (opening_of c.args.self) sits.sound sits.opens _ (merged c)

pub returns-clause-bound : goal.returns-clause-bound
returns-clause-bound c =
    let sits = c.requires.serves.sits in
    keep_the_bound (opening_of c.args.self) sits.sound sits.opens _ (merged c)
