use Rattle.std.proofs.Common.{◌<◌, length, ap, ◌∙◌, arith}
use Rattle.std.proofs.lemmas.List.{get_or_default, length-set}
use Rattle.pic_tile.specs.Tile.{TileValue, parcel_at, no_tile}
use Rattle.pic_core.proofs.ScratchLaws.{bare_below, bare_more, bare_all}
use Rattle.pic_core.proofs.scratch.make_bare.Goals as goal

pub loop-number-init : goal.loop-number-init
loop-number-init c =
    let long = c.requires.long in
    record { long = long; bare = bare_below c.args.tiles.now (λ r d below within. c.requires.none r d (omega (arith, long, below)) within) }

pub make_numbered-requires : goal.make_numbered-requires
make_numbered-requires c = λ d within.
    let long = c.loop-number.invariant.long in
    let below : c.loop-number.number < length c.loop-number.tiles = omega (arith, c.loop-number-test.true, long) in
    ap (λ (t : TileValue). parcel_at t d) (get_or_default c.loop-number.tiles c.loop-number.number c.index-tiles-number.result no_tile below)
    ∙ c.loop-number.invariant.bare.none c.loop-number.number d below within

pub loop-number-preserved : goal.loop-number-preserved
loop-number-preserved c =
    let long = c.loop-number.invariant.long in
    record {
      long = length-set c.loop-number.tiles c.loop-number.number c.make_numbered.new.tile ∙ long;
      bare = bare_more c.loop-number.tiles c.loop-number.number c.make_numbered.new.tile (omega (arith, c.loop-number-test.true, long))
          c.loop-number.invariant.bare c.make_numbered.ensures.number c.make_numbered.ensures.none;
    }

pub returns : goal.returns
returns c = bare_all c.loop-number.tiles c.loop-number.number c.args.count (omega arith) c.loop-number.invariant.long c.loop-number.invariant.bare
