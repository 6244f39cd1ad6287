use Rattle.std.proofs.Common.{◌≡◌, ◌+◌, ◌*◌, ◌^◌, ℕ, refl, ◌∙◌, ap, arith}
use Rattle.pic_num.specs.declared.axis.Axis.TheVariants.{X}
use Rattle.pic_num.specs.Space.{triple}
use Rattle.pic_block.specs.Rows.{row_of}
use Rattle.pic_block.proofs.LayerLaws.{first_of, place_above, row_of-above, some_rows}
use Rattle.pic_block.proofs.LayerLaws.{layer_apart, layer_behind, layer_ends, layer_fits, layer_room, layers_all, layers_more, layers_none}
use Rattle.pic_block.proofs.layers.add_values.Goals as goal

pub add_layer-requires-clause-apart : goal.add_layer-requires-clause-apart
add_layer-requires-clause-apart c =
    let m = triple c.args.size in
    let o = triple c.args.offset in
    layer_apart m o.y (triple c.args.n).y (o.z + c.loop-z._z) c.requires.fits.y (omega (arith, c.loop-z-test.true, c.requires.fits.z))

pub add_layer-requires-clause-to_end : goal.add_layer-requires-clause-to_end
add_layer-requires-clause-to_end c =
    let m = triple c.args.size in
    let n = triple c.args.n in
    let o = triple c.args.offset in
    let fits = layer_fits m o.y (o.z + c.loop-z._z) n.y o.x n.x (some_rows n c.requires.some) c.requires.fits.y
    (omega (arith, c.loop-z-test.true, c.requires.fits.z)) c.requires.fits.x in
    omega (arith, fits, c.loop-z.invariant.at, c.loop-z.auto.to, c.requires.to_long)

pub add_layer-requires-clause-from_end : goal.add_layer-requires-clause-from_end
add_layer-requires-clause-from_end c =
    let n = triple c.args.n in
    let ends = layer_ends n c.loop-z._z (some_rows n c.requires.some) c.loop-z-test.true in
    omega (arith, ends, c.loop-z.invariant.from, c.requires.from_long)

pub add_layer-requires-clause-room : goal.add_layer-requires-clause-room
add_layer-requires-clause-room c =
    let m = triple c.args.size in
    let n = triple c.args.n in
    let walk = c.loop-z.invariant in
    layer_room m n (triple c.args.offset) c.args.from.now c.args.to.now c.loop-z._z c.loop-z.to c.loop-z.at c.loop-z.start (m.y * m.x * m.z)
    (n.y * n.x * n.z) c.requires.fits c.loop-z-test.true walk.added walk.at walk.from (omega arith) (omega arith) (2 ^ 120) c.requires.room

pub overflow_add-at-in-loop-z : goal.overflow_add-at-in-loop-z
overflow_add-at-in-loop-z c =
    let m = triple c.args.size in
    let n = triple c.args.n in
    let o = triple c.args.offset in
    let some = some_rows n c.requires.some in
    let behind = layer_behind m X o.y (o.z + c.loop-z._z) o.x (omega (arith, some, c.requires.fits.y))
    (omega (arith, c.loop-z-test.true, c.requires.fits.z)) (omega (arith, c.requires.fits.x)) in
    record { fits = omega (arith, behind, c.loop-z.invariant.at, c.requires.to_long) }

pub overflow_add-start : goal.overflow_add-start
overflow_add-start c =
    let n = triple c.args.n in
    let ends = layer_ends n c.loop-z._z (some_rows n c.requires.some) c.loop-z-test.true in
    record { fits = omega (arith, ends, c.loop-z.invariant.from, c.requires.from_long) }

pub loop-z-init : goal.loop-z-init
loop-z-init c =
    let o = triple c.args.offset in
    let none : o.z ≡ o.z + 0 = omega arith in
    record {
      at = (λ t. c.row_start.ensures.value t + o.x) ∙ ap (λ (k : ℕ). row_of (triple c.args.size) X o.y k + o.x) none;
      from = first_of (triple c.args.n);
      added = layers_none (triple c.args.size) (triple c.args.n) (triple c.args.offset) c.args.from.now c.args.to.now;
    }

pub loop-z-preserved : goal.loop-z-preserved
loop-z-preserved c =
    let m = triple c.args.size in
    let n = triple c.args.n in
    let o = triple c.args.offset in
    let walk = c.loop-z.invariant in
    record {
      at = place_above m X o.y (o.z + c.loop-z._z) _ o.x c.loop-z.at (omega arith) walk.at;
      from = row_of-above n X 0 c.loop-z._z _ c.loop-z.start refl walk.from;
      added = layers_more m n o c.args.from.now c.args.to.now c.loop-z._z c.loop-z.to _ _ _ _ c.requires.fits c.loop-z-test.true walk.added walk.at
          walk.from (omega arith) (omega arith) c.add_layer.new.to c.add_layer.ensures.inside c.add_layer.ensures.outside;
    }

pub returns : goal.returns
returns c =
    layers_all (triple c.args.size) (triple c.args.n) (triple c.args.offset) c.args.from.now c.args.to.now c.loop-z._z c.loop-z.to
    (omega (arith, c.loop-z-test.false, c.loop-z.auto._z-end)) c.loop-z.invariant.added
