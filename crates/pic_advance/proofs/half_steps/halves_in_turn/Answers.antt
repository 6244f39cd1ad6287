use Rattle.std.proofs.Common.{◌<◌, length, arith}
use Rattle.std.proofs.lemmas.List.{get_or_default}
use Rattle.pic_block.specs.Block.{no_block}
use Rattle.pic_advance.specs.Halves.{CanHalve, AreHalves}
use Rattle.pic_advance.proofs.HalvesLaws.{halving_none, halving_more, halving_all}
use Rattle.pic_advance.proofs.PairLaws.{can_next}
use Rattle.pic_advance.proofs.half_steps.halves_in_turn.Goals as goal

pub loop-i-init : goal.loop-i-init
loop-i-init c = halving_none c.args.step.now.scales.now c.args.step.now.e.now c.args.blocks.now c.args.force.now

pub halves_of_block-stops-requires-clause-can : goal.halves_of_block-stops-requires-clause-can
halves_of_block-stops-requires-clause-can c =
    let step = c.args.step.now in
    let bs = c.loop-i.blocks in
    let fs = c.loop-i.force in
    let i = c.loop-i.i in
    let d = c.loop-i.invariant in
    let test = c.loop-i-test.true in
    let below : i < length bs = omega (arith, test, d.pairs.long) in
    let inside : i < length fs = omega (arith, test, d.pairs.beside, c.requires.can.long) in
    can_next (CanHalve step.e.now.cells) (AreHalves step.scales.now step.e.now) c.args.blocks.now c.args.force.now bs fs
    i _ _ c.requires.can d.pairs (omega (arith, test))
    (get_or_default bs i c.index-blocks-i.result no_block below) (get_or_default fs i c.index-force-i.result no_block inside)

pub loop-i-preserved : goal.loop-i-preserved
loop-i-preserved c =
    let step = c.args.step.now in
    let bs = c.loop-i.blocks in
    let fs = c.loop-i.force in
    let i = c.loop-i.i in
    let d = c.loop-i.invariant in
    let test = c.loop-i-test.true in
    let below : i < length bs = omega (arith, test, d.pairs.long) in
    let inside : i < length fs = omega (arith, test, d.pairs.beside, c.requires.can.long) in
    let one = c.halves_of_block-stops.ensures in
    halving_more step.scales.now step.e.now c.args.blocks.now c.args.force.now bs fs c.loop-i.first c.loop-i.second
    c.halves_of_block-stops.result.0 c.halves_of_block-stops.result.1 c.earlier-first.result c.earlier-second.result i _ _ c.halves_of_block-stops.new.b
    c.halves_of_block-stops.new.force c.requires.can.long d (omega (arith, test))
    (get_or_default bs i c.index-blocks-i.result no_block below) (get_or_default fs i c.index-force-i.result no_block inside) one.halves one.first
    one.second c.earlier-first.ensures c.earlier-second.ensures

pub returns : goal.returns
returns c =
    let d = c.loop-i.invariant in
    let low = c.loop-i.auto.i-end in
    let high = c.loop-i-test.false in
    let step = c.args.step.now in
    halving_all step.scales.now step.e.now c.args.blocks.now c.args.force.now c.loop-i.blocks c.loop-i.force
    c.loop-i.first c.loop-i.second c.loop-i.i c.requires.can.long (omega (arith, low, high)) d
