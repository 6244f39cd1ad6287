use Rattle.std.proofs.Common.{◌≡◌, ◌<◌, length, get_or, sym, ◌∙◌, ap, subst, arith}
use Rattle.std.proofs.lemmas.List.{get_or_default}
use Rattle.std.proofs.lemmas.List.Elements.{All-get_or}
use Rattle.std.specs.Option.{option_copied}
use Rattle.pic_block.specs.Block.{BlockValues}
use Rattle.pic_block.specs.Block.{no_block}
use Rattle.pic_field.specs.FieldPhases.{stop_of_full, no_drive}
use Rattle.pic_advance.specs.Blocks.{block_in, earlier}
use Rattle.pic_advance.specs.Driven.{CanBeDriven, IsDriven, current_in}
use Rattle.pic_advance.proofs.EachLaws.{stepping_none, stepping_more}
use Rattle.pic_advance.proofs.EarliestLaws.{earliest_zero, earliest_more}
use Rattle.pic_advance.proofs.full_step.full_in_turn.Goals as goal

pub loop-i-init : goal.loop-i-init
loop-i-init c =
    let step = c.args.step.now in
    (stepping_none (IsDriven step.scales.now step.b.now (current_in (option_copied step.current))) c.args.blocks.now, sym (earliest_zero _))

pub full_block-stop-requires-clause-can : goal.full_block-stop-requires-clause-can
full_block-stop-requires-clause-can c =
    let n = c.args.step.now.b.now.cells in
    let bs = c.loop-i.blocks in
    let i = c.loop-i.i in
    let below : i < length bs = omega arith in
    let same = get_or_default bs i c.index-blocks-i.result no_block below ∙ c.loop-i.invariant.0.rest i (omega arith) in
    subst (λ (b : BlockValues). CanBeDriven n b) (sym same)
    (All-get_or (CanBeDriven n) c.args.blocks.now i no_block c.loop-i-test.true c.requires.can)

pub loop-i-preserved : goal.loop-i-preserved
loop-i-preserved c =
    let step = c.args.step.now in
    let j = current_in (option_copied step.current) in
    let driven = IsDriven step.scales.now step.b.now j in
    let bs = c.loop-i.blocks in
    let i = c.loop-i.i in
    let u = c.full_block-stop.new.e in
    let was = get_or bs i c.index-blocks-i.result in
    let below : i < length bs = omega arith in
    let at : was ≡ block_in bs i = get_or_default bs i c.index-blocks-i.result no_block below in
    let from_start : was ≡ block_in c.args.blocks.now i = at ∙ c.loop-i.invariant.0.rest i (omega arith) in
    let stop = c.full_block-stop.ensures.stop ∙ ap (stop_of_full step.scales.now step.b.now no_drive j) from_start in
    let least = c.loop-i.invariant.1 in (
      stepping_more driven c.args.blocks.now bs i u below c.loop-i.invariant.0 (subst (λ (b : BlockValues). driven b u) at c.full_block-stop.ensures.driven),
      c.earlier-least.ensures ∙ (λ k. earlier (least k) (stop k)) ∙ sym (earliest_more _ i),
    )
