use Rattle.std.proofs.Common.{◌≡◌, ◌<◌, length, to_z, of_z, ◌∙◌, arith}
use mir.Syntax.{w128}
use Rattle.pic_num.proofs.SizeLaws.{codes, code_is}
use Rattle.pic_filter.specs.Kept.{taken}
use Rattle.pic_filter.specs.Runs.{three_at}
use Rattle.pic_filter.proofs.KeptLaws.{taken_more}
use Rattle.pic_filter.proofs.kept.take_run.Goals as goal

pub loop-i-preserved : goal.loop-i-preserved
loop-i-preserved c =
    let i = c.loop-i.i in
    let three = c.args.three.now in
    let inside : i < length c.loop-i.kept = omega arith in
    let next : to_z w128 (of_z w128 c.weigh_three.result) ≡ three_at three i = code_is (search codes depth 6) tt ∙ c.weigh_three.ensures.value in
    let before = c.loop-i.invariant.rest i (omega arith) in
    taken_more (three_at three) i c.args.kept.now c.loop-i.kept c.with.result inside c.loop-i.invariant (c.with.ensures ∙ (λ j. taken (before j) (next j)))
