use Rattle.std.proofs.Common.{length, take, ap, ◌∙◌, arith, ◌≡◌}
use Rattle.std.proofs.Math.Seq.{take-length}
use Rattle.pic_header.specs.HeaderFields.{loops_length}
use Rattle.pic_header.proofs.LoopLaws.{loops_so_far}
use Rattle.pic_header.proofs.header.loops_length.Goals as goal

pub returns-clause-value : goal.returns-clause-value
returns-clause-value c =
    let loops = c.args.loops.now in
    let all : c.loop-one.one-index ≡ length loops = omega (arith, c.loop-one-test.false, c.loop-one.auto.one-index-end) in
    c.loop-one.invariant ∙ ap loops_length (ap (λ i. take i loops) all ∙ take-length loops)

pub returns-clause-most : goal.returns-clause-most
returns-clause-most c =
    let most = loops_so_far c.args.loops.now c.loop-one.one-index c.requires.waves in
    omega (arith, c.loop-one.invariant, most)

pub overflow_add-bytes : goal.overflow_add-bytes
overflow_add-bytes c =
    let most = loops_so_far c.args.loops.now c.loop-one.one-index c.requires.waves in
    omega (arith, c.loop-one.invariant, most, c.requires.few, c.loop_length-bytes.ensures.most)
