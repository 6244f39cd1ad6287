use Rattle.std.proofs.Common.{◌≡◌, ◌++◌, length, take, ap, ◌∙◌, arith}
use Rattle.std.proofs.Math.Seq.{take-length}
use Rattle.std.specs.Prelude.{flat_map}
use Rattle.pic_header.specs.HeaderText.{loop_bytes, loops_bytes}
use Rattle.pic_header.proofs.heading.push_loops.Goals as goal

pub returns : goal.returns
unfolding loops_bytes
returns c =
    let loops = c.args.loops.now in
    let all : c.loop-one.one-index ≡ length loops = omega (arith, c.loop-one-test.false, c.loop-one.auto.one-index-end) in
    let whole = ap (λ i. take i loops) all ∙ take-length loops in
    c.loop-one.invariant.bytes ∙ ap (λ ls. c.args.text.now ++ flat_map loop_bytes ls) whole
