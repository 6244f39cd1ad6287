use Rattle.std.proofs.Common.{◌≡◌, ◌++◌, length, take, ap, ◌∙◌, arith}
use Rattle.std.proofs.Math.Seq.{take-length}
use Rattle.std.specs.Prelude.{flat_map}
use Rattle.pic_header.specs.HeaderText.{head_bytes, heads_bytes}
use Rattle.pic_header.proofs.heading.push_heads.Goals as goal

pub returns-clause-bytes : goal.returns-clause-bytes
unfolding heads_bytes
returns-clause-bytes c =
    let heads = c.args.heads.now in
    let all : c.loop-head.head-index ≡ length heads = omega (arith, c.loop-head-test.false, c.loop-head.auto.head-index-end) in
    let whole = ap (λ i. take i heads) all ∙ take-length heads in
    c.loop-head.invariant.bytes ∙ ap (λ hs. c.args.text.now ++ flat_map head_bytes hs) whole
