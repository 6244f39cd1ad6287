use Rattle.std.proofs.Common.{◌≡◌, ◌++◌, length, take, ap, ◌∙◌, arith}
use Rattle.std.proofs.Math.Seq.{take-length}
use Rattle.std.specs.Prelude.{flat_map}
use Rattle.pic_fields.specs.Number.{i64_bytes}
use Rattle.pic_header.specs.HeaderText.{wave_bytes}
use Rattle.pic_header.proofs.heading.push_wave.Goals as goal

pub returns-clause-bytes : goal.returns-clause-bytes
unfolding wave_bytes
returns-clause-bytes c =
    let wave = c.args.wave.now in
    let all : c.loop-number.number-index ≡ length wave = omega (arith, c.loop-number-test.false, c.loop-number.auto.number-index-end) in
    let whole = ap (λ i. take i wave) all ∙ take-length wave in
    c.loop-number.invariant.bytes ∙ ap (λ vs. c.args.text.now ++ flat_map i64_bytes vs) whole
