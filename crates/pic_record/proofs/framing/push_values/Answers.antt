use Rattle.std.proofs.Common.{◌≡◌, pos, ◌++◌, length, take, slice_index_or, rules, ap, sym, ◌∙◌, append_assoc, append-nil, arith}
use Rattle.std.proofs.Math.Seq.{take-length}
use Rattle.std.proofs.lemmas.Int.{to_z-of_z}
use mir.Syntax.{w128}
use mir.Val.{SFits}
use Rattle.std.specs.Prelude.{flat_map}
use Rattle.pic_num.specs.Bytes.{i128_bytes}
use Rattle.pic_record.specs.RecordText.{values_bytes}
use Rattle.pic_record.proofs.Waits.{flat_map-more}
use Rattle.pic_record.proofs.framing.push_values.Goals as goal

pub loop-value-init : goal.loop-value-init
loop-value-init c = record { bytes = sym (append-nil c.args.room.now); len = omega arith }

pub loop-value-preserved : goal.loop-value-preserved
loop-value-preserved c =
    let run = c.args.run.now in
    let so_far = c.loop-value.invariant in
    let value = slice_index_or run c.loop-value.value-index (pos 0) in
    let fits : SFits w128 value = search rules in
    let bytes = ap i128_bytes (to_z-of_z w128 value fits) in
    record {
      bytes = c.push_i128.ensures.bytes
          ∙ ap (λ b. c.loop-value.room ++ b) bytes
          ∙ ap (λ r. r ++ i128_bytes value) so_far.bytes
          ∙ append_assoc c.args.room.now (flat_map i128_bytes (take c.loop-value.value-index run)) (i128_bytes value)
          ∙ ap (λ b. c.args.room.now ++ b) (flat_map-more i128_bytes run c.loop-value.value-index (pos 0) c.loop-value-test.true);
      len = omega (arith, so_far.len, c.push_i128.ensures.len);
    }

pub returns : goal.returns
unfolding values_bytes
returns c =
    let run = c.args.run.now in
    let all : c.loop-value.value-index ≡ length run = omega (arith, c.loop-value-test.false, c.loop-value.auto.value-index-end) in
    c.loop-value.invariant.bytes ∙ ap (λ b. c.args.room.now ++ flat_map i128_bytes b) (ap (λ i. take i run) all ∙ take-length run)
