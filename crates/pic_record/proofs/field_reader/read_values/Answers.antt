use Rattle.std.proofs.Common.{◌≡◌, ◌+◌, ◌*◌, ◌<◌, length, take, refl, sym, ap, ◌∙◌, subst, arith, rules, to_z, of_z, length-set}
use Rattle.std.proofs.lemmas.Int.{to_z-of_z}
use Rattle.std.proofs.lemmas.List.{take_more_set}
use Rattle.std.proofs.Math.Seq.{take-length}
use mir.Syntax.{w128}
use mir.Val.{SFits}
use Rattle.pic_fields.specs.Parser.{each}
use Rattle.pic_fields.specs.Reads.{HasRead}
use Rattle.pic_fields.proofs.ReadLaws.{read_same, read_up_to}
use Rattle.pic_fields.proofs.EachLaws.{read_none, read_more, exits_among}
use Rattle.pic_record.specs.FrameFields.{IsModerate, value_at}
use Rattle.pic_record.proofs.FrameLaws.{each_set}
use Rattle.pic_record.proofs.field_reader.read_values.Goals as goal

pub loop-i-init : goal.loop-i-init
loop-i-init g c = record {
  read = read_up_to (omega arith) (read_none (value_at c.args.by.now) c.args.place _);
  length = refl;
  moderate = λ k d below. absurd (omega (arith, below));
}

pub returns-in_err-values-clause-reads : goal.returns-in_err-values-clause-reads
unfolding value_at
returns-in_err-values-clause-reads g c =
    exits_among (length c.args.values.now) c.loop-i.i (value_at c.args.by.now) c.from_residual.ensures.1
    c.loop-i-test.true (omega (arith, c.loop-i-test.true)) c.loop-i.invariant.read c.in_err-values.ensures.reads

pub loop-i-preserved : goal.loop-i-preserved
unfolding value_at
loop-i-preserved g c =
    let so_far = c.loop-i.invariant in
    let i = c.loop-i.i in
    let by = c.args.by.now in
    let v = c.in_ok-values.field-0 in
    let fits : SFits w128 v = search rules in
    let is : to_z w128 (of_z w128 v) ≡ v = to_z-of_z w128 v fits in
    let inside : i < length c.loop-i.values = omega (arith, so_far.length, c.loop-i-test.true) in
    let more = read_more i (value_at by) so_far.read c.in_ok-values.ensures.reads.answer in
    rw is (record {
      read = read_up_to (omega arith) (read_same (sym (take_more_set c.loop-i.values i v inside)) more);
      length = length-set _ _ _ ∙ so_far.length;
      moderate = each_set (IsModerate by) c.loop-i.values i v inside so_far.moderate c.in_ok-values.ensures.bounds;
    })

pub returns-clause-reads : goal.returns-clause-reads
returns-clause-reads g c =
    let so_far = c.loop-i.invariant in
    let values = c.loop-i.values in
    let all : c.loop-i.i ≡ length c.args.values.now = omega (arith, c.loop-i-test.false, c.loop-i.auto.i-end) in
    let whole : take c.loop-i.i values ≡ values = ap (λ n. take n values) (all ∙ sym so_far.length) ∙ take-length values in
    let before = g.S.Source.told c.args.source.now in
    let now = g.S.Source.told c.loop-i.source in
    record {
      answer = read_same whole (subst (λ n. HasRead (each n (value_at c.args.by.now)) c.args.place before (take c.loop-i.i values)
          (c.args.place + 16 * n) now) all so_far.read);
    }
