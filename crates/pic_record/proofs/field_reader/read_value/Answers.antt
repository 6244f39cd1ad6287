use Rattle.std.proofs.Common.{◌≡◌, ℤ, refl, sym, ◌∙◌, rules, to_z, of_z}
use Rattle.std.proofs.lemmas.Result.{IfOk-from_err}
use Rattle.std.proofs.lemmas.Int.{to_z-of_z}
use mir.Syntax.{w128}
use mir.Val.{SFits}
use Rattle.pic_num.specs.Multiplier.{Multiplier}
use Rattle.pic_fields.proofs.ReadLaws.{passes, refuses, exits_checked}
use Rattle.pic_record.specs.FrameFields.{is_moderate}
use Rattle.pic_record.proofs.field_reader.read_value.Goals as goal

-- the code's number is the number
code_moderate : (by : Multiplier) (v : ℤ) → SFits w128 v → is_moderate by (to_z w128 (of_z w128 v)) ≡ is_moderate by v
code_moderate by v fits = rw (to_z-of_z w128 v fits) refl

pub returns-in_err-value-clause-reads : goal.returns-in_err-value-clause-reads
returns-in_err-value-clause-reads g c = exits_checked _ _ c.from_residual.ensures.1 c.in_err-value.ensures

pub returns-then-not-has_moderate-clause-reads : goal.returns-then-not-has_moderate-clause-reads
returns-then-not-has_moderate-clause-reads g c =
    let fits : SFits w128 c.in_ok-value.value = search rules in
    rw c.at.ensures (record {
      answer = refuses _ (is_moderate c.args.by.now) c.in_ok-value.ensures.answer
          (sym (code_moderate c.args.by.now c.in_ok-value.value fits) ∙ sym c.has_moderate.ensures ∙ c.if-not-has_moderate.true);
    })

pub returns-clause-reads : goal.returns-clause-reads
returns-clause-reads g c =
    let fits : SFits w128 c.in_ok-value.value = search rules in
    rw (to_z-of_z w128 c.in_ok-value.value fits) (record {
      answer = passes _ (is_moderate c.args.by.now) c.in_ok-value.ensures.answer
          (sym (code_moderate c.args.by.now c.in_ok-value.value fits) ∙ sym c.has_moderate.ensures ∙ c.if-not-has_moderate.false);
    })

pub returns-in_err-value-clause-bounds : goal.returns-in_err-value-clause-bounds
returns-in_err-value-clause-bounds g c = IfOk-from_err _ _ c.from_residual.ensures.0
