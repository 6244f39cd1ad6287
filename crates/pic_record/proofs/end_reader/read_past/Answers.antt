use Rattle.std.proofs.Common.{◌≡◌, ℕ, ℤ, refl, sym, ◌∙◌, rules, to_z, of_z}
use Rattle.std.proofs.lemmas.Int.{to_z-of_z}
use mir.Syntax.{w128}
use mir.Val.{SFits}
use Rattle.pic_fields.proofs.ReadLaws.{passes, refuses, exits_checked}
use Rattle.pic_record.specs.EndFields.{is_past, past_at}
use Rattle.pic_record.proofs.end_reader.read_past.Goals as goal

-- the code's number is the number
code_past : (limit : ℕ) (v : ℤ) → SFits w128 v → is_past limit (to_z w128 (of_z w128 v)) ≡ is_past limit v
code_past limit v fits = rw (to_z-of_z w128 v fits) refl

pub returns-in_err-value : goal.returns-in_err-value
unfolding past_at
returns-in_err-value g c = exits_checked _ _ c.from_residual.ensures.1 c.in_err-value.ensures

pub returns-then-not-is_past : goal.returns-then-not-is_past
unfolding past_at
returns-then-not-is_past g c =
    let fits : SFits w128 c.in_ok-value.value = search rules in
    rw c.at.ensures (record {
      answer = refuses _ (is_past c.args.limit) c.in_ok-value.ensures.answer
          (sym (code_past c.args.limit c.in_ok-value.value fits) ∙ sym c.is_past.ensures ∙ c.if-not-is_past.true);
    })

pub returns : goal.returns
unfolding past_at
returns g c =
    let fits : SFits w128 c.in_ok-value.value = search rules in
    rw (to_z-of_z w128 c.in_ok-value.value fits) (record {
      answer = passes _ (is_past c.args.limit) c.in_ok-value.ensures.answer
          (sym (code_past c.args.limit c.in_ok-value.value fits) ∙ sym c.is_past.ensures ∙ c.if-not-is_past.false);
    })
