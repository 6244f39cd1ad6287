use Rattle.std.proofs.Common.{◌≡◌, ℕ, ℤ, refl, sym, ◌∙◌, rules, to_z, of_z}
use Rattle.std.proofs.lemmas.Int.{to_z-of_z}
use mir.Syntax.{w64}
use mir.Val.{SFits}
use Rattle.pic_fields.specs.Number.{is_at_most, at_most}
use Rattle.pic_fields.proofs.ReadLaws.{passes, refuses, exits_checked}
use Rattle.pic_fields.proofs.numbers.read_at_most.Goals as goal

-- the code's number is the number
code_at_most : (most : ℕ) (z : ℤ) → SFits w64 z → is_at_most most (to_z w64 (of_z w64 z)) ≡ is_at_most most z
code_at_most most z fits = rw (to_z-of_z w64 z fits) refl

pub returns-in_err-z-clause-reads : goal.returns-in_err-z-clause-reads
unfolding at_most
returns-in_err-z-clause-reads g c = exits_checked _ _ c.from_residual.ensures.1 c.in_err-z.ensures

pub returns-then-not-is_at_most-clause-reads : goal.returns-then-not-is_at_most-clause-reads
unfolding at_most
returns-then-not-is_at_most-clause-reads g c =
    let fits : SFits w64 c.in_ok-z.z = search rules in
    rw c.at.ensures (record {
      answer = refuses _ (is_at_most c.args.most) c.in_ok-z.ensures.answer
          (sym (code_at_most c.args.most c.in_ok-z.z fits) ∙ sym c.is_at_most.ensures ∙ c.if-not-is_at_most.true);
    })

pub returns-clause-reads : goal.returns-clause-reads
unfolding at_most
returns-clause-reads g c =
    let fits : SFits w64 c.in_ok-z.z = search rules in
    rw (to_z-of_z w64 c.in_ok-z.z fits) (record {
      answer = passes _ (is_at_most c.args.most) c.in_ok-z.ensures.answer
          (sym (code_at_most c.args.most c.in_ok-z.z fits) ∙ sym c.is_at_most.ensures ∙ c.if-not-is_at_most.false);
    })
