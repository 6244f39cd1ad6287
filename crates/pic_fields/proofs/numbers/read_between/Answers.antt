use Rattle.std.proofs.Common.{◌≡◌, ℤ, refl, sym, ◌∙◌, rules, to_z, of_z}
use Rattle.std.proofs.lemmas.Int.{to_z-of_z}
use mir.Syntax.{w32}
use mir.Val.{SFits}
use Rattle.pic_fields.proofs.ReadLaws.{passes, refuses, exits_checked}
use Rattle.pic_fields.specs.Number.{is_between, between}
use Rattle.pic_fields.proofs.numbers.read_between.Goals as goal

-- the code's numbers are the numbers
codes_between : (low high n : ℤ) → SFits w32 low → SFits w32 high → SFits w32 n
    → is_between (to_z w32 (of_z w32 low)) (to_z w32 (of_z w32 high)) (to_z w32 (of_z w32 n)) ≡ is_between low high n
codes_between low high n l h fits = rw (to_z-of_z w32 low l, to_z-of_z w32 high h, to_z-of_z w32 n fits) refl

pub returns-in_err-n-clause-reads : goal.returns-in_err-n-clause-reads
unfolding between
returns-in_err-n-clause-reads g c = exits_checked _ _ c.from_residual.ensures.1 c.in_err-n.ensures

pub returns-then-not-is_between-clause-reads : goal.returns-then-not-is_between-clause-reads
unfolding between
returns-then-not-is_between-clause-reads g c =
    let l : SFits w32 c.args.low = search rules in
    let h : SFits w32 c.args.high = search rules in
    let fits : SFits w32 c.in_ok-n.n = search rules in
    rw c.at.ensures (record {
      answer = refuses _ (is_between c.args.low c.args.high) c.in_ok-n.ensures.answer
          (sym (codes_between c.args.low c.args.high c.in_ok-n.n l h fits) ∙ sym c.is_between.ensures ∙ c.if-not-is_between.true);
    })

pub returns-clause-reads : goal.returns-clause-reads
unfolding between
returns-clause-reads g c =
    let l : SFits w32 c.args.low = search rules in
    let h : SFits w32 c.args.high = search rules in
    let fits : SFits w32 c.in_ok-n.n = search rules in
    rw (to_z-of_z w32 c.in_ok-n.n fits) (record {
      answer = passes _ (is_between c.args.low c.args.high) c.in_ok-n.ensures.answer
          (sym (codes_between c.args.low c.args.high c.in_ok-n.n l h fits) ∙ sym c.is_between.ensures ∙ c.if-not-is_between.false);
    })
