use Rattle.std.proofs.Common.{ℕ, ◌+◌, ◌*◌, ◌/◌, ◌<◌, ◌≤◌, sym, ◌∙◌, ap, subst, arith}
use Rattle.std.proofs.Math.Nat.{div-mul-le_self, mod-lt}
use Rattle.std.proofs.lemmas.Nat.{div-add-mod'}
use Rattle.pic_grid.proofs.FactorLaws.{part_is}
use Rattle.pic_grid.proofs.slot.part_of.Goals as goal

pub returns-clause-value : goal.returns-clause-value
returns-clause-value c =
    ap (λ (m : ℕ). c.args.index * m / 32768) c.from.ensures
    ∙ part_is c.args.layers c.args.factor c.args.index c.requires.some c.requires.most c.requires.few c.requires.factor

pub returns-clause-low : goal.returns-clause-low
returns-clause-low c =
    subst (λ (m : ℕ). m * c.args.layers ≤ c.args.index) (sym (returns-clause-value c)) (div-mul-le_self c.args.index c.args.layers)

pub returns-clause-high : goal.returns-clause-high
returns-clause-high c =
    let whole = div-add-mod' c.args.index c.args.layers in
    let rest = mod-lt c.args.index c.requires.some in
    subst (λ (m : ℕ). c.args.index < m * c.args.layers + c.args.layers) (sym (returns-clause-value c)) (omega (arith, whole, rest))
