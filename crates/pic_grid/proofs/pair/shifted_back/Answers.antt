use Rattle.std.proofs.Common.{◌+◌, ◌-◌, ◌*◌, ◌/◌, ◌<◌, ◌≤◌, ℕ, sym, subst, ◌∙◌, ap, arith}
use Rattle.pic_grid.specs.Hat.{periodic_hat}
use Rattle.pic_grid.proofs.HatLaws.{times_one}
use Rattle.pic_grid.proofs.PairLaws.{back_round, back}
use Rattle.pic_grid.proofs.pair.shifted_back.Goals as goal

pub returns-then-point-half-clause-weights : goal.returns-then-point-half-clause-weights
returns-then-point-half-clause-weights c = λ j among.
    let s = c.args.sub in
    let l = c.args.cells * s in
    let p = c.args.point in
    let side = c.side-side.ensures.value in
    let low : p < s / 2 = subst (λ (m : ℕ). p < m / 2) side c.if-point-half.true in
    back_round s l (s / 2) (j * s) p (times_one s j c.args.cells (omega (arith, among))) (omega arith) low
    ∙ ap (λ (m : ℕ). periodic_hat s l (p + (c.args.cells * m - m / 2)) (j * s + 0)) (sym side)

pub returns-else-point-half-clause-weights : goal.returns-else-point-half-clause-weights
returns-else-point-half-clause-weights c = λ j among.
    let s = c.args.sub in
    let l = c.args.cells * s in
    let p = c.args.point in
    let side = c.side-side.ensures.value in
    let high : s / 2 ≤ p = subst (λ (m : ℕ). m / 2 ≤ p) side c.if-point-half.false in
    back s l (s / 2) (j * s) p (times_one s j c.args.cells (omega (arith, among))) (omega arith) c.requires.inside high
    ∙ ap (λ (m : ℕ). periodic_hat s l (p - m / 2) (j * s + 0)) (sym side)
