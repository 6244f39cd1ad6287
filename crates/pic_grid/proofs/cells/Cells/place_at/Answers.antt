use Rattle.std.proofs.Common.{ℕ, ◌+◌, ◌*◌, ◌/◌, ◌%◌, sym, ◌∙◌, ap}
use Rattle.std.proofs.lemmas.Nat.{div-add-mod'}
use Rattle.pic_block.specs.Cells.{count_of, place_of}
use Rattle.pic_grid.proofs.cells.Cells.place_at.Goals as goal

pub returns-clause-number : goal.returns-clause-number
unfolding place_of
returns-clause-number c =
    let place = c.args.place in
    let count = c.count-count.result in
    (λ i. c.of_number-axis.ensures i * count_of c.args.self.n + c.cell_at.ensures.number i)
    ∙ ap (λ (m : ℕ). place / count * m + place % count) (sym c.count-count.ensures.value)
    ∙ div-add-mod' place count
