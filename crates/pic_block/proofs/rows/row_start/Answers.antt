use Rattle.std.proofs.Common.{◌≡◌, ◌+◌, ◌*◌, ◌≤◌, ℕ, subst, sym, ◌∙◌, arith}
use Rattle.pic_num.specs.Space.{triple}
use Rattle.pic_block.specs.Cells.{count_of}
use Rattle.pic_block.specs.Rows.{row_of}
use Rattle.pic_block.proofs.RowLaws.{row_start, row_fits}
use Rattle.pic_block.proofs.rows.row_start.Goals as goal
use Rattle.pic_block.proofs.rows.row_start.Goals.{After-number}

-- what the code counts is the row's first place
counted : (c : After-number) → (let n = triple c.args.size in
    (c.number.result * n.z + c.args.z) * (n.y * n.x) + c.args.y * n.x ≡ row_of n c.args.axis c.args.y c.args.z)
counted c =
    let n = triple c.args.size in
    (λ i. (c.number.ensures i * n.z + c.args.z) * (n.y * n.x) + c.args.y * n.x) ∙ sym (row_start n c.args.axis c.args.y c.args.z)

pub overflow_add-result : goal.overflow_add-result
overflow_add-result c =
    record { fits = omega (arith, counted c, row_fits (triple c.args.size) c.args.axis c.args.y c.args.z c.requires.y c.requires.z, c.requires.room) }

pub returns-clause-value : goal.returns-clause-value
returns-clause-value c = counted c

pub returns-clause-end : goal.returns-clause-end
returns-clause-end c =
    let n = triple c.args.size in
    subst (λ (s : ℕ). s + n.x ≤ 3 * count_of n) (sym (counted c)) (row_fits n c.args.axis c.args.y c.args.z c.requires.y c.requires.z)
