use Rattle.std.proofs.Common.{◌*◌, ◌∙◌, ap, sym}
use Rattle.std.proofs.Math.IntN.{ℤ, ◌+ℤ◌}
use Rattle.pic_num.specs.Space.{spot}
use Rattle.pic_block.specs.Cells.{count_of}
use Rattle.pic_grid.specs.Sums.{sum_over}
use Rattle.pic_grid.proofs.LatticeLaws.{is_field_of}
use Rattle.pic_deck.specs.Initial.{part, set_up}
use Rattle.pic_deck.proofs.InitialLaws.{within_old, set_up_size}
use Rattle.pic_deck.proofs.filling.fill.Goals as goal

pub add_rows-requires-clause-rows : goal.add_rows-requires-clause-rows
add_rows-requires-clause-rows c = rw c.fill_uniform.ensures.cells c.requires

pub add_rows-requires-clause-size : goal.add_rows-requires-clause-size
add_rows-requires-clause-size c = λ a p h. (c.fill_uniform.ensures.values a p h).size

pub returns-clause-value : goal.returns-clause-value
unfolding set_up
returns-clause-value c =
    let cells = c.add_rows.ensures.cells ∙ c.fill_uniform.ensures.cells in
    let side = c.add_rows.ensures.side ∙ c.fill_uniform.ensures.side in
    let parts = c.add_rows.ensures.parts ∙ c.fill_uniform.ensures.parts in
    is_field_of c.args.to.now.side c.args.to.now.cells c.args.to.now.parts (set_up (spot c.args.numbers) c.args.rows.now) c.add_rows.new.to cells side parts
    (c.add_rows.ensures.shape ∙ ap (λ n. 3 * count_of n) cells)
    (λ a p h.
    let inside = within_old c.args.to.now.cells c.fill_uniform.new.to.cells p (sym c.fill_uniform.ensures.cells) h in
    c.add_rows.ensures.values a p inside ∙ ap (λ (z : ℤ). z +ℤ sum_over (part a p) c.args.rows.now) (c.fill_uniform.ensures.values a p inside).is)

pub returns-clause-size : goal.returns-clause-size
returns-clause-size c = λ a p h.
    let inside = within_old c.args.to.now.cells c.fill_uniform.new.to.cells p (sym c.fill_uniform.ensures.cells) h in
    let uniform = c.fill_uniform.ensures.values a p inside in
    set_up_size c.args.to.now.cells (spot c.args.numbers) c.args.rows.now a p c.requires (rw uniform.is at uniform.size).size
