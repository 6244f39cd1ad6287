use Rattle.std.proofs.Common.{◌≡◌, ◌<◌, ◌+◌, ◌-ℤ◌, sym, ◌∙◌, ap, subst, unsigned_abs, arith}
use Rattle.pic_num.specs.Space.{Triple}
use Rattle.pic_block.specs.Block.{outer_of}
use Rattle.pic_grid.specs.Lattice.{value_at}
use Rattle.pic_field.specs.FieldPhases.{most_raised}
use Rattle.pic_field.specs.Lines.{OnRow, line_start}
use Rattle.pic_field.specs.Makings.{CanMake, made_by}
use Rattle.pic_field.specs.Rows.{row_at, scaled_of, start_cell, IsScaledRow}
use Rattle.pic_field.specs.declared.making.Making.{Making}
use Rattle.pic_field.proofs.CurlLaws.{row_here}
use Rattle.pic_field.proofs.LentLaws.{IsLent, lent as row, lent_below, lent_long, lent_small, lent_changed}
use Rattle.pic_field.proofs.making.make_row.Goals as goal
use Rattle.pic_field.proofs.making.make_row.Goals.{After-values_mut-values}

-- the row that is lent
lent : (c : After-values_mut-values) → IsLent c.args.to.now c.args.axis c.args.y c.args.z c.values_mut-values.result.now c.row_start-at.result
    c.line_length-count.result
lent c = record {
  shape = c.zone.ensures.shape;
  in_y = c.requires.y;
  in_z = c.requires.z;
  same = c.values_mut-values.ensures.value;
  at = c.row_start-at.ensures.value;
  end = c.row_start-at.ensures.end;
  size = c.line_length-count.ensures.value ∙ ap (λ (n : Triple). n.x) c.zone.ensures.size;
}

pub lessen_row-requires-clause-fits : goal.lessen_row-requires-clause-fits
lessen_row-requires-clause-fits c =
    let is = lent (goal.at.lessen_row-requires-clause-fits c).After-values_mut-values in
    omega (arith, lent_long _ _ _ _ _ _ _ is, c.requires.among.x_high, ap (λ (p : Triple). p.x) c.requires.cell)

pub lessen_row-requires-clause-small : goal.lessen_row-requires-clause-small
lessen_row-requires-clause-small c =
    let on = OnRow c.args.axis c.args.y c.args.z in
    lent_small _ _ _ _ _ _ _ (lent (goal.at.lessen_row-requires-clause-small c).After-values_mut-values) most_raised
    (subst (λ (m : Making). CanMake m on c.args.to.now) c.in-Less.is c.requires.can)

pub returns-in-Scaled : goal.returns-in-Scaled
returns-in-Scaled c =
    let to = c.args.to.now in
    let from = c.args.from.now in
    let y = c.args.y in
    let z = c.args.z in
    let count = c.line_length-count.result in
    let made = c.scaled_row.new.to in
    let g = scaled_of from c.in-Scaled.by in
    let is = lent (goal.at.returns-in-Scaled c).After-values_mut-values in
    let done : IsScaledRow from.cells g c.args.axis (line_start to.low y z) 0 count made =
    subst (λ (s : Triple). IsScaledRow from.cells g c.args.axis s 0 count made) c.requires.cell c.scaled_row.ensures in
    lent_changed _ _ _ _ _ _ _ is made c.scaled_row.auto.to (made_by c.args.how.now from to.low) (λ x below.
    let in_x : x < to.size.x = lent_below _ _ _ _ _ _ _ is x below in
    let inside : x < count = omega (arith, in_x, is.size) in
    row_here from.cells g to.low to.size y z x c.requires.among in_x c.args.axis 0 count made done (omega arith) inside
    ∙ sym (ap (λ (m : Making). made_by m from to.low c.args.axis (record { x = x; y = y; z = z }) (row_at (row _ _ _ _ _ _ _ is) x)) c.in-Scaled.is))

pub returns-in-Less : goal.returns-in-Less
returns-in-Less c =
    let to = c.args.to.now in
    let from = c.args.from.now in
    let y = c.args.y in
    let z = c.args.z in
    let is = lent (goal.at.returns-in-Less c).After-values_mut-values in
    lent_changed _ _ _ _ _ _ _ is c.lessen_row.new.row c.lessen_row.auto.row (made_by c.args.how.now from to.low) (λ x below.
    let along : c.args.start.x + x ≡ unsigned_abs to.low.x + x = omega (arith, ap (λ (q : Triple). q.x) c.requires.cell) in
    let at : record (start_cell c.args.start) { x = c.args.start.x + x } ≡ outer_of to.low (record { x = x; y = y; z = z }) =
    λ i. record { x = along i; y = (c.requires.cell i).y; z = (c.requires.cell i).z } in
    c.lessen_row.ensures x below
    ∙ ap (λ (q : Triple). row_at (row _ _ _ _ _ _ _ is) x -ℤ value_at from c.args.axis q) at
    ∙ sym (ap (λ (m : Making). made_by m from to.low c.args.axis (record { x = x; y = y; z = z }) (row_at (row _ _ _ _ _ _ _ is) x)) c.in-Less.is))
