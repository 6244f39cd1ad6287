use Rattle.std.proofs.Common.{length, ◌∙◌, ap, subst, arith}
use Rattle.pic_num.specs.declared.axis.Axis.TheVariants.{Y, Z}
use Rattle.pic_num.specs.Space.{Triple, triple}
use Rattle.pic_grid.specs.Differences.{up}
use Rattle.pic_grid.specs.Lattice.{value_at}
use Rattle.pic_filter.specs.Kept.{TakeIn}
use Rattle.pic_filter.specs.Smoothing.{smoothed_along}
use Rattle.pic_filter.proofs.LineLaws.{hold_next, three_lines}
use Rattle.pic_filter.proofs.RowLaws.{row_smoothed}
use Rattle.pic_filter.proofs.smoothing.smooth_row.Goals as goal
use Rattle.pic_filter.proofs.smoothing.smooth_row.Goals.{After-take_in}

-- the line above the row is taken in
above : (c : After-take_in) → TakeIn c.args.from.now.cells (smoothed_along Z c.args.from.now.cells (value_at c.args.from.now c.args.axis))
    (up c.args.from.now.cells Y (triple c.args.cell))
    c.args.kept.now c.take_in.new.kept
above c =
    let f = c.args.from.now in
    let at = c.up.ensures.value ∙ ap (λ (n : Triple). up n Y (triple c.args.cell)) c.cells.ensures.value in
    subst (λ (p : Triple). TakeIn f.cells (smoothed_along Z f.cells (value_at f c.args.axis)) p c.args.kept.now c.take_in.new.kept) at c.take_in.ensures.takes

pub returns-clause-row : goal.returns-clause-row
returns-clause-row c =
    let f = c.args.from.now in
    let a = c.args.axis in
    let p = triple c.args.cell in
    row_smoothed f a p (length c.args.to.now) c.take_in.new.kept c.weigh_row.new.to c.requires.within c.requires.end
    (λ k below. three_lines f.cells (smoothed_along Z f.cells (value_at f a)) p c.args.kept.now c.take_in.new.kept c.take_in.auto.kept c.requires.held
    (above (goal.at.returns-clause-row c).After-take_in) k
    (omega (arith, below, c.requires.room)))
    c.weigh_row.ensures

pub returns-clause-holds : goal.returns-clause-holds
returns-clause-holds c =
    let f = c.args.from.now in
    hold_next f.cells (smoothed_along Z f.cells (value_at f c.args.axis)) (triple c.args.cell) c.args.kept.now c.take_in.new.kept c.take_in.auto.kept
    c.requires.held
    (above (goal.at.returns-clause-holds c).After-take_in) c.requires.within.y
