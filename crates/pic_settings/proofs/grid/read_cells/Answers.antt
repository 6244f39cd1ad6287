use Rattle.std.proofs.lemmas.Result.{IfOk-weaker}
use Rattle.pic_settings.proofs.GridLaws.{cells_fit, cells_within, few_within}
use Rattle.pic_settings.proofs.grid.read_cells.Goals as goal

pub need_three-requires : goal.need_three-requires
need_three-requires c = rw (c.from_to-limits.ensures, c.allowance_of.ensures) (cells_fit c.args.version)

pub returns-clause-walks : goal.returns-clause-walks
returns-clause-walks c = rw (c.from_to-limits.ensures, c.allowance_of.ensures) at c.need_three.ensures.walks

pub returns-clause-bounds : goal.returns-clause-bounds
returns-clause-bounds c =
    IfOk-weaker _ _ _ (cells_within c.args.version) (rw (c.from_to-limits.ensures, c.allowance_of.ensures) at c.need_three.ensures.bounds)

pub returns-clause-few : goal.returns-clause-few
returns-clause-few c =
    IfOk-weaker _ _ _ (few_within c.args.version) (rw (c.from_to-limits.ensures, c.allowance_of.ensures) at c.need_three.ensures.bounds)
