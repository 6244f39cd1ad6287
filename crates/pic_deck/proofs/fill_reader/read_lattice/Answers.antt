use Rattle.pic_deck.specs.Fill.{lattice}
use Rattle.pic_walk.proofs.WalkLaws.{goes_on, exits}
use Rattle.pic_deck.proofs.fill_reader.read_lattice.Goals as goal

pub returns-in_err-table-clause-walks : goal.returns-in_err-table-clause-walks
unfolding lattice
returns-in_err-table-clause-walks c =
    exits _ _ c.from_residual-in_err-table.ensures.1 (rw (c.as_str.ensures, c.in_ok-path.ensures) at c.in_err-table.ensures)

pub returns-clause-walks : goal.returns-clause-walks
unfolding lattice
returns-clause-walks c =
    goes_on _ _ _ (rw (c.as_str.ensures, c.in_ok-path.ensures) at c.in_ok-table.ensures.answer)
    (rw (c.as_str-2.ensures, c.in_ok-path.ensures) at c.read_sites.ensures.walks)
