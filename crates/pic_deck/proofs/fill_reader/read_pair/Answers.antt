use Rattle.std.proofs.Common.{refl}
use Rattle.pic_deck.specs.Fill.{pair}
use Rattle.pic_walk.proofs.WalkLaws.{goes_on, exits}
use Rattle.pic_deck.proofs.fill_reader.read_pair.Goals as goal

pub returns-in_err-table-clause-walks : goal.returns-in_err-table-clause-walks
unfolding pair
returns-in_err-table-clause-walks c =
    exits _ _ c.from_residual-in_err-table.ensures.1 (rw (c.as_str.ensures, c.in_ok-path.ensures) at c.in_err-table.ensures)

pub returns-in_err-number-clause-walks : goal.returns-in_err-number-clause-walks
unfolding pair
returns-in_err-number-clause-walks c =
    goes_on _ _ _ (rw (c.as_str.ensures, c.in_ok-path.ensures) at c.in_ok-table.ensures.answer)
    (exits _ _ c.from_residual-in_err-number.ensures.1 (rw (c.as_str-2.ensures, c.in_ok-path.ensures) at c.in_err-number.ensures.walks))

pub returns-in_err-draw-clause-walks : goal.returns-in_err-draw-clause-walks
unfolding pair
returns-in_err-draw-clause-walks c =
    goes_on _ _ _ (rw (c.as_str.ensures, c.in_ok-path.ensures) at c.in_ok-table.ensures.answer)
    (goes_on _ _ _ (rw (c.as_str-2.ensures, c.in_ok-path.ensures) at c.in_ok-number.ensures.walks.answer)
    (exits _ _ c.from_residual-in_err-draw.ensures.1 (rw (c.as_str-3.ensures, c.in_ok-path.ensures, c.cells.ensures) at c.in_err-draw.ensures.walks)))

pub returns-clause-walks : goal.returns-clause-walks
unfolding pair
returns-clause-walks c =
    goes_on _ _ _ (rw (c.as_str.ensures, c.in_ok-path.ensures) at c.in_ok-table.ensures.answer)
    (goes_on _ _ _ (rw (c.as_str-2.ensures, c.in_ok-path.ensures) at c.in_ok-number.ensures.walks.answer)
    (goes_on _ _ _ (rw (c.as_str-3.ensures, c.in_ok-path.ensures, c.cells.ensures) at c.in_ok-draw.ensures.walks.answer)
    (record { answer = refl })))
