use Rattle.std.proofs.Common.{refl}
use Rattle.pic_deck.specs.Keys.{fields}
use Rattle.pic_walk.proofs.WalkLaws.{goes_on, exits}
use Rattle.pic_deck.proofs.fields.read_fields.Goals as goal

pub returns-in_err-table-clause-walks : goal.returns-in_err-table-clause-walks
unfolding fields
returns-in_err-table-clause-walks c =
    exits _ _ c.from_residual.ensures.1 c.in_err-table.ensures

pub returns-in_err-e-clause-walks : goal.returns-in_err-e-clause-walks
unfolding fields
returns-in_err-e-clause-walks c =
    goes_on _ _ _ c.in_ok-table.ensures.answer (exits _ _ c.from_residual-in_err-e.ensures.1 c.in_err-e.ensures)

pub returns-in_err-b-clause-walks : goal.returns-in_err-b-clause-walks
unfolding fields
returns-in_err-b-clause-walks c =
    goes_on _ _ _ c.in_ok-table.ensures.answer (goes_on _ _ _ c.in_ok-e.ensures.answer (exits _ _ c.from_residual-in_err-b.ensures.1 c.in_err-b.ensures))

pub returns-in_err-edges-clause-walks : goal.returns-in_err-edges-clause-walks
unfolding fields
returns-in_err-edges-clause-walks c =
    goes_on _ _ _ c.in_ok-table.ensures.answer (goes_on _ _ _ c.in_ok-e.ensures.answer
    (goes_on _ _ _ c.in_ok-b.ensures.answer (exits _ _ c.from_residual-in_err-edges.ensures.1 c.in_err-edges.ensures.walks)))

pub returns-in_err-faces-clause-walks : goal.returns-in_err-faces-clause-walks
unfolding fields
returns-in_err-faces-clause-walks c =
    goes_on _ _ _ c.in_ok-table.ensures.answer (goes_on _ _ _ c.in_ok-e.ensures.answer
    (goes_on _ _ _ c.in_ok-b.ensures.answer (goes_on _ _ _ c.in_ok-edges.ensures.walks.answer
    (exits _ _ c.from_residual-in_err-faces.ensures.1 c.in_err-faces.ensures.walks))))

pub returns-clause-walks : goal.returns-clause-walks
unfolding fields
returns-clause-walks c =
    goes_on _ _ _ c.in_ok-table.ensures.answer (goes_on _ _ _ c.in_ok-e.ensures.answer
    (goes_on _ _ _ c.in_ok-b.ensures.answer (goes_on _ _ _ c.in_ok-edges.ensures.walks.answer
    (goes_on _ _ _ c.in_ok-faces.ensures.walks.answer (record { answer = refl })))))
