use Rattle.std.proofs.Common.{sym}
use Rattle.pic_deck.specs.Fill.{species_number}
use Rattle.pic_walk.proofs.WalkLaws.{goes_on, exits, refuses, there, lacks}
use Rattle.pic_deck.proofs.fill_reader.read_species_number.Goals as goal

pub returns-in_err-text-clause-walks : goal.returns-in_err-text-clause-walks
unfolding species_number
returns-in_err-text-clause-walks c = exits _ _ c.from_residual.ensures.1 c.in_err-text.ensures

pub returns-in-Some-clause-walks : goal.returns-in-Some-clause-walks
unfolding species_number
returns-in-Some-clause-walks c =
    goes_on _ _ _ c.in_ok-text.ensures.answer (record { answer = there _ _ _ (sym c.in-Some.ensures) })

pub returns-in-None-clause-walks : goal.returns-in-None-clause-walks
unfolding species_number
returns-in-None-clause-walks c =
    goes_on _ _ _ c.in_ok-text.ensures.answer (refuses _ _ _ c.name_fault.ensures (lacks _ _ (sym c.in-None.ensures)))
