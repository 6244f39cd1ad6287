use Rattle.std.proofs.Common.{Ok, ap, sym, ◌∙◌}
use Rattle.pic_deck.specs.Keys.{species_name}
use Rattle.pic_walk.proofs.WalkLaws.{goes_on, exits, refuses}
use Rattle.pic_deck.proofs.HeadLaws.{IsNewName-from, named, misnamed}
use Rattle.pic_deck.proofs.naming.read_name.Goals as goal

pub returns-in_err-text-clause-walks : goal.returns-in_err-text-clause-walks
unfolding species_name
returns-in_err-text-clause-walks c = exits _ _ c.from_residual.ensures.1 c.in_err-text.ensures

pub returns-in_ok-bytes-clause-walks : goal.returns-in_ok-bytes-clause-walks
unfolding species_name
returns-in_ok-bytes-clause-walks c =
    let bytes = c.from_vec.ensures ∙ c.in_ok-bytes.ensures.items ∙ c.as_bytes.ensures.value in
    goes_on _ _ _ c.in_ok-text.ensures.answer (record { answer = named _ _ _ (sym c.if-is_new_name.ensures) ∙ ap Ok (sym bytes) })

pub returns-in_ok-bytes-clause-limits : goal.returns-in_ok-bytes-clause-limits
returns-in_ok-bytes-clause-limits c =
    let bytes = c.from_vec.ensures ∙ c.in_ok-bytes.ensures.items ∙ c.as_bytes.ensures.value in
    rw bytes (IsNewName-from _ _ (sym c.if-is_new_name.ensures))

pub returns-else-is_new_name-clause-walks : goal.returns-else-is_new_name-clause-walks
unfolding species_name
returns-else-is_new_name-clause-walks c =
    goes_on _ _ _ c.in_ok-text.ensures.answer (refuses _ _ _ c.name_fault.ensures (misnamed _ _ _ (sym c.if-is_new_name.ensures)))
