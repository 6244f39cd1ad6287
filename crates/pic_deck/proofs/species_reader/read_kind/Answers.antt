use Rattle.std.proofs.Common.{Ok, ap, sym}
use Rattle.pic_deck.proofs.ContentLaws.{kept_charge, IsKind-from}
use Rattle.pic_deck.specs.Keys.{species_kind}
use Rattle.pic_walk.proofs.WalkLaws.{goes_on, exits}
use Rattle.pic_deck.proofs.species_reader.read_kind.Goals as goal

pub returns-in_err-charge-clause-walks : goal.returns-in_err-charge-clause-walks
unfolding species_kind
returns-in_err-charge-clause-walks c =
    exits _ _ c.from_residual.ensures.1 (rw c.new.ensures at c.in_err-charge.ensures.walks)

pub returns-in_err-mass-clause-walks : goal.returns-in_err-mass-clause-walks
unfolding species_kind
returns-in_err-mass-clause-walks c =
    goes_on _ _ _ (rw c.new.ensures at c.in_ok-charge.ensures.walks.answer)
    (exits _ _ c.from_residual-in_err-mass.ensures.1 (rw c.new-2.ensures at c.in_err-mass.ensures.walks))

pub returns-in_err-kick-clause-walks : goal.returns-in_err-kick-clause-walks
unfolding species_kind
returns-in_err-kick-clause-walks c =
    goes_on _ _ _ (rw c.new.ensures at c.in_ok-charge.ensures.walks.answer)
    (goes_on _ _ _ (rw c.new-2.ensures at c.in_ok-mass.ensures.walks.answer) (exits _ _ c.from_residual-in_err-kick.ensures.1 c.in_err-kick.ensures))

pub returns-in_err-turn-clause-walks : goal.returns-in_err-turn-clause-walks
unfolding species_kind
returns-in_err-turn-clause-walks c =
    goes_on _ _ _ (rw c.new.ensures at c.in_ok-charge.ensures.walks.answer)
    (goes_on _ _ _ (rw c.new-2.ensures at c.in_ok-mass.ensures.walks.answer)
    (goes_on _ _ _ c.in_ok-kick.ensures.answer (exits _ _ c.from_residual-in_err-turn.ensures.1 c.in_err-turn.ensures)))

pub returns-clause-walks : goal.returns-clause-walks
unfolding species_kind
returns-clause-walks c =
    let inside = rw c.new.ensures at c.in_ok-charge.ensures.bounds in
    goes_on _ _ _ (rw c.new.ensures at c.in_ok-charge.ensures.walks.answer)
    (goes_on _ _ _ (rw c.new-2.ensures at c.in_ok-mass.ensures.walks.answer)
    (goes_on _ _ _ c.in_ok-kick.ensures.answer (goes_on _ _ _ c.in_ok-turn.ensures.answer
    (record {
      answer = ap (λ z. Ok (record { charge = z; mass = c.in_ok-mass.mass; kick = c.in_ok-kick.kick; turn = c.in_ok-turn.turn }))
          (sym (kept_charge _ inside));
    }))))

pub returns-clause-limits : goal.returns-clause-limits
returns-clause-limits c =
    let inside = rw c.new.ensures at c.in_ok-charge.ensures.bounds in
    let mass = rw c.new-2.ensures at c.in_ok-mass.ensures.bounds in
    rw (kept_charge _ inside) (IsKind-from _ _ _ _ inside mass)
