use Rattle.std.proofs.Common.{refl}
use Rattle.pic_walk.proofs.WalkLaws.{goes_on, exits}
use Rattle.pic_deck.specs.Keys.{counted}
use Rattle.pic_deck.proofs.species_reader.read_count.Goals as goal

pub returns-in_err-check_particles-clause-walks : goal.returns-in_err-check_particles-clause-walks
unfolding counted
returns-in_err-check_particles-clause-walks c =
    exits _ _ c.from_residual.ensures.1 (rw c.count-count.ensures.value at c.in_err-check_particles.ensures.walks)

pub returns-clause-walks : goal.returns-clause-walks
unfolding counted
returns-clause-walks c =
    goes_on _ _ _ (rw c.count-count.ensures.value at c.in_ok-check_particles.ensures.walks.answer) (record { answer = rw c.count-count.ensures.value refl })
