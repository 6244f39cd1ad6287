use Rattle.std.proofs.Common.{Ok, ap, sym}
use Rattle.std.proofs.Math.Nat.{le_trans}
use Rattle.pic_num.proofs.VersionLaws.{within_scheme}
use Rattle.pic_deck.specs.Keys.{deck}
use Rattle.pic_deck.proofs.HeadLaws.{particles_of-heads}
use Rattle.pic_walk.proofs.WalkLaws.{goes_on, exits}
use Rattle.pic_deck.proofs.reading.deck_of.Goals as goal

pub returns-in_err-check_deck_keys : goal.returns-in_err-check_deck_keys
unfolding deck
returns-in_err-check_deck_keys c =
    exits _ _ c.from_residual.ensures.1 c.in_err-check_deck_keys.ensures

pub returns-in_err-settings : goal.returns-in_err-settings
unfolding deck
returns-in_err-settings c =
    goes_on _ _ _ c.in_ok-check_deck_keys.ensures.answer (exits _ _ c.from_residual-in_err-settings.ensures.1 c.in_err-settings.ensures.walks)

pub returns-in_err-field : goal.returns-in_err-field
unfolding deck
returns-in_err-field c =
    goes_on _ _ _ c.in_ok-check_deck_keys.ensures.answer (goes_on _ _ _ c.in_ok-settings.ensures.walks.answer
    (exits _ _ c.from_residual-in_err-field.ensures.1 c.in_err-field.ensures.walks))

pub returns-in_err-species : goal.returns-in_err-species
unfolding deck
returns-in_err-species c =
    goes_on _ _ _ c.in_ok-check_deck_keys.ensures.answer (goes_on _ _ _ c.in_ok-settings.ensures.walks.answer
    (goes_on _ _ _ c.in_ok-field.ensures.walks.answer (exits _ _ c.from_residual-in_err-species.ensures.1
    (rw c.new-terms.ensures at c.in_err-species.ensures.walks))))

pub particles_of-requires : goal.particles_of-requires
particles_of-requires c =
    rw (c.as_slice.ensures, sym (particles_of-heads c.in_ok-species.species))
    (le_trans (rw c.new-terms.ensures at c.in_ok-species.ensures.heads).total (within_scheme c.in_ok-settings.settings.version).particles)

pub returns-in_err-devices : goal.returns-in_err-devices
unfolding deck
returns-in_err-devices c =
    goes_on _ _ _ c.in_ok-check_deck_keys.ensures.answer (goes_on _ _ _ c.in_ok-settings.ensures.walks.answer
    (goes_on _ _ _ c.in_ok-field.ensures.walks.answer (goes_on _ _ _ (rw c.new-terms.ensures at c.in_ok-species.ensures.walks.answer)
    (exits _ _ c.from_residual-in_err-devices.ensures.1
    (rw (c.new-terms.ensures, c.particles_of.ensures, c.as_slice.ensures) at c.in_err-devices.ensures.walks)))))

pub returns-in_err-check_forces : goal.returns-in_err-check_forces
unfolding deck
returns-in_err-check_forces c =
    goes_on _ _ _ c.in_ok-check_deck_keys.ensures.answer (goes_on _ _ _ c.in_ok-settings.ensures.walks.answer
    (goes_on _ _ _ c.in_ok-field.ensures.walks.answer (goes_on _ _ _ (rw c.new-terms.ensures at c.in_ok-species.ensures.walks.answer)
    (goes_on _ _ _ (rw (c.new-terms.ensures, c.particles_of.ensures, c.as_slice.ensures) at c.in_ok-devices.ensures.walks.answer)
    (exits _ _ c.from_residual-in_err-check_forces.ensures.1 c.in_err-check_forces.ensures.walks)))))

pub returns : goal.returns
unfolding deck
returns c =
    goes_on _ _ _ c.in_ok-check_deck_keys.ensures.answer (goes_on _ _ _ c.in_ok-settings.ensures.walks.answer
    (goes_on _ _ _ c.in_ok-field.ensures.walks.answer (goes_on _ _ _ (rw c.new-terms.ensures at c.in_ok-species.ensures.walks.answer)
    (goes_on _ _ _ (rw (c.new-terms.ensures, c.particles_of.ensures, c.as_slice.ensures) at c.in_ok-devices.ensures.walks.answer)
    (goes_on _ _ _ c.in_ok-check_forces.ensures.walks.answer (record { answer = ap Ok (sym c.new.ensures) }))))))

pub new-requires : goal.new-requires
new-requires c = record {
  settings = c.in_ok-settings.ensures.limits;
  edges = c.in_ok-field.ensures.edges;
  faces = c.in_ok-field.ensures.faces;
  heads = rw c.new-terms.ensures at c.in_ok-species.ensures.heads;
  filled = rw c.new-terms.ensures at c.in_ok-species.ensures.filled;
  e = c.in_ok-check_forces.ensures.e;
  b = c.in_ok-check_forces.ensures.b;
  loops = rw c.new-terms.ensures at c.in_ok-devices.ensures.loops;
  probes = rw (c.new-terms.ensures, c.particles_of.ensures, c.as_slice.ensures) at c.in_ok-devices.ensures.probes;
}
