use Rattle.std.proofs.Common.{sym}
use Rattle.std.proofs.Math.Nat.{le_trans}
use Rattle.pic_num.proofs.VersionLaws.{within_scheme}
use Rattle.pic_deck.proofs.HeadLaws.{particles_of-heads}
use Rattle.pic_deck.proofs.deck.Deck.particles.Goals as goal

pub particles_of-requires : goal.particles_of-requires
particles_of-requires c =
    rw (c.as_slice.ensures, sym (particles_of-heads c.self.inside.species))
    (le_trans c.self.invariant.heads.total (within_scheme c.self.inside.settings.version).particles)
