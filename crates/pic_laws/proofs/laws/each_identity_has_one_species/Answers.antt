use Rattle.pic_laws.proofs.IdentityLaws as identities
use Rattle.pic_laws.proofs.laws.each_identity_has_one_species.Goals as goal

pub returns : goal.returns
returns c = identities.each_identity_has_one_species
