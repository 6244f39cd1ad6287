-- The species of a particle of a dump by its identity, with no walk along the species.
use Rattle.std.specs.Prelude.{◌≡◌, ◌↔◌, ℕ, suc, ◌<◌, ◌≤◌, List, length, take, sum}
use Rattle.pic_record.specs.Layout.{species_of}

-- by the numbers of particles of the species, an identity is one of a species: it is at least the
-- number of the particles of the earlier ones, and below that of theirs and of its own together
pub record IsIdentityOf (counts : List ℕ) (species id : ℕ) : Type 0 where
  pub number : species < length counts
  pub first : sum (take species counts) ≤ id
  pub last : id < sum (take (suc species) counts)

-- of each particle that there is, a species is the one that is found exactly where the identity is
-- one of that species
abbrev pub EachIdentityHasOneSpecies : Type 0
EachIdentityHasOneSpecies =
    (counts : List ℕ) (id : ℕ) → id < sum counts
    → (species : ℕ) → (species_of counts id ≡ species) ↔ IsIdentityOf counts species id
