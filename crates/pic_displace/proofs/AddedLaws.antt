-- The flux of the ways of a list's first particles, which a loop adds to a block one by one.
use Rattle.std.proofs.Common.{◌≡◌, ℕ, ◌+◌, ◌<◌, List, length, take, get_or, Option, None, refl, subst, ◌∙◌, arith}
use Rattle.pic_num.specs.declared.motion.Particle.{Particle}
use Rattle.pic_num.specs.Limits.{most_flux_of}
use Rattle.pic_block.specs.Block.{BlockValues, IsShaped, AllAtMost}
use Rattle.pic_block.proofs.BlockLaws.{all_at_most_more}
use Rattle.pic_block.proofs.ShapeLaws.{shaped_same}
use Rattle.pic_flux.specs.Adds.{Adds, GrowsBy}
use Rattle.pic_flux.proofs.AddsLaws.{adds_none, adds_start, adds_more}
use Rattle.pic_ways.specs.declared.way.Way.{Way}
use Rattle.pic_ways.specs.Way.{way_flux, flux_of_ways}

-- a block to which the flux of the first i has been added
pub record HasAdded (side : ℕ) (way : Particle → Option Way) (xs : List Particle) (i : ℕ) (old now : BlockValues) : Type 0 where
  pub shape : IsShaped old now
  pub values : Adds old now (flux_of_ways side way (take i xs))
  pub most : AllAtMost (most_flux_of i) now

module _ (side : ℕ) (way : Particle → Option Way) (xs : List Particle) where
  pub none_added : (b : BlockValues) → AllAtMost 0 b → HasAdded side way xs 0 b b
  unfolding flux_of_ways
  none_added b small = record { shape = shaped_same b; values = adds_start b (λ x. way_flux side (way x)) xs; most = small }

  pub one_added : (i : ℕ) (d : Particle) (o : Option Way) (old mid now : BlockValues) → i < length xs → o ≡ way (get_or xs i d)
      → HasAdded side way xs i old mid → IsShaped mid now → Adds mid now (way_flux side o) → GrowsBy (most_flux_of 1) mid now
      → HasAdded side way xs (i + 1) old now
  unfolding flux_of_ways
  one_added i d o old mid now below is so shape adds grows = record {
    shape = record { low = so.shape.low ∙ shape.low; size = so.shape.size ∙ shape.size };
    values = adds_more old mid now (λ x. way_flux side (way x)) xs i d below so.shape so.values
        (subst (λ (w : Option Way). Adds mid now (way_flux side w)) is adds);
    most = all_at_most_more now (most_flux_of i + most_flux_of 1) (most_flux_of (i + 1)) (omega arith) (grows (most_flux_of i) so.most);
  }

  -- a particle that has no way adds nothing
  pub still_added : (i : ℕ) (d : Particle) (old mid : BlockValues) → i < length xs → None ≡ way (get_or xs i d) → HasAdded side way xs i old mid
      → HasAdded side way xs (i + 1) old mid
  unfolding way_flux
  still_added i d old mid below is so =
      one_added i d None old mid mid below is so (shaped_same mid) (adds_none mid (way_flux side None) (λ a c. refl))
      (λ n small. all_at_most_more mid n (n + most_flux_of 1) (omega arith) small)
