use Rattle.std.proofs.Common.{◌++◌, List, refl, sym, subst}
use Rattle.pic_num.specs.declared.motion.Particle.{Particle}
use Rattle.pic_block.proofs.BlockLayerLaws.{zeros_add_none}
use Rattle.pic_tile.specs.Same.{Same}
use Rattle.pic_tile.specs.Directions.{here}
use Rattle.pic_tile.specs.Layers.{layers_begin}
use Rattle.pic_tile.specs.Tile.{chain_at, flux_at}
use Rattle.pic_tile.proofs.SameLaws.{same_refl}
use Rattle.pic_merge.proofs.merging.pour.Goals as goal

pub returns-then-brings_nothing-clause-left : goal.returns-then-brings_nothing-clause-left
returns-then-brings_nothing-clause-left c = λ i. record c.args.from.now { chain = c.if-brings_nothing.ensures.chain refl i }

pub returns-then-brings_nothing-clause-poured : goal.returns-then-brings_nothing-clause-poured
returns-then-brings_nothing-clause-poured c =
    let tile = c.args.tile.now in
    let from = c.args.from.now in
    record {
      number = refl;
      there = c.requires.there;
      joined = subst (λ (xs : List Particle). Same (chain_at tile here) (xs ++ chain_at tile here)) (sym (c.if-brings_nothing.ensures.chain refl))
          (same_refl (chain_at tile here));
      shape = record { low = refl; size = refl };
      added = zeros_add_none (flux_at tile here) from.flux (layers_begin (flux_at tile here).size from.dir) (c.if-brings_nothing.ensures.flux refl);
      stop = refl;
      others = λ d apart. refl;
    }
