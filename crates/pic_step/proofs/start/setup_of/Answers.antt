use Rattle.std.proofs.Common.{◌∙◌}
use Rattle.pic_tile.specs.Tiling.{tiles_of}
use Rattle.pic_step.proofs.StartLaws.{deck_tiles}
use Rattle.pic_step.proofs.start.setup_of.Goals as goal

pub new-requires : goal.new-requires
new-requires c = deck_tiles c.args.deck.now c.cells.result _ c.tiles.ensures.limits c.cells.ensures.value c.tiles.ensures.value

pub returns : goal.returns
returns c = record {
  map = c.new.ensures.value ∙ (λ i. tiles_of (c.cells.ensures.value i) (c.tiles.ensures.value i));
  cells = c.new.ensures.cells ∙ c.cells.ensures.value;
  filter = c.filter.ensures.value;
  loops = c.in_ok-loops.ensures ∙ c.loops.ensures.value;
  scales = c.scales.ensures.value;
  kinds = c.in_ok-kinds.ensures;
}
