use Rattle.pic_core.specs.AtStart.{AreBare}
use Rattle.pic_core.proofs.scratch.bare_tiles.Given as goal

abbrev pub invariant-loop-number : goal.invariant-loop-number
invariant-loop-number l = AreBare l.number l.tiles.items
