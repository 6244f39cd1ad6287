use Rattle.std.proofs.Common.{List, pos, refl, subst}
use Rattle.pic_block.specs.Block.{BlockValues}
use Rattle.pic_block.specs.Cells.{IsCells}
use Rattle.pic_advance.specs.Blocks.{EachBlock, IsMade}
use Rattle.pic_advance.proofs.TakenLaws.{HasBlocks, has_blocks, made_is}
use Rattle.pic_advance.proofs.driving.known_blank.Goals as goal

pub returns-clause-blank : goal.returns-clause-blank
returns-clause-blank c = λ yes.
    let lattice = c.args.lattice in
    let taken = c.into_blocks-blocks in
    let n = lattice.cells in
    let has : HasBlocks n lattice taken.result.items =
    has_blocks n lattice taken.result.items refl (subst IsCells c.cells-cells.ensures.value c.numbers.ensures.limits) c.parts-parts.ensures.limits taken.ensures.zones taken.ensures.values in
    let each = subst (λ (bs : List BlockValues). EachBlock (IsMade (λ a p. pos 0)) bs bs) c.deref.ensures.value (c.are_blank-blank.ensures yes) in
    made_is n lattice taken.result.items has taken.result.items (λ a p. pos 0) each (record { n = n; side = lattice.side })
    lattice.side lattice.parts lattice (record { cells = refl; side_is = refl }) refl taken.ensures.values
