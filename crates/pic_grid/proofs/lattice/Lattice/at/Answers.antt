use Rattle.std.proofs.Common.{◌≡◌, rules, sym, ◌∙◌, ap, subst}
use mir.Syntax.{w128}
use mir.Val.{SFits}
use Rattle.std.proofs.lemmas.Int.{to_z-of_z}
use Rattle.pic_num.specs.Space.{triple}
use Rattle.pic_block.specs.Cells.{IsWithin}
use Rattle.pic_block.specs.Block.{edge_at}
use Rattle.pic_grid.specs.Lattice.{Field, value_at}
use Rattle.pic_grid.proofs.PartLaws.{parts_limits, lattice_part, lattice_below, lattice_block, lattice_has, value_at-joined}
use Rattle.pic_grid.proofs.lattice.Lattice.at.Goals as goal

pub part_in-part-requires-clause-parts : goal.part_in-part-requires-clause-parts
part_in-part-requires-clause-parts c =
    parts_limits c.self.inside.cells.n (triple c.self.inside.parts) c.self.invariant.lattice.cells c.self.invariant.lattice.parts_fit

pub part_in-part-requires-clause-within : goal.part_in-part-requires-clause-within
part_in-part-requires-clause-within c =
    let w : IsWithin (triple c.args.cell) c.self.inside.cells.n = subst (λ (f : Field). IsWithin (triple c.args.cell) f.cells)
    (sym c.self.view_is) c.requires in
    lattice_part c.self.inside.cells.n (triple c.self.inside.parts) (triple c.self.inside.layers) c.self.inside.blocks.items
    (triple c.args.cell) c.self.invariant.lattice w

pub index-block-requires : goal.index-block-requires
index-block-requires c =
    let w : IsWithin (triple c.args.cell) c.self.inside.cells.n = subst (λ (f : Field). IsWithin (triple c.args.cell) f.cells)
    (sym c.self.view_is) c.requires in
    let below = lattice_below c.self.inside.cells.n (triple c.self.inside.parts) (triple c.self.inside.layers) c.self.inside.blocks.items
    (triple c.args.cell) c.part_in-part.result c.self.invariant.lattice w c.part_in-part.ensures in
    search (rules, below)

pub at-requires : goal.at-requires
at-requires c =
    let w : IsWithin (triple c.args.cell) c.self.inside.cells.n = subst (λ (f : Field). IsWithin (triple c.args.cell) f.cells)
    (sym c.self.view_is) c.requires in
    let block = lattice_block c.self.inside.cells.n (triple c.self.inside.parts) (triple c.self.inside.layers) c.self.inside.blocks.items
    (triple c.args.cell) c.part_in-part.result c.index-block.result.now c.self.invariant.lattice w c.part_in-part.ensures c.index-block.ensures in
    lattice_has c.self.inside.cells.n (triple c.self.inside.parts) (triple c.self.inside.layers) c.self.inside.blocks.items
    (triple c.args.cell) c.index-block.result.now _ c.self.invariant.lattice w block c.unwrapped.ensures

pub returns : goal.returns
returns c =
    let n = c.self.inside.cells.n in
    let parts = triple c.self.inside.parts in
    let blocks = c.self.inside.blocks.items in
    let p = triple c.args.cell in
    let w : IsWithin p n = subst (λ (f : Field). IsWithin p f.cells) (sym c.self.view_is) c.requires in
    let block = lattice_block n parts (triple c.self.inside.layers) blocks p c.part_in-part.result c.index-block.result.now c.self.invariant.lattice w
    c.part_in-part.ensures c.index-block.ensures in
    let value : c.at.result ≡ value_at c.args.self.now c.args.axis p
    = c.at.ensures
    ∙ (λ i. edge_at (block i) c.args.axis (c.unwrapped.ensures i))
    ∙ sym (value_at-joined c.self.inside.cells parts blocks c.args.axis p w)
    ∙ ap (λ (f : Field). value_at f c.args.axis p) c.self.view_is in
    let fits : SFits w128 c.at.result = search rules in
    to_z-of_z w128 c.at.result fits ∙ value
