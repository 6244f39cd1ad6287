use Rattle.std.proofs.Common.{List, sym, ◌∙◌, ap, subst}
use Rattle.std.proofs.lemmas.List.{with_items_is}
use Rattle.pic_num.specs.Space.{triple}
use Rattle.pic_block.specs.Block.{BlockValues}
use Rattle.pic_grid.specs.Copying.{AreAmong, AreCopied}
use Rattle.pic_grid.specs.Lattice.{Field}
use Rattle.pic_grid.specs.Parts.{IsLattice, joined}
use Rattle.pic_grid.proofs.CopyLaws.{are_among, copied_lattice, copied_is}
use Rattle.pic_grid.proofs.lattice.Lattice.copy_from.Goals as goal
use Rattle.pic_grid.proofs.lattice.Lattice.copy_from.Goals.{After-copy_blocks}

pub copy_blocks-requires : goal.copy_blocks-requires
copy_blocks-requires c =
    let k = c.self.inside in
    let same = ap (λ (f : Field). f.cells) c.self.view_is ∙ c.requires in
    subst (AreAmong c.args.from.now.cells) (sym c.as_mut_slice.ensures.value)
    (are_among k.cells.n (triple k.parts) (triple k.layers) k.blocks.items c.args.from.now.cells c.self.invariant.lattice same)

-- the blocks are copied
copied : (c : After-copy_blocks) → AreCopied c.args.from.now c.self.inside.blocks.items c.copy_blocks.new.blocks
copied c = subst (λ (bs : List BlockValues). AreCopied c.args.from.now bs c.copy_blocks.new.blocks) c.as_mut_slice.ensures.value c.copy_blocks.ensures

pub invariant_of-self : goal.invariant_of-self
invariant_of-self c =
    let k = c.self.inside in
    let new = c.copy_blocks.new.blocks in
    let items = with_items_is k.blocks new (c.copy_blocks.ensures.long ∙ c.as_mut_slice.ensures.len) in
    record {
      lattice = subst (λ (bs : List BlockValues). IsLattice k.cells.n (triple k.parts) (triple k.layers) bs) (sym items)
          (copied_lattice k.cells.n (triple k.parts) (triple k.layers) k.blocks.items new c.args.from.now c.self.invariant.lattice
          (copied (goal.at.invariant_of-self c).After-copy_blocks));
      factors = c.self.invariant.factors;
    }

pub returns : goal.returns
returns c =
    let k = c.self.inside in
    let new = c.copy_blocks.new.blocks in
    let items = with_items_is k.blocks new (c.copy_blocks.ensures.long ∙ c.as_mut_slice.ensures.len) in
    let same = ap (λ (f : Field). f.cells) c.self.view_is ∙ c.requires in
    ap (joined k.cells (triple k.parts)) items
    ∙ copied_is k.cells (triple k.parts) (triple k.layers) k.blocks.items new c.args.from.now c.self.invariant.lattice
    (copied (goal.at.returns c).After-copy_blocks) (sym same) c.cells-cells.ensures.shape
    ∙ (λ i. record c.args.from.now { side = (c.self.view_is i).side; parts = (c.self.view_is i).parts })
