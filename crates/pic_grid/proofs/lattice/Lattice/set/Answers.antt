use Rattle.std.proofs.Common.{◌≡◌, ℤ, rules, to_z, of_z, sym, ◌∙◌, ap, subst}
use mir.Syntax.{w128}
use Rattle.std.proofs.lemmas.Int.{to_z-of_z}
use Rattle.pic_num.specs.Space.{triple, spot}
use Rattle.pic_block.specs.Cells.{IsWithin}
use Rattle.pic_block.specs.Block.{with_edge}
use Rattle.pic_grid.specs.Lattice.{Field, value_at, with_value}
use Rattle.pic_grid.specs.Parts.{value_in, joined}
use Rattle.pic_grid.proofs.LatticeLaws.{length-values_of, value_at-same}
use Rattle.pic_grid.proofs.PartLaws.{parts_limits, lattice_part, lattice_below, lattice_block, lattice_has, lattice_kept, lattice_set}
use Rattle.pic_grid.proofs.lattice.Lattice.set.Goals as goal

pub part_in-part-requires-clause-parts : goal.part_in-part-requires-clause-parts
part_in-part-requires-clause-parts c =
    parts_limits c.self.inside.cells.n (triple c.self.inside.parts) c.self.invariant.lattice.cells c.self.invariant.lattice.parts_fit

pub part_in-part-requires-clause-within : goal.part_in-part-requires-clause-within
part_in-part-requires-clause-within c =
    let w : IsWithin (triple c.args.cell) c.self.inside.cells.n = subst (λ (f : Field). IsWithin (triple c.args.cell) f.cells)
    (sym c.self.view_is) c.requires in
    lattice_part c.self.inside.cells.n (triple c.self.inside.parts) (triple c.self.inside.layers) c.self.inside.blocks.items
    (triple c.args.cell) c.self.invariant.lattice w

pub index_mut-block-requires : goal.index_mut-block-requires
index_mut-block-requires c =
    let w : IsWithin (triple c.args.cell) c.self.inside.cells.n = subst (λ (f : Field). IsWithin (triple c.args.cell) f.cells)
    (sym c.self.view_is) c.requires in
    let below = lattice_below c.self.inside.cells.n (triple c.self.inside.parts) (triple c.self.inside.layers) c.self.inside.blocks.items
    (triple c.args.cell) c.part_in-part.result c.self.invariant.lattice w c.part_in-part.ensures in
    search (rules, below)

pub set-requires : goal.set-requires
set-requires c =
    let w : IsWithin (triple c.args.cell) c.self.inside.cells.n = subst (λ (f : Field). IsWithin (triple c.args.cell) f.cells)
    (sym c.self.view_is) c.requires in
    let block = lattice_block c.self.inside.cells.n (triple c.self.inside.parts) (triple c.self.inside.layers) c.self.inside.blocks.items
    (triple c.args.cell) c.part_in-part.result c.index_mut-block.result.now c.self.invariant.lattice w c.part_in-part.ensures c.index_mut-block.ensures.value in
    lattice_has c.self.inside.cells.n (triple c.self.inside.parts) (triple c.self.inside.layers) c.self.inside.blocks.items
    (triple c.args.cell) c.index_mut-block.result.now _ c.self.invariant.lattice w block c.unwrapped-at.ensures

pub invariant_of-self : goal.invariant_of-self
invariant_of-self c =
    let w : IsWithin (triple c.args.cell) c.self.inside.cells.n = subst (λ (f : Field). IsWithin (triple c.args.cell) f.cells)
    (sym c.self.view_is) c.requires in
    let below = lattice_below c.self.inside.cells.n (triple c.self.inside.parts) (triple c.self.inside.layers) c.self.inside.blocks.items
    (triple c.args.cell) c.part_in-part.result c.self.invariant.lattice w c.part_in-part.ensures in
    let after = c.set.ensures.after in
    record {
      lattice = lattice_kept c.self.inside.cells.n (triple c.self.inside.parts) (triple c.self.inside.layers) c.self.inside.blocks.items
          c.part_in-part.result _ _ _ c.index_mut-block.result.now c.set.new.self c.self.invariant.lattice below c.index_mut-block.ensures.value after;
      factors = c.self.invariant.factors;
    }

pub returns-clause-after : goal.returns-clause-after
returns-clause-after c =
    let n = c.self.inside.cells.n in
    let parts = triple c.self.inside.parts in
    let p = triple c.args.cell in
    let w : IsWithin p n = subst (λ (f : Field). IsWithin p f.cells) (sym c.self.view_is) c.requires in
    let value : to_z w128 (of_z w128 c.args.value) ≡ c.args.value = to_z-of_z w128 c.args.value c.ranges.value in
    let block = c.index_mut-block.result.now in
    let after = c.set.ensures.after ∙ ap (λ (v : ℤ). with_edge block c.args.axis (spot c.unwrapped-at.result) v) value in
    let stored = c.set.ensures.stored ∙ value in
    lattice_set c.self.inside.cells parts (triple c.self.inside.layers) c.self.inside.blocks.items p c.part_in-part.result c.args.axis
    (spot c.unwrapped-at.result) c.args.value block c.set.new.self
    c.self.invariant.lattice w c.part_in-part.ensures c.index_mut-block.ensures.value c.unwrapped-at.ensures after stored
    ∙ ap (λ (f : Field). with_value f c.args.axis p c.args.value) c.self.view_is

pub returns-clause-stored : goal.returns-clause-stored
returns-clause-stored c =
    let n = c.self.inside.cells.n in
    let parts = triple c.self.inside.parts in
    let p = triple c.args.cell in
    let w : IsWithin p n = subst (λ (f : Field). IsWithin p f.cells) (sym c.self.view_is) c.requires in
    let size = length-values_of n (value_in n parts c.self.inside.blocks.items) in
    let value : to_z w128 (of_z w128 c.args.value) ≡ c.args.value = to_z-of_z w128 c.args.value c.ranges.value in
    let block = c.index_mut-block.result.now in
    let after = c.set.ensures.after ∙ ap (λ (v : ℤ). with_edge block c.args.axis (spot c.unwrapped-at.result) v) value in
    let stored = c.set.ensures.stored ∙ value in
    ap (λ (f : Field). value_at f c.args.axis p)
    (lattice_set c.self.inside.cells parts (triple c.self.inside.layers) c.self.inside.blocks.items p c.part_in-part.result c.args.axis
    (spot c.unwrapped-at.result) c.args.value block c.set.new.self
    c.self.invariant.lattice w c.part_in-part.ensures c.index_mut-block.ensures.value c.unwrapped-at.ensures after stored)
    ∙ value_at-same (joined c.self.inside.cells parts c.self.inside.blocks.items) c.args.axis p c.args.value w size
