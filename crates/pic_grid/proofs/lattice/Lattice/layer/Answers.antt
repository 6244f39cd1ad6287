use Rattle.std.proofs.Common.{◌≡◌, ◌*◌, ◌<◌, List, length, rules, sym, ◌∙◌, ap, subst}
use Rattle.std.proofs.Math.IntN.{ℤ}
use Rattle.std.proofs.lemmas.List.{get_or_read}
use Rattle.pic_num.specs.Space.{triple}
use Rattle.pic_block.specs.Cells.{count_of}
use Rattle.pic_block.specs.Block.{no_block}
use Rattle.pic_grid.specs.Lattice.{Field}
use Rattle.pic_grid.specs.Parts.{layered, joined, IsLayer}
use Rattle.pic_grid.proofs.LayeredLaws.{layer_below, is_layer}
use Rattle.pic_grid.proofs.lattice.Lattice.layer.Goals as goal
use Rattle.pic_grid.proofs.lattice.Lattice.layer.Goals.{After-values}

parts_are : (c : After-values) → triple c.self.inside.parts ≡ layered c.self.inside.cells.n
parts_are c = subst (λ (f : Field). f.parts ≡ layered f.cells) (sym c.self.view_is) c.requires.parts

in_z : (c : After-values) → c.args.z < c.self.inside.cells.n.z
in_z c = subst (λ (f : Field). c.args.z < f.cells.z) (sym c.self.view_is) c.requires.below

pub index-block-requires : goal.index-block-requires
index-block-requires c =
    let l = c.self.invariant.lattice in
    let parts_are = subst (λ (f : Field). f.parts ≡ layered f.cells) (sym c.self.view_is) c.requires.parts in
    let in_z = subst (λ (f : Field). c.args.z < f.cells.z) (sym c.self.view_is) c.requires.below in
    let below = layer_below c.self.inside.cells (triple c.self.inside.parts) c.self.inside.blocks.items l.cells l.parts_fit l.zones parts_are c.args.z in_z in
    search (rules, below)

pub returns : goal.returns
returns c =
    let blocks = c.self.inside.blocks.items in
    let parts = triple c.self.inside.parts in
    let grid = c.self.inside.cells in
    let l = c.self.invariant.lattice in
    let b = c.index-block.result.now in
    let below = layer_below grid parts blocks l.cells l.parts_fit l.zones (parts_are c) c.args.z (in_z c) in
    let of = get_or_read blocks c.args.z b below c.index-block.ensures no_block in
    let whole : length b.values ≡ 3 * count_of b.size = sym (ap length c.values.ensures.value) ∙ c.values.ensures.shape in
    let layer = is_layer grid parts blocks l.cells l.parts_fit l.zones (parts_are c) c.args.z b (in_z c) of whole in
    subst (λ (f : Field). IsLayer f c.args.z c.values.result.now) c.self.view_is
    (subst (λ (xs : List ℤ). IsLayer (joined grid parts blocks) c.args.z xs) (sym c.values.ensures.value) layer)
