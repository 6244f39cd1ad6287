use Rattle.std.proofs.Common.{◌≡◌, ◌<◌, sym, subst}
use Rattle.std.proofs.lemmas.List.{get_or_read}
use Rattle.pic_num.specs.Space.{triple}
use Rattle.pic_block.specs.Block.{no_block}
use Rattle.pic_grid.specs.Lattice.{Field}
use Rattle.pic_grid.specs.Parts.{layered, joined, IsWeakLayer}
use Rattle.pic_grid.proofs.LayeredLaws.{layer_below, is_layer, weak_layer}
use Rattle.pic_grid.proofs.lattice.Lattice.is_weak.Goals as goal

pub returns : goal.returns
returns c is_weak =
    let blocks = c.self.inside.blocks.items in
    let parts = triple c.self.inside.parts in
    let grid = c.self.inside.cells in
    let l = c.self.invariant.lattice in
    let b = c.index-block.result.now in
    let parts_are = subst (λ (f : Field). f.parts ≡ layered f.cells) (sym c.self.view_is) c.requires.parts in
    let in_z = subst (λ (f : Field). c.args.z < f.cells.z) (sym c.self.view_is) c.requires.below in
    let below = layer_below grid parts blocks l.cells l.parts_fit l.zones parts_are c.args.z in_z in
    let of = get_or_read blocks c.args.z b below c.index-block.ensures no_block in
    let layer = is_layer grid parts blocks l.cells l.parts_fit l.zones parts_are c.args.z b in_z of c.is_weak.ensures.shape in
    let values = c.is_weak.ensures.weak is_weak in
    subst (λ (f : Field). IsWeakLayer f c.args.z) c.self.view_is (weak_layer (joined grid parts blocks) c.args.z b.values layer values)
