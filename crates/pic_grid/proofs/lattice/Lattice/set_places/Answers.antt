use Rattle.std.proofs.Common.{◌≡◌, ◌+◌, ◌*◌, ◌≤◌, length, slice_index_or, sym, ◌∙◌, ap, subst}
use Rattle.std.proofs.lemmas.List.{get_or_read}
use Rattle.pic_num.specs.Space.{Triple, triple}
use Rattle.pic_block.specs.Cells.{count_of}
use Rattle.pic_block.specs.Block.{no_block}
use Rattle.pic_grid.specs.Lattice.{Field, with_places}
use Rattle.pic_grid.specs.Parts.{one_part}
use Rattle.pic_grid.proofs.WholeLaws.{only_one, size, overwritten_kept, overwritten_is}
use Rattle.pic_grid.proofs.lattice.Lattice.set_places.Goals as goal
use Rattle.pic_grid.proofs.lattice.Lattice.set_places.Goals.{After-index_mut}

one : (c : After-index_mut) → triple c.self.inside.parts ≡ one_part
one c = ap (λ (f : Field). f.parts) c.self.view_is ∙ c.has_parts_on_z.ensures.0 c.if-has_parts_on_z.true

of : (c : After-index_mut) → c.index_mut.result.now ≡ slice_index_or c.self.inside.blocks.items 0 no_block
of c =
    let l = c.self.invariant.lattice in
    let some = only_one c.self.inside.cells (triple c.self.inside.parts) c.self.inside.blocks.items l.cells l.parts_fit l.zones (one c) in
    get_or_read c.self.inside.blocks.items 0 c.index_mut.result.now some c.index_mut.ensures.value no_block

room : (c : After-index_mut) → c.args.first + length c.args.values.now ≤ 3 * count_of c.self.inside.cells.n
room c = subst (λ (f : Field). c.args.first + length c.args.values.now ≤ 3 * count_of f.cells) (sym c.self.view_is) c.requires.room

pub set_values-requires : goal.set_values-requires
set_values-requires c =
    let l = c.self.invariant.lattice in
    let all = size c.self.inside.cells (triple c.self.inside.parts) c.self.inside.blocks.items l.cells l.parts_fit l.zones (one c) c.index_mut.result.now
    (of c) in
    subst (λ (m : Triple). c.args.first + length c.args.values.now ≤ 3 * count_of m) (sym all) (room c)

pub invariant_of-self : goal.invariant_of-self
invariant_of-self c =
    let k = c.self.inside in
    let at = (goal.at.invariant_of-self c).After-index_mut in
    record {
      lattice = overwritten_kept k.cells (triple k.parts) (triple k.layers) k.blocks.items c.self.invariant.lattice (one at) c.args.first c.args.values.now
          c.index_mut.result.now c.set_values.new.self (of at) c.set_values.ensures.shape (room at) c.set_values.ensures.after;
      factors = c.self.invariant.factors;
    }

pub returns-then-has_parts_on_z : goal.returns-then-has_parts_on_z
returns-then-has_parts_on_z c =
    let k = c.self.inside in
    let at = (goal.at.returns-then-has_parts_on_z c).After-index_mut in
    overwritten_is k.cells (triple k.parts) (triple k.layers) k.blocks.items c.self.invariant.lattice (one at) c.args.first c.args.values.now
    c.index_mut.result.now c.set_values.new.self (of at) c.set_values.ensures.shape (room at) c.set_values.ensures.after
    ∙ ap (λ (f : Field). with_places f c.args.first c.args.values.now) c.self.view_is
