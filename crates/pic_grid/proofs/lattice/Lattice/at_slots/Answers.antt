use Rattle.std.proofs.Common.{◌≡◌, ℕ, ℤ, pos, ◌+◌, ◌*◌, ◌<◌, List, length, slice_index_or, rules, sym, ◌∙◌, ap, subst}
use Rattle.std.proofs.lemmas.Int.{to_z-of_z}
use mir.Syntax.{w128}
use mir.Val.{SFits}
use Rattle.pic_num.specs.Space.{triple, axis_number}
use Rattle.pic_block.specs.Cells.{count_of}
use Rattle.pic_grid.specs.Lattice.{Field, value_at}
use Rattle.pic_grid.proofs.SlotLaws.{slots_of, slots_index, slots_place, slots_value}
use Rattle.pic_grid.proofs.lattice.Lattice.at_slots.Goals as goal

pub index-block-requires : goal.index-block-requires
index-block-requires c =
    let below = slots_index c.self.inside.cells (triple c.self.inside.parts) (triple c.self.inside.layers) c.self.inside.blocks.items _
    c.args.x c.args.y c.args.z c.self.invariant.lattice c.self.view_is c.requires.x c.requires.y c.requires.z in
    search (rules, below)

pub bounds-values-number : goal.bounds-values-number
bounds-values-number c =
    let n = c.self.inside.cells.n in
    let parts = triple c.self.inside.parts in
    let s = triple c.self.inside.layers in
    let blocks = c.self.inside.blocks.items in
    let on = slots_of c.self.inside.cells parts blocks _ c.args.x c.args.y c.args.z c.self.view_is c.requires.x c.requires.y c.requires.z in
    let b = c.index-block.result.now in
    let whole : length b.values ≡ 3 * count_of b.size = sym (ap length c.values-values.ensures.value) ∙ c.values-values.ensures.shape in
    let place = c.args.x.place + c.args.y.place + c.args.z.place in
    let below = slots_place n parts s blocks c.args.x c.args.y c.args.z c.self.invariant.lattice on b c.index-block.ensures c.args.axis whole in
    let room : c.number.result * count_of s + place < length c.values-values.result.now =
    subst (λ (m : ℕ). m * count_of s + place < length c.values-values.result.now) (sym c.number.ensures)
    (subst (λ (xs : List ℤ). axis_number c.args.axis * count_of s + place < length xs) (sym c.values-values.ensures.value) below) in
    search (rules, room)

pub returns : goal.returns
returns c =
    let n = c.self.inside.cells.n in
    let parts = triple c.self.inside.parts in
    let s = triple c.self.inside.layers in
    let blocks = c.self.inside.blocks.items in
    let on = slots_of c.self.inside.cells parts blocks _ c.args.x c.args.y c.args.z c.self.view_is c.requires.x c.requires.y c.requires.z in
    let b = c.index-block.result.now in
    let place = c.args.x.place + c.args.y.place + c.args.z.place in
    let value = slice_index_or c.values-values.result.now (c.number.result * count_of s + place) (pos 0) in
    let fits : SFits w128 value = search rules in
    to_z-of_z w128 value fits
    ∙ ap (λ (m : ℕ). slice_index_or c.values-values.result.now (m * count_of s + place) (pos 0)) c.number.ensures
    ∙ ap (λ (xs : List ℤ). slice_index_or xs (axis_number c.args.axis * count_of s + place) (pos 0)) c.values-values.ensures.value
    ∙ slots_value n parts s blocks c.args.x c.args.y c.args.z c.self.invariant.lattice on b c.index-block.ensures c.self.inside.cells.side c.args.axis
    ∙ ap (λ (f : Field). value_at f c.args.axis (record { x = c.args.x.index; y = c.args.y.index; z = c.args.z.index })) c.self.view_is
