use Rattle.std.proofs.Common.{◌≡◌, ap, sym, ◌∙◌, subst}
use Rattle.std.proofs.Math.IntN.{ℤ}
use Rattle.std.proofs.lemmas.Int.{to_z-of_z}
use mir.Syntax.{w32}
use mir.Val.{SFits}
use Rattle.pic_num.specs.Limits.{most_charge}
use Rattle.pic_num.specs.Sizes.{IsAtMost}
use Rattle.pic_block.specs.Cells.{Grid, IsCells}
use Rattle.pic_tile.specs.Tiling.{cells_of}
use Rattle.pic_push.proofs.SendLaws.{path_fits}
use Rattle.pic_push.proofs.sending.path_of.Goals as goal

pub returns-clause-path : goal.returns-clause-path
returns-clause-path c =
    let m = c.args.frame.now.map in
    let whole = c.cells-2.ensures.value ∙ sym c.cells-2.ensures.frame.map_is in
    let side : c.sub.result ≡ m.side = c.sub.ensures ∙ ap (λ (g : Grid). g.side) whole in
    let n = c.cells.ensures.value ∙ sym c.cells.ensures.frame.map_is in
    let cells : IsCells (cells_of m) = subst (λ (g : Grid). IsCells g.n) n c.numbers.ensures.limits in
    let fits : SFits w32 c.charge_of.result = record { sfits = c.charge_of.type_inv } in
    let charge = subst (λ (v : ℤ). IsAtMost v most_charge) (sym (to_z-of_z w32 c.charge_of.result fits)) c.charge_of.ensures.size in
    path_fits _ m.side (cells_of m) side cells c.requires.can.place c.requires.limits.d charge
