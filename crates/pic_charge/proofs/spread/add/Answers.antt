use Rattle.std.proofs.Common.{◌≡◌, ℤ, [], ◌∷◌, ◌^◌, ◌+ℤ◌, sym, ◌∙◌, subst}
use Rattle.pic_num.proofs.SizeLaws.{codes, code_is}
use Rattle.pic_num.specs.Sizes.{IsAtMost}
use Rattle.pic_num.specs.Space.{Triple, triple}
use Rattle.pic_block.specs.Cells.{IsWithin}
use Rattle.pic_charge.proofs.NodeLaws.{node_added}
use Rattle.pic_charge.proofs.SpreadLaws.{kept_is}
use Rattle.pic_charge.proofs.spread.add.Goals as goal

pub returns : goal.returns
returns c =
    let node : Triple = triple (c.args.x ∷ c.args.y ∷ c.args.z ∷ []) in
    let within : IsWithin node c.args.to.now.cells = record { x = c.requires.x; y = c.requires.y; z = c.requires.z } in
    let small : IsAtMost c.at.result (2 ^ 90) = subst (λ (v : ℤ). IsAtMost v (2 ^ 90)) (sym c.at.ensures) (c.requires.room.at_node node within) in
    let added : c.from.result ≡ c.args.amount = c.from.ensures ∙ kept_is c.args.amount c.requires.size in
    let light : IsAtMost c.from.result (2 ^ 61) = subst (λ (v : ℤ). IsAtMost v (2 ^ 61)) (sym added) c.requires.size in
    node_added c.args.to.now c.set.new.self node c.args.amount _ c.set.ensures.after
    (c.set.ensures.stored ∙ code_is (search codes depth 12) tt ∙ λ i. c.at.ensures i +ℤ added i)
    within
