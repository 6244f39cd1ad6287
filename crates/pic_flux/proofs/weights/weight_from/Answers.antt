use Rattle.std.proofs.Common.{◌≡◌, true, ap, ◌∙◌}
use mir.Syntax.{w32, w64}
use mir.Val.{to_z, of_z}
use Rattle.std.proofs.lemmas.Int.{to_z-of_z}
use Rattle.pic_num.specs.Space.{along}
use Rattle.pic_num.proofs.SizeLaws.{codes, code_at_most}
use Rattle.pic_grid.specs.Segment.{Piece}
use Rattle.pic_flux.specs.Corners.{face_weight}
use Rattle.pic_flux.proofs.weights.weight_from.Goals as goal

pub returns-clause-value : goal.returns-clause-value
returns-clause-value c =
    let s = c.args.seg.now in
    let a = c.args.axis in
    let cell_is : to_z w32 (of_z w32 c.along.result) ≡ along a s.cell =
    to_z-of_z w32 c.along.result (record { sfits = c.along.type_inv }) ∙ c.along.ensures ∙ ap (λ (p : Piece). along a p.cell) c.seg.view_is in
    let end_is : to_z w32 (of_z w32 c.along-2.result) ≡ along a s.from =
    to_z-of_z w32 c.along-2.result (record { sfits = c.along-2.type_inv }) ∙ c.along-2.ensures ∙ ap (λ (p : Piece). along a p.from) c.seg.view_is in
    to_z-of_z w64 c.high_weight.result (record { sfits = c.high_weight.type_inv })
    ∙ c.high_weight.ensures.value ∙ (λ i. face_weight c.args.sub true (cell_is i) (end_is i))

pub returns-clause-size : goal.returns-clause-size
returns-clause-size c = code_at_most (search codes depth 4) tt
