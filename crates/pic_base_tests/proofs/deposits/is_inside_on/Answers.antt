use Rattle.std.proofs.Common.{◌≡◌, ℕ, ℤ, to_z, of_z, ap, subst, ◌∙◌}
use mir.Syntax.{w32}
use Rattle.std.proofs.lemmas.Int.{to_z-of_z}
use Rattle.pic_num.specs.Space.{along}
use Rattle.pic_grid.specs.Segment.{Piece, IsInside}
use Rattle.pic_base_tests.proofs.deposits.is_inside_on.Goals as goal

pub returns-clause-to : goal.returns-clause-to
returns-clause-to c =
    let s = c.args.seg.now in
    let a = c.args.axis in
    let cell : to_z w32 (of_z w32 c.along-c.result) ≡ along a s.cell =
    to_z-of_z w32 c.along-c.result (record { sfits = c.along-c.type_inv }) ∙ c.along-c.ensures ∙ ap (λ (t : Piece). along a t.cell) c.seg.view_is in
    let to : to_z w32 (of_z w32 c.along-to.result) ≡ along a s.to =
    to_z-of_z w32 c.along-to.result (record { sfits = c.along-to.type_inv }) ∙ c.along-to.ensures ∙ ap (λ (t : Piece). along a t.to) c.seg.view_is in
    λ yes.
    subst (λ (z : ℤ). IsInside c.args.sub (along a s.cell) z) to
    (subst (λ (z : ℤ). IsInside c.args.sub z (to_z w32 (of_z w32 c.along-to.result))) cell
    (subst (λ (n : ℕ). IsInside n (to_z w32 (of_z w32 c.along-c.result)) (to_z w32 (of_z w32 c.along-to.result))) c.side-side.ensures.value
    (c.is_inside-to_inside.ensures yes)))
