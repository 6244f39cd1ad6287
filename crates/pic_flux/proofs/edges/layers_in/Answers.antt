use Rattle.std.proofs.Common.{◌≡◌, ℕ, ℤ, pos, ◌+ℤ◌, Bool, get_or, to_z, of_z, rules, ap, subst, ◌∙◌}
use Rattle.std.specs.Prelude.{IsTrue, ◌↔◌}
use mir.Syntax.{w32, w64}
use mir.Val.{SFits}
use Rattle.pic_num.specs.Space.{Triple, Spot}
use Rattle.pic_num.proofs.SizeLaws.{codes, code_fits, code_is, code_at_most}
use Rattle.pic_block.specs.Among.{IsOneOf}
use Rattle.pic_flux.proofs.FluxSizeLaws.{charge_passed, widened_is, widened_small}
use Rattle.pic_flux.proofs.edges.layers_in.Goals as goal

-- a test of the same layers, said otherwise
told : (b : Bool) (l m : ℤ) (n k : ℕ) (x y : ℤ) → l ≡ m → n ≡ k → x ≡ y → IsTrue b ↔ IsOneOf l n x → IsTrue b ↔ IsOneOf m k y
told b l m n k x y e f g h =
    subst (λ (z : ℤ). IsTrue b ↔ IsOneOf z k y) e
    (subst (λ (j : ℕ). IsTrue b ↔ IsOneOf l j y) f (subst (λ (z : ℤ). IsTrue b ↔ IsOneOf l n z) g h))

-- the layer above one that the code widens
up_is : (x r : ℤ) → SFits w32 x → r ≡ to_z w32 (of_z w32 x) → to_z w64 (of_z w64 (to_z w64 (of_z w64 r) +ℤ pos 1)) ≡ x +ℤ pos 1
up_is x r fits e =
    let small = widened_small x r fits e in code_is (search codes depth 8) tt ∙ ap (λ (z : ℤ). z +ℤ pos 1) (widened_is x r fits e)

pub overflow_add-x : goal.overflow_add-x
overflow_add-x c =
    let fits : SFits w32 (get_or c.args.cell 0 (pos 0)) = search rules in
    let small = widened_small (get_or c.args.cell 0 (pos 0)) c.from-x.result fits c.from-x.ensures in
    code_fits w64 (search codes depth 8) tt

pub overflow_add-y : goal.overflow_add-y
overflow_add-y c =
    let fits : SFits w32 (get_or c.args.cell 1 (pos 0)) = search rules in
    let small = widened_small (get_or c.args.cell 1 (pos 0)) c.from-y.result fits c.from-y.ensures in
    code_fits w64 (search codes depth 8) tt

pub overflow_add-z : goal.overflow_add-z
overflow_add-z c =
    let fits : SFits w32 (get_or c.args.cell 2 (pos 0)) = search rules in
    let small = widened_small (get_or c.args.cell 2 (pos 0)) c.from-z.result fits c.from-z.ensures in
    code_fits w64 (search codes depth 8) tt

pub is_among-requires : goal.is_among-requires
is_among-requires c =
    let fits : SFits w32 (get_or c.args.cell 0 (pos 0)) = search rules in
    let small = widened_small (get_or c.args.cell 0 (pos 0)) c.from-x.result fits c.from-x.ensures in
    code_at_most (search codes depth 8) tt

pub is_among-requires-2 : goal.is_among-requires-2
is_among-requires-2 c =
    let fits : SFits w32 (get_or c.args.cell 1 (pos 0)) = search rules in
    let small = widened_small (get_or c.args.cell 1 (pos 0)) c.from-y.result fits c.from-y.ensures in
    code_at_most (search codes depth 8) tt

pub is_among-requires-3 : goal.is_among-requires-3
is_among-requires-3 c =
    let fits : SFits w32 (get_or c.args.cell 2 (pos 0)) = search rules in
    let small = widened_small (get_or c.args.cell 2 (pos 0)) c.from-z.result fits c.from-z.ensures in
    code_at_most (search codes depth 8) tt

pub is_among-requires-4 : goal.is_among-requires-4
is_among-requires-4 c =
    let fits : SFits w32 (get_or c.args.cell 0 (pos 0)) = search rules in
    let small = widened_small (get_or c.args.cell 0 (pos 0)) c.from-x.result fits c.from-x.ensures in
    code_at_most (search codes depth 8) tt

pub is_among-requires-5 : goal.is_among-requires-5
is_among-requires-5 c =
    let fits : SFits w32 (get_or c.args.cell 1 (pos 0)) = search rules in
    let small = widened_small (get_or c.args.cell 1 (pos 0)) c.from-y.result fits c.from-y.ensures in
    code_at_most (search codes depth 8) tt

pub is_among-requires-6 : goal.is_among-requires-6
is_among-requires-6 c =
    let fits : SFits w32 (get_or c.args.cell 2 (pos 0)) = search rules in
    let small = widened_small (get_or c.args.cell 2 (pos 0)) c.from-z.result fits c.from-z.ensures in
    code_at_most (search codes depth 8) tt

pub returns : goal.returns
returns c =
    let low = c.zone.result.low in
    let held_x : to_z w32 (of_z w32 (get_or low 0 (pos 0))) ≡ get_or low 0 (pos 0) = search rules in
    let low_x = held_x ∙ ap (λ (s : Spot). s.x) c.zone.ensures.low in
    let held_y : to_z w32 (of_z w32 (get_or low 1 (pos 0))) ≡ get_or low 1 (pos 0) = search rules in
    let low_y = held_y ∙ ap (λ (s : Spot). s.y) c.zone.ensures.low in
    let held_z : to_z w32 (of_z w32 (get_or low 2 (pos 0))) ≡ get_or low 2 (pos 0) = search rules in
    let low_z = held_z ∙ ap (λ (s : Spot). s.z) c.zone.ensures.low in
    let size_x = ap (λ (n : Triple). n.x) c.zone.ensures.size in
    let size_y = ap (λ (n : Triple). n.y) c.zone.ensures.size in
    let size_z = ap (λ (n : Triple). n.z) c.zone.ensures.size in
    let fits_x : SFits w32 (get_or c.args.cell 0 (pos 0)) = search rules in
    let fits_y : SFits w32 (get_or c.args.cell 1 (pos 0)) = search rules in
    let fits_z : SFits w32 (get_or c.args.cell 2 (pos 0)) = search rules in
    record {
      at_x = told _ _ _ _ _ _ _ low_x size_x (charge_passed (get_or c.args.cell 0 (pos 0)) c.from-x.result fits_x c.from-x.ensures) c.is_among.ensures;
      at_y = told _ _ _ _ _ _ _ low_y size_y (charge_passed (get_or c.args.cell 1 (pos 0)) c.from-y.result fits_y c.from-y.ensures) c.is_among-2.ensures;
      at_z = told _ _ _ _ _ _ _ low_z size_z (charge_passed (get_or c.args.cell 2 (pos 0)) c.from-z.result fits_z c.from-z.ensures) c.is_among-3.ensures;
      over_x = told _ _ _ _ _ _ _ low_x size_x (up_is (get_or c.args.cell 0 (pos 0)) c.from-x.result fits_x c.from-x.ensures) c.is_among-4.ensures;
      over_y = told _ _ _ _ _ _ _ low_y size_y (up_is (get_or c.args.cell 1 (pos 0)) c.from-y.result fits_y c.from-y.ensures) c.is_among-5.ensures;
      over_z = told _ _ _ _ _ _ _ low_z size_z (up_is (get_or c.args.cell 2 (pos 0)) c.from-z.result fits_z c.from-z.ensures) c.is_among-6.ensures;
    }
