use Rattle.std.proofs.Common.{◌≡◌, ℕ, ◌≤◌, get_or, ap, ◌∙◌, arith}
use Rattle.std.proofs.Math.IntN.{pos, ◌+ℤ◌, ◌-ℤ◌}
use mir.Syntax.{w128}
use mir.Val.{to_z, of_z}
use Rattle.pic_num.specs.Space.{Triple}
use Rattle.pic_num.proofs.SizeLaws.{codes, code_is}
use Rattle.pic_grid.specs.Current.{sum_images, wrapped}
use Rattle.pic_ways.specs.Margin.{edge_or_zero}
use Rattle.pic_ways.proofs.MarginLaws.{own_index, down_index, up_index}
use Rattle.pic_ways.proofs.margin.sum_at.Goals as goal

pub returns-clause-value : goal.returns-clause-value
unfolding sum_images wrapped
returns-clause-value c =
    let n : ℕ = get_or c.numbers.result 2 0 in
    let at : ℕ = get_or c.args.cell 2 0 in
    let whole : n ≡ c.args.cells.n.z = ap (λ (t : Triple). t.z) c.numbers.ensures.value in
    let limit = c.numbers.ensures.limits.z_most in
    let most : n ≤ 128 = omega (arith, whole, limit) in
    let near = c.requires.within.z in
    let few : at ≤ 128 = omega (arith, near, limit) in
    let own = own_index at few in
    let down = down_index at n few most ∙ ap (λ (k : ℕ). pos at -ℤ pos k) whole in
    let up = up_index at n few most ∙ ap (λ (k : ℕ). pos at +ℤ pos k) whole in
    let d_size = c.sum_on_y-down.ensures.size in
    let o_size = c.sum_on_y-own.ensures.size in
    let u_size = c.sum_on_y-up.ensures.size in
    let sum : to_z w128 (of_z w128 (to_z w128 (of_z w128 (to_z w128 (of_z w128 c.sum_on_y-down.result) +ℤ to_z w128 (of_z w128 c.sum_on_y-own.result)))
    +ℤ to_z w128 (of_z w128 c.sum_on_y-up.result)))
    ≡ c.sum_on_y-down.result +ℤ c.sum_on_y-own.result +ℤ c.sum_on_y-up.result = code_is (search codes depth 20) tt in
    let f = edge_or_zero c.args.from.now c.args.axis in
    let down_is = c.sum_on_y-down.ensures.value ∙ (λ t. sum_images c.args.cells.n.y
    (λ j. sum_images c.args.cells.n.x (λ i. f (record { x = i; y = j; z = down t })) (get_or c.args.cell 0 0)) (get_or c.args.cell 1 0)) in
    let own_is = c.sum_on_y-own.ensures.value ∙ (λ t. sum_images c.args.cells.n.y
    (λ j. sum_images c.args.cells.n.x (λ i. f (record { x = i; y = j; z = own t })) (get_or c.args.cell 0 0)) (get_or c.args.cell 1 0)) in
    let up_is = c.sum_on_y-up.ensures.value ∙ (λ t. sum_images c.args.cells.n.y
    (λ j. sum_images c.args.cells.n.x (λ i. f (record { x = i; y = j; z = up t })) (get_or c.args.cell 0 0)) (get_or c.args.cell 1 0)) in
    sum ∙ (λ t. down_is t +ℤ own_is t +ℤ up_is t)
