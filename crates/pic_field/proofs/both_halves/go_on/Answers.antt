use Rattle.std.proofs.Common.{◌≡◌, ◌*◌, ℕ, length, refl, sym, ◌∙◌, ap, subst}
use Rattle.pic_num.specs.Limits.{most_value}
use Rattle.pic_block.specs.Block.{IsAmongCells}
use Rattle.pic_block.specs.Cells.{count_of}
use Rattle.pic_block.specs.Lending.{with_values}
use Rattle.pic_grid.specs.declared.stop.Phase.TheVariants.{Half2}
use Rattle.pic_field.specs.Rows.{IsSmallRow}
use Rattle.pic_field.proofs.CalmLaws.{calm_none, new_stop}
use Rattle.pic_field.proofs.FaultLaws.{stop_of}
use Rattle.pic_field.proofs.HalvesLaws.{small_values, given_small, forced}
use Rattle.pic_field.proofs.both_halves.go_on.Goals as goal
use Rattle.pic_field.proofs.both_halves.go_on.Goals.{After-values_mut-2, Then-second_half, Else-second_half}

-- the blocks have a value for each place
b_long : (c : After-values_mut-2) → length c.args.b.now.values ≡ 3 * count_of c.args.b.now.size
b_long c = sym (ap length c.values_mut.ensures.value) ∙ c.values_mut.ensures.shape

force_long : (c : After-values_mut-2) → length c.args.force.now.values ≡ 3 * count_of c.args.force.now.size
force_long c = sym (ap length c.values_mut-2.ensures.value) ∙ c.values_mut-2.ensures.shape

pub second_half-requires-clause-small : goal.second_half-requires-clause-small
second_half-requires-clause-small c =
    subst (λ xs. IsSmallRow most_value (length xs) xs) (sym c.values_mut.ensures.value)
    (small_values c.args.b.now c.args.cells.n most_value c.requires.among (b_long c) c.requires.small)

pub second_half-requires-clause-before : goal.second_half-requires-clause-before
second_half-requires-clause-before c =
    let b = c.args.b.now in
    let f = c.args.force.now in
    let zone = c.requires.zone in
    let among : IsAmongCells f.low f.size c.args.cells.n =
    subst (λ l. IsAmongCells l f.size c.args.cells.n) (sym zone.low) (subst (λ s. IsAmongCells b.low s c.args.cells.n) (sym zone.size) c.requires.among) in
    let as_long : length c.values_mut-2.result.now ≡ length c.values_mut.result.now =
    c.values_mut-2.ensures.shape ∙ ap (λ s. 3 * count_of s) zone.size ∙ sym c.values_mut.ensures.shape in
    subst (λ (n : ℕ). IsSmallRow most_value n c.values_mut-2.result.now) as_long
    (subst (λ xs. IsSmallRow most_value (length xs) xs) (sym c.values_mut-2.ensures.value)
    (small_values f c.args.cells.n most_value among (force_long c) c.requires.before))

pub returns-then-second_half-clause-force : goal.returns-then-second_half-clause-force
returns-then-second_half-clause-force c =
    let at = (goal.at.returns-then-second_half-clause-force c).After-values_mut-2 in
    forced c.args.b.now c.args.force.now c.values_mut.result.now c.second_half.new.force c.args.by c.requires.zone c.values_mut.ensures.value (b_long at)
    (c.second_half.auto.force ∙ ap length c.values_mut-2.ensures.value) c.second_half.ensures.force

pub returns-then-second_half-clause-stop : goal.returns-then-second_half-clause-stop
returns-then-second_half-clause-stop c = λ f values.
    let at = (goal.at.returns-then-second_half-clause-stop c).After-values_mut-2 in
    let b = c.args.b.now in
    let same : length c.second_half.new.values ≡ length b.values = c.second_half.auto.values ∙ ap length c.values_mut.ensures.value in
    let small = subst (λ (n : ℕ). IsSmallRow c.safe_most.result n c.second_half.new.values) (ap length c.values_mut.ensures.value)
    (c.second_half.ensures.calm c.if-second_half.true) in
    sym (calm_none Half2 c.args.by f b (with_values b c.second_half.new.values) c.args.cells.n c.requires.among (record { low = refl; size = refl }) values
    c.safe_most.result (given_small b c.second_half.new.values c.safe_most.result (b_long at) same small) c.safe_most.ensures)

pub returns-clause-force : goal.returns-clause-force
returns-clause-force c =
    let at = (goal.at.returns-clause-force c).After-values_mut-2 in
    forced c.args.b.now c.args.force.now c.values_mut.result.now c.second_half.new.force c.args.by c.requires.zone c.values_mut.ensures.value (b_long at)
    (c.second_half.auto.force ∙ ap length c.values_mut-2.ensures.value) c.second_half.ensures.force

pub returns-clause-stop : goal.returns-clause-stop
returns-clause-stop c = λ f values.
    let b = c.args.b.now in
    c.err.ensures.value ∙ stop_of _ c.stop_in.result c.stop_in.ensures
    ∙ new_stop Half2 c.args.by f b (with_values b c.second_half.new.values) c.args.cells.n c.requires.among (record { low = refl; size = refl }) values
