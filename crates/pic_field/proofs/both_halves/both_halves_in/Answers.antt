use Rattle.std.proofs.Common.{◌≡◌, ℤ, ◌+ℤ◌, ◌-ℤ◌, length, Option, None, Ok, sym, ◌∙◌, ap, subst}
use Rattle.pic_num.specs.Push.{unless}
use Rattle.pic_num.specs.Space.{Triple}
use Rattle.pic_num.specs.declared.axis.Axis.{Axis}
use Rattle.pic_num.proofs.FirstLaws.{unless_ok}
use Rattle.pic_block.specs.Block.{BlockValues, inner_at, outer_of}
use Rattle.pic_block.specs.Cells.{IsWithin, place_of}
use Rattle.pic_block.specs.Lending.{with_values}
use Rattle.pic_grid.specs.declared.stop.Phase.TheVariants.{Half1, Half2}
use Rattle.pic_grid.specs.declared.stop.Stop.{Stop}
use Rattle.pic_field.specs.FieldPhases.{lowest, least_fault, half_of, twice_in, stop_of_half, stop_of_second}
use Rattle.pic_field.specs.Rows.{row_at}
use Rattle.pic_field.proofs.HalvesLaws.{given, given_as_lent, twice_halved}
use Rattle.pic_field.proofs.ZoneLaws.{edge_at-outer}
use Rattle.pic_field.proofs.both_halves.both_halves_in.Goals as goal
use Rattle.pic_field.proofs.both_halves.both_halves_in.Goals.{After-go_on}

-- B as the first half step finds it
as_lent : (c : After-go_on) → with_values c.args.b.now c.values_mut-2.result.now ≡ c.args.b.now
as_lent c = given_as_lent c.args.b.now c.values_mut-2.result.now c.values_mut-2.ensures.value

-- B before it, in the other block
copied : (c : After-go_on) (a : Axis) (p : Triple) → inner_at (with_values c.args.force.now c.copy_from_slice.new.self) a p ≡ inner_at c.args.b.now a p
copied c a p =
    let f = c.args.force.now in
    let same : length c.copy_from_slice.new.self ≡ length f.values = c.copy_from_slice.auto.self ∙ ap length c.values_mut.ensures.value in
    ap (λ (g : BlockValues). inner_at g a p) (given f c.copy_from_slice.new.self same)
    ∙ (λ i. row_at (c.copy_from_slice.ensures.after i) (place_of (c.requires.zone.size i) a p))
    ∙ ap (λ xs. row_at xs (place_of c.args.b.now.size a p)) c.values_mut-2.ensures.value

-- and after both
twice : (c : After-go_on) (a : Axis) (p : Triple) → IsWithin p c.args.b.now.size → inner_at c.go_on.new.b a p
    ≡ half_of c.args.scales.now c.args.e.now a (outer_of c.args.b.now.low p)
    (half_of c.args.scales.now c.args.e.now a (outer_of c.args.b.now.low p) (inner_at c.args.b.now a p))
twice c a p w =
    let b = c.args.b.now in
    let after : ℤ → ℤ = half_of c.args.scales.now c.args.e.now a (outer_of b.low p) in
    let shape = c.half_b_in.ensures.shape in
    let half : inner_at c.half_b_in.new.b a p ≡ after (inner_at b a p) =
    c.half_b_in.ensures.values a p w ∙ ap (λ (g : BlockValues). after (inner_at g a p)) (as_lent c) in
    c.go_on.ensures.values a p (subst (λ (m : Triple). IsWithin p m) (sym shape.size) w)
    ∙ (λ i. half i +ℤ half i -ℤ copied c a p i)
    ∙ twice_halved c.args.scales.now c.args.e.now a (outer_of b.low p) (inner_at b a p)

pub returns-in-Ok-clause-values : goal.returns-in-Ok-clause-values
returns-in-Ok-clause-values c = λ a p w. twice c a p w

pub returns-in-Ok-clause-stop : goal.returns-in-Ok-clause-stop
returns-in-Ok-clause-stop c =
    let b = c.args.b.now in
    let sc = c.args.scales.now in
    let e = c.args.e.now in
    let shape = c.half_b_in.ensures.shape in
    let first : stop_of_half Half1 sc e b ≡ None =
    subst (λ (g : BlockValues). stop_of_half Half1 sc e g ≡ None) (as_lent c) (unless_ok _ tt c.in-Ok.field-0 (sym c.half_b_in.ensures.stop ∙ c.in-Ok.is)).0 in
    let values : (a : Axis) (p : Triple) → IsWithin p c.half_b_in.new.b.size
    → inner_at c.go_on.new.b a p ≡ twice_in sc e b a (outer_of c.half_b_in.new.b.low p) = λ a p w.
    twice c a p (subst (λ (m : Triple). IsWithin p m) shape.size w)
    ∙ ap (λ (v : ℤ). half_of sc e a (outer_of b.low p) (half_of sc e a (outer_of b.low p) v)) (sym (edge_at-outer b e.cells a p c.requires.among))
    ∙ (λ i. twice_in sc e b a (outer_of (sym shape.low i) p)) in
    let second : c.go_on.result ≡ stop_of_second sc e b =
    c.go_on.ensures.stop (twice_in sc e b) values ∙ (λ i. least_fault Half2 sc.b_force (lowest (shape.low i)) (shape.size i) (twice_in sc e b)) in
    (λ i. Ok (second i)) ∙ ap (λ (o : Option Stop). unless o (stop_of_second sc e b)) (sym first)
