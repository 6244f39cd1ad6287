use Rattle.std.proofs.Common.{◌∙◌, ◌*◌, ◌<◌, refl, sym, ap, rules, arith}
use Rattle.std.proofs.lemmas.Int.{to_z-of_z}
use mir.Syntax.{w128}
use mir.Val.{SFits}
use Rattle.pic_num.specs.First.{first_of}
use Rattle.pic_block.specs.Cells.{count_of}
use Rattle.pic_grid.specs.Lattice.{value_at}
use Rattle.pic_deck.specs.Initial.{strong}
use Rattle.pic_deck.proofs.ForceLaws.{strong_at-place, none_more, some_here, none_at_all}
use Rattle.pic_deck.proofs.forces.first_strong.Goals as goal

pub loop-place-init : goal.loop-place-init
unfolding first_of
loop-place-init c = record {
  same = c.cells-cells.ensures.value;
  last = ap (λ n. 3 * n) c.count.ensures.value ∙ ap (λ n. 3 * count_of n) c.cells-cells.ensures.value;
  none = refl;
}

pub returns-in-Some : goal.returns-in-Some
returns-in-Some c =
    let inv = c.loop-place.invariant in
    let fits : SFits w128 c.in-Some.force = search rules in
    let value = to_z-of_z w128 c.at.result (record { sfits = c.at.type_inv }) in
    let found = strong_at-place c.args.field.now.cells c.args.by (value_at c.args.field.now) _ _ c.loop-place.place
    (rw inv.same at c.place_at-axis.ensures.within) (rw inv.same at c.place_at-axis.ensures.number) in
    let here = found ∙ ap (strong c.args.by) (sym c.at.ensures ∙ sym value) ∙ sym c.in-Some.ensures in
    let below : c.loop-place.place < 3 * count_of c.args.field.now.cells = omega (arith, inv.last) in
    rw (to_z-of_z w128 _ fits) (sym (some_here _ _ _ _ _ inv.none below here))

pub loop-place-preserved : goal.loop-place-preserved
loop-place-preserved c =
    let inv = c.loop-place.invariant in
    let value = to_z-of_z w128 c.at.result (record { sfits = c.at.type_inv }) in
    let found = strong_at-place c.args.field.now.cells c.args.by (value_at c.args.field.now) _ _ c.loop-place.place
    (rw inv.same at c.place_at-axis.ensures.within) (rw inv.same at c.place_at-axis.ensures.number) in
    let here = found ∙ ap (strong c.args.by) (sym c.at.ensures ∙ sym value) ∙ sym c.in_default.ensures in
    record { same = inv.same; last = inv.last; none = none_more c.args.field.now.cells c.args.by (value_at c.args.field.now) c.loop-place.place inv.none here }

pub returns : goal.returns
returns c =
    let inv = c.loop-place.invariant in
    sym (none_at_all _ _ _ c.loop-place.place (omega (arith, inv.last)) inv.none)
