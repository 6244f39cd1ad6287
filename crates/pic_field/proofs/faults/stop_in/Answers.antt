use Rattle.std.proofs.Common.{◌≡◌, ◌*◌, ◌<◌, Option, to_z, of_z, rules, sym, ◌∙◌, ap, arith}
use Rattle.std.proofs.lemmas.Int.{to_z-of_z}
use mir.Syntax.{w128}
use mir.Val.{SFits}
use Rattle.pic_num.specs.Push.{unless}
use Rattle.pic_num.specs.Space.{triple, unwrapped}
use Rattle.pic_block.specs.Cells.{count_of}
use Rattle.pic_block.specs.Block.{edge_at}
use Rattle.pic_block.proofs.PlaceLaws.{first_place, next_place}
use Rattle.pic_grid.specs.declared.stop.Stop.{Stop}
use Rattle.pic_field.specs.FieldPhases.{fault_of}
use Rattle.pic_field.proofs.FaultLaws.{IsHere, is_here, fault_below-none, fault_below-more, fault_below-all}
use Rattle.pic_field.proofs.faults.stop_in.Goals as goal
use Rattle.pic_field.proofs.faults.stop_in.Goals.{After-cell_in-cell}

-- where the walk stands
here : (c : After-cell_in-cell) → IsHere c.args.b.now c.args.cells.n c.loop-number._number c.loop-number.place.axis (triple c.loop-number.place.inner)
    (triple c.cell_in-cell.result)
here c =
    let below : c.loop-number._number < 3 * count_of (triple c.zone-zone.result.size) =
    omega (arith, c.place_count-number-end.ensures, c.loop-number-test.true) in
    is_here c.args.b.now c.args.cells.n _ _ _ _ _ _ c.zone-zone.ensures.low c.zone-zone.ensures.size c.requires.among c.loop-number.invariant.place below
    c.cell_in-cell.ensures.value

pub loop-number-init : goal.loop-number-init
loop-number-init c = record {
  place = first_place (triple c.zone-zone.result.size) _ _ c.first-place.ensures.axis c.first-place.ensures.inner;
  stop = sym (fault_below-none c.args.phase c.args.by (λ a p. edge_at c.args.b.now a (unwrapped p)) c.args.b.now);
}

pub loop-number-preserved : goal.loop-number-preserved
loop-number-preserved c =
    let b = c.args.b.now in
    let i = c.loop-number._number in
    let a = c.loop-number.place.axis in
    let p = triple c.loop-number.place.inner in
    let q = triple c.cell_in-cell.result in
    let h = here (goal.at.loop-number-preserved c).After-cell_in-cell in
    let below : i < 3 * count_of (triple c.zone-zone.result.size) = omega (arith, c.place_count-number-end.ensures, c.loop-number-test.true) in
    let fits : SFits w128 c.at-value.result = search rules in
    let value : to_z w128 (of_z w128 c.at-value.result) ≡ edge_at b a (unwrapped q) =
    to_z-of_z w128 c.at-value.result fits ∙ c.at-value.ensures ∙ ap (edge_at b a) c.unwrapped.ensures in
    record {
      place = next_place (triple c.zone-zone.result.size) i a p _ _ c.loop-number.invariant.place below c.following-place.ensures.within
          c.following-place.ensures.number;
      stop = c.or-stop.ensures
          ∙ fault_below-more c.args.phase c.args.by (λ d r. edge_at b d (unwrapped r)) b c.args.cells.n i a p q c.loop-number.stop c.fault-found.result h
          c.loop-number.invariant.stop
          (c.fault-found.ensures ∙ ap (fault_of c.args.phase c.args.by a q) value);
    }

pub returns : goal.returns
returns c =
    let end : c.loop-number._number ≡ 3 * count_of (triple c.zone-zone.result.size) =
    omega (arith, c.place_count-number-end.ensures, c.loop-number-test.false, c.loop-number.auto._number-end) in
    c.answer.ensures
    ∙ ap (λ (o : Option Stop). unless o tt)
    (c.loop-number.invariant.stop
    ∙ fault_below-all c.args.phase c.args.by (λ a p. edge_at c.args.b.now a (unwrapped p)) c.args.b.now c.loop-number._number
    (end ∙ ap (λ n. 3 * count_of n) c.zone-zone.ensures.size))
