use Rattle.std.proofs.Common.{◌≡◌, ◌+◌, ◌*◌, ◌<◌, refl, ◌∙◌, ap, subst, arith}
use Rattle.pic_num.specs.Space.{Triple, triple}
use Rattle.pic_block.specs.Cells.{IsWithin, count_of, place_of}
use Rattle.pic_block.proofs.PlaceLaws.{first_place, next_place}
use Rattle.pic_drive.proofs.PlusLaws.{none_more, none_all}
use Rattle.pic_drive.proofs.driving.clear.Goals as goal

pub loop-number-init : goal.loop-number-init
loop-number-init c = record {
  like = record { cells = refl; side = refl; parts = refl; long = c.cells-cells.ensures.shape };
  place = first_place c.args.m.now.cells _ _ c.first-place.ensures.axis c.first-place.ensures.inner;
  none = record { at = λ a p w less. absurd (omega (arith, less)) };
}

pub loop-number-preserved : goal.loop-number-preserved
loop-number-preserved c =
    let n = c.args.m.now.cells in
    let i = c.loop-number._number in
    let count : c.count-number-end.result ≡ count_of n = c.count-number-end.ensures.value ∙ ap count_of c.cells-cells.ensures.value in
    let below : i < 3 * count_of n = omega (arith, c.loop-number-test.true, count) in
    let size : triple c.numbers.result ≡ n = c.numbers.ensures.value ∙ c.cells-cells.ensures.value in
    let more = none_more c.args.m.now c.loop-number.m c.set.new.self i c.loop-number.place.axis (triple c.loop-number.place.inner)
    c.loop-number.invariant.like c.loop-number.invariant.none c.loop-number.invariant.place below c.set.ensures.after in
    let within : IsWithin (triple c.following-place.result.inner) n =
    subst (λ (m : Triple). IsWithin (triple c.following-place.result.inner) m) size c.following-place.ensures.within in
    record {
      like = more.0;
      place = next_place n i _ _ _ _ c.loop-number.invariant.place below within
          (subst (λ (m : Triple). place_of m c.loop-number.place.axis (triple c.loop-number.place.inner) + 1 < 3 * count_of m
          → place_of m c.following-place.result.axis (triple c.following-place.result.inner) ≡ place_of m c.loop-number.place.axis
          (triple c.loop-number.place.inner) + 1) size c.following-place.ensures.number);
      none = more.1;
    }

pub returns : goal.returns
returns c =
    let n = c.args.m.now.cells in
    let count : c.count-number-end.result ≡ count_of n = c.count-number-end.ensures.value ∙ ap count_of c.cells-cells.ensures.value in
    none_all c.args.m.now c.loop-number.m c.loop-number._number c.loop-number.invariant.like c.loop-number.invariant.none
    (omega (arith, c.loop-number-test.false, c.loop-number.auto._number-end, count))
