use Rattle.std.proofs.Common.{◌≡◌, ◌+◌, ◌*◌, ◌^◌, ◌<◌, ◌+ℤ◌, ◌*ℤ◌, ℕ, ℤ, Bool, List, to_z, of_z, length, unsigned_abs, sym, ◌∙◌, ap, subst, arith}
use Rattle.std.specs.Prelude.{IsTrue}
use Rattle.std.specs.Int.{w64, int_wrap}
use Rattle.std.specs.Vec.{with_items}
use Rattle.std.proofs.lemmas.Bool.{false≢true}
use Rattle.std.proofs.lemmas.Int.{to_z-of_z, fits_signed_from_abs}
use Rattle.std.proofs.lemmas.List.{with_items_is}
use mir.Val.{SFits}
use Rattle.pic_num.specs.Sizes.{IsAtMost}
use Rattle.pic_num.specs.Space.{Spot, Triple, spot, next_axis}
use Rattle.pic_block.specs.Block.{BlockValues, inner_of}
use Rattle.pic_block.specs.BlockLayers.{NumbersAtMost}
use Rattle.pic_block.specs.Cells.{count_of, place_of}
use Rattle.pic_block.specs.Fours.{added_in, step_by}
use Rattle.pic_block.specs.Rows.{lifted}
use Rattle.pic_block.proofs.FourLaws.{StandsAt, stands_at, first_is, up_is, added_in_at, length-added_in, added_in_small, are_at_most_more, carried_small}
use Rattle.pic_block.proofs.BlockLayerLaws.{all_numbers}
use Rattle.pic_block.proofs.block.Block.add_four.Goals as goal
use Rattle.pic_block.proofs.block.Block.add_four.Goals.{After-as_mut_slice-values}

-- a number of 64 bits as the code passes it on
held : (z : ℤ) → SFits w64 z → to_z w64 (of_z w64 z) ≡ z
held z fits = to_z-of_z w64 z fits

-- a step from a number
stepped : (s y z w : ℤ) → SFits w64 y → SFits w64 z → s ≡ int_wrap w64 (to_z w64 (of_z w64 y) +ℤ to_z w64 (of_z w64 z)) → z ≡ w → s ≡ int_wrap w64 (y +ℤ w)
stepped s y z w first second is e = is ∙ (λ i. int_wrap w64 (held y first i +ℤ (held z second ∙ e) i))

-- what is known once the numbers are: the four in 64 bits, and the values
record Known (c : After-as_mut_slice-values) : Type 0 where
  same : c.as_mut_slice-values.result.now ≡ c.args.self.now.values
  whole : length c.as_mut_slice-values.result.now ≡ 3 * count_of c.args.self.now.size
  few : 3 * count_of c.args.self.now.size < 2 ^ 60
  room : NumbersAtMost (2 ^ 110) c.as_mut_slice-values.result.now
  low_low : StandsAt c.args.self.now.size c.args.found.now.low_low
      (place_of c.args.self.now.size c.args.axis (inner_of c.args.self.now.low (spot c.args.at.now.cell))) (to_z w64 (of_z w64 c.first-here.result))
  high_low : StandsAt c.args.self.now.size c.args.found.now.high_low
      (place_of c.args.self.now.size c.args.axis (inner_of c.args.self.now.low (lifted (next_axis c.args.axis) (spot c.args.at.now.cell))))
      (to_z w64 (of_z w64 c.sum-up.result))
  low_high : StandsAt c.args.self.now.size c.args.found.now.low_high
      (place_of c.args.self.now.size c.args.axis (inner_of c.args.self.now.low (lifted (next_axis (next_axis c.args.axis)) (spot c.args.at.now.cell))))
      (to_z w64 (of_z w64 c.sum-high.result))
  high_high : StandsAt c.args.self.now.size c.args.found.now.high_high
      (place_of c.args.self.now.size c.args.axis
      (inner_of c.args.self.now.low (lifted (next_axis c.args.axis) (lifted (next_axis (next_axis c.args.axis)) (spot c.args.at.now.cell)))))
      (to_z w64 (of_z w64 c.sum-far.result))

known : (c : After-as_mut_slice-values) → Known c
known c =
    let b = c.args.self.now in
    let a = c.args.axis in
    let at = c.args.at.now in
    let cell = spot at.cell in
    let base = c.requires.base in
    let second = c.next-second.ensures in
    let third : c.next-third.result ≡ next_axis (next_axis a) = c.next-third.ensures ∙ ap next_axis second in
    let same = c.as_mut_slice-values.ensures.value ∙ ap (λ (d : BlockValues). d.values) c.self.view_is in
    let long : length b.values ≡ 3 * count_of b.size =
    subst (λ (d : BlockValues). length d.values ≡ 3 * count_of d.size) c.self.view_is c.self.invariant.long in
    let whole = ap length same ∙ long in
    let few : 3 * count_of b.size < 2 ^ 60 = omega (arith, whole, c.as_mut_slice-values.type_inv.1) in
    let fits_here : SFits w64 c.first-here.result = record { sfits = c.first-here.type_inv } in
    let fits_up : SFits w64 c.sum-up.result = record { sfits = c.sum-up.type_inv } in
    let fits_high : SFits w64 c.sum-high.result = record { sfits = c.sum-high.type_inv } in
    let fits_far : SFits w64 c.sum-far.result = record { sfits = c.sum-far.type_inv } in
    let fits_step : SFits w64 c.step.result = record { sfits = c.step.type_inv } in
    let fits_step_2 : SFits w64 c.step-2.result = record { sfits = c.step-2.type_inv } in
    let fits_step_3 : SFits w64 c.step-3.result = record { sfits = c.step-3.type_inv } in
    let here = c.first-here.ensures ∙ first_is b.low b.size at a base in
    let up = stepped c.sum-up.result _ _ _ fits_here fits_step c.sum-up.ensures (c.step.ensures ∙ ap (step_by at) second)
    ∙ up_is b.low b.size at a (next_axis a) cell c.first-here.result base here in
    let high = stepped c.sum-high.result _ _ _ fits_here fits_step_2 c.sum-high.ensures (c.step-2.ensures ∙ ap (step_by at) third)
    ∙ up_is b.low b.size at a (next_axis (next_axis a)) cell c.first-here.result base here in
    let far = stepped c.sum-far.result _ _ _ fits_high fits_step_3 c.sum-far.ensures (c.step-3.ensures ∙ ap (step_by at) second)
    ∙ up_is b.low b.size at a (next_axis a) (lifted (next_axis (next_axis a)) cell) c.sum-high.result base high in
    record {
      same = same;
      whole = whole;
      few = few;
      room = all_numbers b (2 ^ 110) _ same long c.requires.room;
      low_low = stands_at b.low b.size a cell c.args.found.now.low_low _ c.requires.found.low_low (held _ fits_here ∙ here) few;
      high_low = stands_at b.low b.size a (lifted (next_axis a) cell) c.args.found.now.high_low _ c.requires.found.high_low (held _ fits_up ∙ up) few;
      low_high = stands_at b.low b.size a (lifted (next_axis (next_axis a)) cell) c.args.found.now.low_high _ c.requires.found.low_high
          (held _ fits_high ∙ high) few;
      high_high = stands_at b.low b.size a (lifted (next_axis a) (lifted (next_axis (next_axis a)) cell)) c.args.found.now.high_high _
          c.requires.found.high_high (held _ fits_far ∙ far) few;
    }

-- what an addition at the place q, which the code knows as z, leaves of a list of len numbers
record Step (found : Bool) (xs ys : List ℤ) (q : ℕ) (v : ℤ) (len m : ℕ) : Type 0 where
  is : ys ≡ added_in found xs q v
  long : length ys ≡ len
  room : NumbersAtMost (m + 2 ^ 80) ys

below_of : (n : Triple) (found : Bool) (q : ℕ) (z : ℤ) (xs : List ℤ) → length xs ≡ 3 * count_of n → StandsAt n found q z → IsTrue found
    → unsigned_abs z < length xs
below_of n found q z xs e h has = subst (λ (k : ℕ). unsigned_abs z < k) (sym e) (h.below has)

step : (n : Triple) (found : Bool) (q : ℕ) (z : ℤ) (xs ys : List ℤ) (by weight : ℤ) (m : ℕ) → StandsAt n found q z → IsAtMost by (2 ^ 45)
    → IsAtMost weight (2 ^ 35) → length xs ≡ 3 * count_of n → NumbersAtMost m xs
    → ys ≡ added_in found xs (unsigned_abs z) (to_z w64 (of_z w64 by) *ℤ to_z w64 (of_z w64 weight))
    → Step found xs ys q (by *ℤ weight) (3 * count_of n) m
step n found q z xs ys by weight m at carried light long room e =
    let v = by *ℤ weight in
    let by_fits = fits_signed_from_abs w64 by (let size = carried.size in omega (arith, size)) in
    let weight_fits = fits_signed_from_abs w64 weight (let size = light.size in omega (arith, size)) in
    let is : ys ≡ added_in found xs (unsigned_abs z) v =
    e ∙ (λ i. added_in found xs (unsigned_abs z) (held by by_fits i *ℤ held weight weight_fits i)) in
    let small = carried_small by weight carried light in
    record {
      is = is ∙ added_in_at found xs (unsigned_abs z) q v at.same;
      long = ap length is ∙ length-added_in found xs (unsigned_abs z) v ∙ long;
      room = subst (NumbersAtMost (m + 2 ^ 80)) (sym is) (added_in_small found xs (unsigned_abs z) v m (2 ^ 80) (below_of n found q z xs long at) small room);
    }

-- the places of the four
abbrev place : After-as_mut_slice-values → Spot → ℕ
place c d = place_of c.args.self.now.size c.args.axis (inner_of c.args.self.now.low d)

-- what the additions leave, one after the other
first : (c : After-as_mut_slice-values) (ys : List ℤ)
    → ys ≡ added_in c.args.found.now.low_low c.as_mut_slice-values.result.now (unsigned_abs (to_z w64 (of_z w64 c.first-here.result)))
    (to_z w64 (of_z w64 c.args.four.now.by) *ℤ to_z w64 (of_z w64 c.args.four.now.low_low))
    → Step c.args.found.now.low_low c.as_mut_slice-values.result.now ys (place c (spot c.args.at.now.cell))
    (c.args.four.now.by *ℤ c.args.four.now.low_low) (3 * count_of c.args.self.now.size) (2 ^ 110)
first c ys e =
    let k = known c in
    step c.args.self.now.size _ _ _ _ ys _ _ (2 ^ 110) k.low_low c.requires.small.by c.requires.small.low_low k.whole k.room e

second : (c : After-as_mut_slice-values) (xs ys : List ℤ) → length xs ≡ 3 * count_of c.args.self.now.size
    → NumbersAtMost (2 ^ 110 + 2 ^ 80) xs
    → ys ≡ added_in c.args.found.now.high_low xs (unsigned_abs (to_z w64 (of_z w64 c.sum-up.result)))
    (to_z w64 (of_z w64 c.args.four.now.by) *ℤ to_z w64 (of_z w64 c.args.four.now.high_low))
    → Step c.args.found.now.high_low xs ys (place c (lifted (next_axis c.args.axis) (spot c.args.at.now.cell)))
    (c.args.four.now.by *ℤ c.args.four.now.high_low) (3 * count_of c.args.self.now.size) (2 ^ 110 + 2 ^ 80)
second c xs ys long room e =
    let k = known c in
    step c.args.self.now.size _ _ _ xs ys _ _ (2 ^ 110 + 2 ^ 80) k.high_low c.requires.small.by c.requires.small.high_low long room e

third : (c : After-as_mut_slice-values) (xs ys : List ℤ) → length xs ≡ 3 * count_of c.args.self.now.size
    → NumbersAtMost (2 ^ 110 + 2 ^ 80 + 2 ^ 80) xs
    → ys ≡ added_in c.args.found.now.low_high xs (unsigned_abs (to_z w64 (of_z w64 c.sum-high.result)))
    (to_z w64 (of_z w64 c.args.four.now.by) *ℤ to_z w64 (of_z w64 c.args.four.now.low_high))
    → Step c.args.found.now.low_high xs ys (place c (lifted (next_axis (next_axis c.args.axis)) (spot c.args.at.now.cell)))
    (c.args.four.now.by *ℤ c.args.four.now.low_high) (3 * count_of c.args.self.now.size) (2 ^ 110 + 2 ^ 80 + 2 ^ 80)
third c xs ys long room e =
    let k = known c in
    step c.args.self.now.size _ _ _ xs ys _ _ (2 ^ 110 + 2 ^ 80 + 2 ^ 80) k.low_high c.requires.small.by c.requires.small.low_high long room e

fourth : (c : After-as_mut_slice-values) (xs ys : List ℤ) → length xs ≡ 3 * count_of c.args.self.now.size
    → NumbersAtMost (2 ^ 110 + 2 ^ 80 + 2 ^ 80 + 2 ^ 80) xs
    → ys ≡ added_in c.args.found.now.high_high xs (unsigned_abs (to_z w64 (of_z w64 c.sum-far.result)))
    (to_z w64 (of_z w64 c.args.four.now.by) *ℤ to_z w64 (of_z w64 c.args.four.now.high_high))
    → Step c.args.found.now.high_high xs ys (place c (lifted (next_axis c.args.axis) (lifted (next_axis (next_axis c.args.axis)) (spot c.args.at.now.cell))))
    (c.args.four.now.by *ℤ c.args.four.now.high_high) (3 * count_of c.args.self.now.size) (2 ^ 110 + 2 ^ 80 + 2 ^ 80 + 2 ^ 80)
fourth c xs ys long room e =
    let k = known c in
    step c.args.self.now.size _ _ _ xs ys _ _ (2 ^ 110 + 2 ^ 80 + 2 ^ 80 + 2 ^ 80) k.high_high c.requires.small.by c.requires.small.high_high long room e

pub add_at-requires-clause-least : goal.add_at-requires-clause-least
add_at-requires-clause-least c = (known (goal.at.add_at-requires-clause-least c).After-as_mut_slice-values).low_low.least

pub add_at-requires-clause-below : goal.add_at-requires-clause-below
add_at-requires-clause-below c =
    let j = (goal.at.add_at-requires-clause-below c).After-as_mut_slice-values in
    below_of c.args.self.now.size _ _ _ c.as_mut_slice-values.result.now (known j).whole (known j).low_low

pub add_at-requires-clause-room : goal.add_at-requires-clause-room
add_at-requires-clause-room c =
    let j = (goal.at.add_at-requires-clause-room c).After-as_mut_slice-values in
    are_at_most_more c.as_mut_slice-values.result.now (2 ^ 110) (2 ^ 120) (omega arith) (known j).room

pub add_at-requires-2-clause-least : goal.add_at-requires-2-clause-least
add_at-requires-2-clause-least c = (known (goal.at.add_at-requires-2-clause-least c).After-as_mut_slice-values).high_low.least

pub add_at-requires-2-clause-below : goal.add_at-requires-2-clause-below
add_at-requires-2-clause-below c =
    let j = (goal.at.add_at-requires-2-clause-below c).After-as_mut_slice-values in
    let one = first j c.add_at.new.values c.add_at.ensures in
    below_of c.args.self.now.size _ _ _ c.add_at.new.values one.long (known j).high_low

pub add_at-requires-2-clause-room : goal.add_at-requires-2-clause-room
add_at-requires-2-clause-room c =
    let j = (goal.at.add_at-requires-2-clause-room c).After-as_mut_slice-values in
    let one = first j c.add_at.new.values c.add_at.ensures in
    are_at_most_more c.add_at.new.values (2 ^ 110 + 2 ^ 80) (2 ^ 120) (omega arith) one.room

pub add_at-requires-3-clause-least : goal.add_at-requires-3-clause-least
add_at-requires-3-clause-least c = (known (goal.at.add_at-requires-3-clause-least c).After-as_mut_slice-values).low_high.least

pub add_at-requires-3-clause-below : goal.add_at-requires-3-clause-below
add_at-requires-3-clause-below c =
    let j = (goal.at.add_at-requires-3-clause-below c).After-as_mut_slice-values in
    let one = first j c.add_at.new.values c.add_at.ensures in
    let two = second j c.add_at.new.values c.add_at-2.new.values one.long one.room c.add_at-2.ensures in
    below_of c.args.self.now.size _ _ _ c.add_at-2.new.values two.long (known j).low_high

pub add_at-requires-3-clause-room : goal.add_at-requires-3-clause-room
add_at-requires-3-clause-room c =
    let j = (goal.at.add_at-requires-3-clause-room c).After-as_mut_slice-values in
    let one = first j c.add_at.new.values c.add_at.ensures in
    let two = second j c.add_at.new.values c.add_at-2.new.values one.long one.room c.add_at-2.ensures in
    are_at_most_more c.add_at-2.new.values (2 ^ 110 + 2 ^ 80 + 2 ^ 80) (2 ^ 120) (omega arith) two.room

pub add_at-requires-4-clause-least : goal.add_at-requires-4-clause-least
add_at-requires-4-clause-least c = (known (goal.at.add_at-requires-4-clause-least c).After-as_mut_slice-values).high_high.least

pub add_at-requires-4-clause-below : goal.add_at-requires-4-clause-below
add_at-requires-4-clause-below c =
    let j = (goal.at.add_at-requires-4-clause-below c).After-as_mut_slice-values in
    let one = first j c.add_at.new.values c.add_at.ensures in
    let two = second j c.add_at.new.values c.add_at-2.new.values one.long one.room c.add_at-2.ensures in
    let three = third j c.add_at-2.new.values c.add_at-3.new.values two.long two.room c.add_at-3.ensures in
    below_of c.args.self.now.size _ _ _ c.add_at-3.new.values three.long (known j).high_high

pub add_at-requires-4-clause-room : goal.add_at-requires-4-clause-room
add_at-requires-4-clause-room c =
    let j = (goal.at.add_at-requires-4-clause-room c).After-as_mut_slice-values in
    let one = first j c.add_at.new.values c.add_at.ensures in
    let two = second j c.add_at.new.values c.add_at-2.new.values one.long one.room c.add_at-2.ensures in
    let three = third j c.add_at-2.new.values c.add_at-3.new.values two.long two.room c.add_at-3.ensures in
    are_at_most_more c.add_at-3.new.values (2 ^ 110 + 2 ^ 80 + 2 ^ 80 + 2 ^ 80) (2 ^ 120) (omega arith) three.room

pub invariant_of-self : goal.invariant_of-self
invariant_of-self c =
    let j = (goal.at.invariant_of-self c).After-as_mut_slice-values in
    let one = first j c.add_at.new.values c.add_at.ensures in
    let two = second j c.add_at.new.values c.add_at-2.new.values one.long one.room c.add_at-2.ensures in
    let three = third j c.add_at-2.new.values c.add_at-3.new.values two.long two.room c.add_at-3.ensures in
    let four = fourth j c.add_at-3.new.values c.add_at-4.new.values three.long three.room c.add_at-4.ensures in
    let items : (with_items c.self.inside.values c.add_at-4.new.values).items ≡ c.add_at-4.new.values =
    with_items_is c.self.inside.values c.add_at-4.new.values (four.long ∙ sym (known j).whole ∙ c.as_mut_slice-values.ensures.len) in
    record {
      long = ap length items ∙ four.long ∙ ap (λ (b : BlockValues). 3 * count_of b.size) (sym c.self.view_is);
      zeros = λ never. absurd (false≢true never);
      small = λ never. absurd (false≢true never);
    }

pub returns-clause-values : goal.returns-clause-values
returns-clause-values c =
    let j = (goal.at.returns-clause-values c).After-as_mut_slice-values in
    let b = c.args.self.now in
    let a = c.args.axis in
    let cell = spot c.args.at.now.cell in
    let f = c.args.found.now in
    let v = c.args.four.now in
    let one = first j c.add_at.new.values c.add_at.ensures in
    let two = second j c.add_at.new.values c.add_at-2.new.values one.long one.room c.add_at-2.ensures in
    let three = third j c.add_at-2.new.values c.add_at-3.new.values two.long two.room c.add_at-3.ensures in
    let four = fourth j c.add_at-3.new.values c.add_at-4.new.values three.long three.room c.add_at-4.ensures in
    let second = next_axis a in
    let third = next_axis second in
    let q = place j (lifted second cell) in
    let r = place j (lifted third cell) in
    let s = place j (lifted second (lifted third cell)) in
    let sums = four.is
    ∙ ap (λ (xs : List ℤ). added_in f.high_high xs s (v.by *ℤ v.high_high)) (three.is
    ∙ ap (λ (xs : List ℤ). added_in f.low_high xs r (v.by *ℤ v.low_high)) (two.is
    ∙ ap (λ (xs : List ℤ). added_in f.high_low xs q (v.by *ℤ v.high_low)) (one.is
    ∙ ap (λ (xs : List ℤ). added_in f.low_low xs (place j cell) (v.by *ℤ v.low_low)) (known j).same))) in
    let items : (with_items c.self.inside.values c.add_at-4.new.values).items ≡ c.add_at-4.new.values =
    with_items_is c.self.inside.values c.add_at-4.new.values (four.long ∙ sym (known j).whole ∙ c.as_mut_slice-values.ensures.len) in
    λ i. record { low = (c.self.view_is i).low; size = (c.self.view_is i).size; values = (items ∙ sums) i }
