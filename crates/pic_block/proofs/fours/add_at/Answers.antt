use Rattle.std.proofs.Common.{◌≡◌, ◌^◌, ◌+ℤ◌, ◌*ℤ◌, ℕ, ℤ, pos, Bool, true, false, List, to_z, of_z, slice_index_or, slice_set, unsigned_abs, refl, ◌∙◌}
use mir.Syntax.{w64, w128}
use Rattle.std.proofs.lemmas.Int.{to_z-of_z}
use Rattle.pic_num.specs.Sizes.{IsAtMost}
use Rattle.pic_num.proofs.SizeLaws.{codes, code_is}
use Rattle.pic_block.specs.Fours.{added_in}
use Rattle.pic_block.proofs.fours.add_at.Goals as goal

-- the sum as the code computes it
held : (x v : ℤ) → IsAtMost x (2 ^ 120) → IsAtMost v (2 ^ 80) → to_z w128 (of_z w128 (to_z w128 (of_z w128 x) +ℤ to_z w128 (of_z w128 v))) ≡ x +ℤ v
held x v h k = code_is (search codes depth 8) tt

-- the list with a sum written
written : (found : Bool) (xs : List ℤ) (p : ℕ) (v w : ℤ) → found ≡ true → w ≡ slice_index_or xs p (pos 0) +ℤ v → slice_set xs p w ≡ added_in found xs p v
unfolding added_in
written true xs p v w found e = λ i. slice_set xs p (e i)
written false xs p v w found e = cc

left : (found : Bool) (xs : List ℤ) (p : ℕ) (v : ℤ) → found ≡ false → xs ≡ added_in found xs p v
unfolding added_in
left true xs p v none = cc
left false xs p v none = refl

pub returns-then-found : goal.returns-then-found
returns-then-found c =
    let xs = c.args.values.now in
    let place : to_z w64 (of_z w64 c.args.place) ≡ c.args.place = to_z-of_z w64 c.args.place c.ranges.place in
    let p = unsigned_abs c.args.place in
    let added = c.product.result in
    let is : added ≡ c.args.by *ℤ c.args.weight =
    c.product.ensures.value ∙ (λ i. to_z-of_z w64 c.args.by c.ranges.by i *ℤ to_z-of_z w64 c.args.weight c.ranges.weight i) in
    (λ i.
    let k = unsigned_abs (place i) in
    slice_set xs k (to_z w128 (of_z w128 (to_z w128 (of_z w128 (slice_index_or xs k (pos 0))) +ℤ to_z w128 (of_z w128 added)))))
    ∙ written c.args.found xs p (c.args.by *ℤ c.args.weight) _ c.if-found.true
    (held (slice_index_or xs p (pos 0)) added (c.requires.room.at_most p) c.product.ensures.size ∙ (λ i. slice_index_or xs p (pos 0) +ℤ is i))

pub returns-else-found : goal.returns-else-found
returns-else-found c = left c.args.found c.args.values.now (unsigned_abs c.args.place) (c.args.by *ℤ c.args.weight) c.if-found.false
