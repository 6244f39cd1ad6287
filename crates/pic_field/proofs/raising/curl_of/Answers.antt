use Rattle.std.proofs.Common.{◌≡◌, ◌^◌, ◌+ℤ◌, ◌-ℤ◌, ℤ, to_z, of_z, sym, ◌∙◌, ap, subst}
use mir.Syntax.{w128}
use mir.Val.{SFits}
use Rattle.pic_num.specs.declared.axis.Axis.{Axis}
use Rattle.pic_num.specs.Sizes.{IsAtMost}
use Rattle.pic_num.specs.Space.{Triple, triple, next_axis}
use Rattle.pic_num.proofs.SizeLaws.{codes, code_fits, code_is}
use Rattle.pic_block.specs.Cells.{IsWithin}
use Rattle.pic_grid.specs.Differences.{down}
use Rattle.pic_grid.specs.Lattice.{value_at}
use Rattle.pic_field.proofs.raising.curl_of.Goals as goal
use Rattle.pic_field.proofs.raising.curl_of.Goals.{After-at-far_second}

-- four values of a drive, as the code adds them
module _ (a b c d : ℤ) (one : IsAtMost a (2 ^ 64)) (two : IsAtMost b (2 ^ 64)) (three : IsAtMost c (2 ^ 64)) (four : IsAtMost d (2 ^ 64))
  where
    abbrev word : ℤ → ℤ
    word z = to_z w128 (of_z w128 z)

    three_fit : SFits w128 (word (word a -ℤ word b) -ℤ word c)
    three_fit = code_fits w128 (search codes depth 18) tt

    four_fit : SFits w128 (word (word (word a -ℤ word b) -ℤ word c) +ℤ word d)
    four_fit = code_fits w128 (search codes depth 20) tt

    four_is : word (word (word (word a -ℤ word b) -ℤ word c) +ℤ word d) ≡ a -ℤ b -ℤ c +ℤ d
    four_is = code_is (search codes depth 22) tt

-- the axes and the cells by their own names
record Read (c : After-at-far_second) : Type 0 where
  near_third : c.at-near_third.result ≡ value_at c.args.m.now (next_axis (next_axis c.args.axis)) (triple c.args.cell)
  far_third : c.at-far_third.result
      ≡ value_at c.args.m.now (next_axis (next_axis c.args.axis)) (down c.args.m.now.cells (next_axis c.args.axis) (triple c.args.cell))
  near_second : c.at-near_second.result ≡ value_at c.args.m.now (next_axis c.args.axis) (triple c.args.cell)
  far_second : c.at-far_second.result
      ≡ value_at c.args.m.now (next_axis c.args.axis) (down c.args.m.now.cells (next_axis (next_axis c.args.axis)) (triple c.args.cell))
  one : IsAtMost c.at-near_third.result (2 ^ 64)
  two : IsAtMost c.at-far_third.result (2 ^ 64)
  three : IsAtMost c.at-near_second.result (2 ^ 64)
  four : IsAtMost c.at-far_second.result (2 ^ 64)

read : (c : After-at-far_second) → Read c
read c =
    let m = c.args.m.now in
    let p = triple c.args.cell in
    let small = c.requires.small in
    let cells = c.cells-cells.ensures.value in
    let second = c.next-second.ensures in
    let third = c.next-third.ensures ∙ ap next_axis second in
    let at : (b : Axis) (q : Triple) (v : ℤ) → IsWithin q m.cells → v ≡ value_at m b q → IsAtMost v (2 ^ 64) =
    λ b q v w is. subst (λ (z : ℤ). IsAtMost z (2 ^ 64)) (sym is) (small.at_most b q w) in
    let inside : (q : Triple) → IsWithin q c.cells-cells.result.n → IsWithin q m.cells = λ q w. subst (λ (n : Triple). IsWithin q n) cells w in
    let below : triple c.down.result ≡ down m.cells (next_axis c.args.axis) p = c.down.ensures.value ∙ (λ i. down (cells i) (second i) p) in
    let last : triple c.down-2.result ≡ down m.cells (next_axis (next_axis c.args.axis)) p = c.down-2.ensures.value ∙ (λ i. down (cells i) (third i) p) in
    record {
      near_third = c.at-near_third.ensures ∙ ap (λ (b : Axis). value_at m b p) third;
      far_third = c.at-far_third.ensures ∙ (λ i. value_at m (third i) (below i));
      near_second = c.at-near_second.ensures ∙ ap (λ (b : Axis). value_at m b p) second;
      far_second = c.at-far_second.ensures ∙ (λ i. value_at m (second i) (last i));
      one = at _ p _ c.requires.within c.at-near_third.ensures;
      two = at _ (triple c.down.result) _ (inside _ c.down.ensures.within) c.at-far_third.ensures;
      three = at _ p _ c.requires.within c.at-near_second.ensures;
      four = at _ (triple c.down-2.result) _ (inside _ c.down-2.ensures.within) c.at-far_second.ensures;
    }

pub overflow_sub-result-2 : goal.overflow_sub-result-2
overflow_sub-result-2 c =
    let r = read (goal.at.overflow_sub-result-2 c).After-at-far_second in three_fit _ _ _ _ r.one r.two r.three r.four

pub overflow_add-result : goal.overflow_add-result
overflow_add-result c =
    let r = read (goal.at.overflow_add-result c).After-at-far_second in four_fit _ _ _ _ r.one r.two r.three r.four

pub returns : goal.returns
returns c =
    let r = read (goal.at.returns c).After-at-far_second in
    four_is _ _ _ _ r.one r.two r.three r.four ∙ (λ i. r.near_third i -ℤ r.far_third i -ℤ r.near_second i +ℤ r.far_second i)
