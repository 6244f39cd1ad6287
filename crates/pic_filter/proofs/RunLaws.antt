-- What three runs of a lattice make.
use Rattle.std.proofs.Common.{◌≡◌, ℕ, ℤ, pos, ◌+◌, ◌<◌, ◌≤◌, List, length, slice_index_or, inl, inr, sym, ◌∙◌, ap, subst, arith}
use Rattle.std.proofs.lemmas.Bool.{cases_lt}
use Rattle.std.proofs.lemmas.List.{get_or_past}
use Rattle.pic_num.specs.declared.axis.Axis.{Axis}
use Rattle.pic_num.specs.declared.axis.Axis.TheVariants.{Z}
use Rattle.pic_num.specs.Sizes.{IsAtMost}
use Rattle.pic_num.specs.Space.{Triple}
use Rattle.pic_block.specs.BlockLayers.{NumbersAtMost}
use Rattle.pic_block.specs.Cells.{IsWithin}
use Rattle.pic_grid.specs.Differences.{up, down}
use Rattle.pic_grid.specs.Lattice.{Field, EachAtMost, value_at}
use Rattle.pic_filter.specs.declared.runs.Slots.{Slots}
use Rattle.pic_filter.specs.declared.runs.Three.{Three}
use Rattle.pic_filter.specs.Runs.{number_at, most_of_three, three_at, AreRound, IsRun, AreThree, HoldThree}
use Rattle.pic_filter.specs.Smoothing.{weighted, most_to_smooth, smoothed_along}
use Rattle.pic_filter.proofs.SizeLaws.{up_within, down_within, weighted_small}

-- runs that have so many numbers have the first of them
pub hold_first : (most count i : ℕ) (t : Three) → i < count → HoldThree most count t → HoldThree most (i + 1) t
hold_first most count i t below h =
    let last = h.last_long in
    let own = h.own_long in
    let next = h.next_long in
    record {
      last_long = omega (arith, below, last);
      own_long = omega (arith, below, own);
      next_long = omega (arith, below, next);
      last_small = h.last_small;
      own_small = h.own_small;
      next_small = h.next_small;
    }

-- what they make is at most four times as large
pub three_small : (count i : ℕ) (t : Three) → HoldThree most_to_smooth count t → IsAtMost (three_at t i) most_of_three
three_small count i t h =
    weighted_small most_to_smooth (number_at t.last.now i) (number_at t.own.now i) (number_at t.next.now i) (h.last_small.at_most i) (h.own_small.at_most i)
    (h.next_small.at_most i)

-- the numbers of a run are as small as the lattice's
run_small : (f : Field) (a : Axis) (most : ℕ) (p : Triple) (run : List ℤ) → EachAtMost most f → p.y < f.cells.y → p.z < f.cells.z → IsRun f a p run
    → NumbersAtMost most run
run_small f a most p run small y z is = record {
  at_most = λ k. elim (cases_lt k (length run)) as (λ _. IsAtMost (slice_index_or run k (pos 0)) most) [
    | inl inside ↦
        (let end = is.inside in
        let x : p.x + k < f.cells.x = omega (arith, inside, end) in
        subst (λ (v : ℤ). IsAtMost v most) (sym (is.values k inside)) (small.at_most a (record p { x = p.x + k }) (record { x = x; y = y; z = z })))
    | inr past ↦ subst (λ (v : ℤ). IsAtMost v most) (sym (get_or_past run k (pos 0) past)) (record { size = omega arith })
  ];
}

module _ (f : Field) (a : Axis) (most x count : ℕ) (p : Triple) (small : EachAtMost most f) (within : IsWithin p f.cells) (z : Slots)
    (round : AreRound f.cells p z) (t : Three) (are : AreThree f a x p.y z t) (enough : count ≤ length t.own.now)
  where
    -- three runs are equally long,
    pub three_hold : HoldThree most count t
    three_hold =
        let last = are.last.end in
        let own = are.own.end in
        let next = are.next.end in
        record {
          last_long = omega (arith, last, own, enough);
          own_long = enough;
          next_long = omega (arith, next, own, enough);
          last_small = run_small f a most (record { x = x; y = p.y; z = z.last.index }) t.last.now small within.y
              (subst (λ (k : ℕ). k < f.cells.z) (sym round.last) (down_within f.cells Z p within).z) are.last;
          own_small = run_small f a most (record { x = x; y = p.y; z = z.own.index }) t.own.now small within.y
              (subst (λ (k : ℕ). k < f.cells.z) (sym round.own) within.z) are.own;
          next_small = run_small f a most (record { x = x; y = p.y; z = z.next.index }) t.next.now small within.y
              (subst (λ (k : ℕ). k < f.cells.z) (sym round.next) (up_within f.cells Z p within).z) are.next;
        }

    -- and what they make is filtered along z
    pub three_is : (i : ℕ) → i < count → three_at t i ≡ smoothed_along Z f.cells (value_at f a) (record p { x = x + i })
    unfolding smoothed_along
    three_is i below =
        let hold = three_hold in
        let at : ℕ → ℤ = λ k. value_at f a (record { x = x + i; y = p.y; z = k }) in
        let last : number_at t.last.now i ≡ at (down f.cells Z p).z =
        are.last.values i (let h = hold.last_long in omega (arith, below, h)) ∙ ap at round.last in
        let own : number_at t.own.now i ≡ at p.z = are.own.values i (let h = hold.own_long in omega (arith, below, h)) ∙ ap at round.own in
        let next : number_at t.next.now i ≡ at (up f.cells Z p).z =
        are.next.values i (let h = hold.next_long in omega (arith, below, h)) ∙ ap at round.next in
        λ j. weighted (last j) (own j) (next j)
