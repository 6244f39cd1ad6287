use Rattle.std.proofs.Common.{◌≡◌, ℕ, ℤ, pos, ◌+◌, ◌*◌, ◌<◌, ◌≤◌, List, [], ◌∷◌, ◌++◌, length, take, drop, slice_index_or, slice_set}
use Rattle.std.proofs.Common.{sym, ◌∙◌, ap, subst, arith, rules, to_z, of_z, length-append, append_assoc, add-one}
use Rattle.std.proofs.lemmas.Int.{to_z-of_z}
use Rattle.std.proofs.lemmas.List.{length-take-le, take_more}
use Rattle.std.proofs.Math.Seq.{drop-cons, set-append_seam}
use mir.Syntax.{w128}
use mir.Val.{SFits}
use Rattle.pic_num.specs.Space.{triple}
use Rattle.pic_block.specs.Cells.{count_of, place_of}
use Rattle.pic_block.specs.Block.{overwritten}
use Rattle.pic_block.proofs.PlaceLaws.{IsPlace, next_place}
use Rattle.pic_grid.specs.Lattice.{with_value}
use Rattle.pic_grid.proofs.setting.set_each.Goals as goal

-- one element more
overwritten_more : (xs vs : List ℤ) (first i : ℕ) → i < length vs → first + length vs ≤ length xs
    → slice_set (overwritten first (take i vs) xs) (first + i) (slice_index_or vs i (pos 0)) ≡ overwritten first (take (i + 1) vs) xs
overwritten_more xs vs first i below room =
    let v = slice_index_or vs i (pos 0) in
    let front = take first xs ++ take i vs in
    let m = first + i in
    let short : length (take i vs) ≡ i = length-take-le i vs (omega (arith, below)) in
    let more : length (take (i + 1) vs) ≡ i + 1 = length-take-le (i + 1) vs (omega (arith, below)) in
    let long : length front ≡ m = length-append (take first xs) (take i vs) ∙ omega (arith, length-take-le first xs (omega (arith, room)), short) in
    let inside : m < length xs = omega (arith, below, room) in
    let behind : m + 1 ≡ first + (i + 1) = omega arith in
    let split : overwritten first (take i vs) xs ≡ front ++ slice_index_or xs m (pos 0) ∷ drop (m + 1) xs =
    ap (λ n. take first xs ++ (take i vs ++ drop (first + n) xs)) short
    ∙ sym (append_assoc (take first xs) (take i vs) (drop m xs))
    ∙ ap (λ ys. front ++ ys) (drop-cons xs m (pos 0) inside)
    ∙ ap (λ n. front ++ slice_index_or xs m (pos 0) ∷ drop n xs) (sym (add-one m)) in
    let joined : overwritten first (take (i + 1) vs) xs ≡ front ++ v ∷ drop (m + 1) xs =
    ap (λ n. take first xs ++ (take (i + 1) vs ++ drop (first + n) xs)) more
    ∙ ap (λ ys. take first xs ++ (ys ++ drop (first + (i + 1)) xs)) (take_more vs i (pos 0) below)
    ∙ ap (λ ys. take first xs ++ ys) (append_assoc (take i vs) (v ∷ []) (drop (first + (i + 1)) xs))
    ∙ sym (append_assoc (take first xs) (take i vs) (v ∷ drop (first + (i + 1)) xs))
    ∙ ap (λ n. front ++ v ∷ drop n xs) (sym behind) in
    ap (λ ys. slice_set ys m v) split
    ∙ ap (λ n. slice_set (front ++ slice_index_or xs m (pos 0) ∷ drop (m + 1) xs) n v) (sym long)
    ∙ set-append_seam front (slice_index_or xs m (pos 0)) (drop (m + 1) xs) v
    ∙ sym joined

pub loop-i-preserved : goal.loop-i-preserved
loop-i-preserved c =
    let so_far = c.loop-i.invariant in
    let f = c.args.lattice.now in
    let i = c.loop-i.i in
    let first = c.args.first in
    let m = first + i in
    let vs = c.args.values.now in
    let v = slice_index_or vs i (pos 0) in
    let n = f.cells in
    let axis = c.loop-i.at.axis in
    let cell = triple c.loop-i.at.inner in
    let inside : m < 3 * count_of n = omega (arith, c.loop-i-test.true, c.requires.room) in
    let size = c.numbers-size.ensures.value ∙ c.cells-cells.ensures.value in
    let after = c.following-at.ensures in
    let next : m + 1 ≡ first + (i + 1) = omega arith in
    let fits : SFits w128 v = search rules in
    let is : to_z w128 (of_z w128 v) ≡ v = to_z-of_z w128 v fits in
    let at : place_of n axis cell ≡ m = so_far.place.number inside in
    let more : slice_set (overwritten first (take i vs) f.values) m v ≡ overwritten first (take (i + 1) vs) f.values =
    overwritten_more f.values vs first i c.loop-i-test.true (omega (arith, c.requires.room, c.cells-cells.ensures.shape)) in
    record {
      set = c.set.ensures.after
          ∙ (λ t. with_value (so_far.set t) axis cell (is t))
          ∙ (λ t. record f { values = slice_set (overwritten first (take i vs) f.values) (at t) v })
          ∙ (λ t. record f { values = more t });
      place = subst (λ k. IsPlace n k c.following-at.result.axis (triple c.following-at.result.inner)) next
          (subst (λ s. IsPlace s (m + 1) c.following-at.result.axis (triple c.following-at.result.inner)) size
          (next_place (triple c.numbers-size.result) m axis cell _ _ (subst (λ s. IsPlace s m axis cell) (sym size) so_far.place)
          (subst (λ s. m < 3 * count_of s) (sym size) inside) after.within after.number));
    }
