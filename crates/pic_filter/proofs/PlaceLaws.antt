-- Rows of a block in their order, and for which of them lines are kept.
use Rattle.std.proofs.Common.{◌≡◌, ℕ, ℤ, ◌+◌, ◌*◌, ◌<◌, ◌≤◌, List, inl, inr, refl, sym, ◌∙◌, ap, subst, arith}
use Rattle.std.proofs.lemmas.Bool.{cases_lt}
use Rattle.std.proofs.Math.Nat.{mod-eq_of_lt}
use Rattle.pic_num.specs.declared.axis.Axis.{Axis}
use Rattle.pic_num.specs.declared.axis.Axis.TheVariants.{Y, Z}
use Rattle.pic_num.specs.Space.{Triple, next_axis}
use Rattle.pic_block.specs.Cells.{IsWithin, count_of, place_of}
use Rattle.pic_block.proofs.BlockRowLaws.{rows_of}
use Rattle.pic_block.proofs.CellLaws.{place_of_same, place_of_below}
use Rattle.pic_block.proofs.PlaceLaws.{row_end, layer_end, axis_end}
use Rattle.pic_grid.specs.Differences.{up}
use Rattle.pic_filter.specs.declared.kept.Kept.{Kept}
use Rattle.pic_filter.specs.Kept.{HoldLines}
use Rattle.pic_filter.specs.Smoothing.{smoothed_along}

-- the cell where the row r of a zone begins whose lowest is low
abbrev pub row_begin : Triple → Triple → Triple
row_begin low r = record { x = low.x; y = low.y + r.y; z = low.z + r.z }

-- the last lines are kept for the row r of the number i, but where it is the first of a layer
pub record IsReady (n : Triple) (g : Axis → Triple → ℤ) (low size : Triple) (i : ℕ) (a : Axis) (r : Triple) (kept : List Kept) : Type 0 where
  pub held : i < 3 * count_of (rows_of size) → 0 < r.y → HoldLines n (smoothed_along Z n (g a)) (row_begin low r) kept

pub ready_first : (n : Triple) (g : Axis → Triple → ℤ) (low size : Triple) (a : Axis) (r : Triple) (kept : List Kept)
    → r ≡ record { x = 0; y = 0; z = 0 } → IsReady n g low size 0 a r kept
ready_first n g low size a r kept first = record { held = λ inside up_y. let none = ap (λ (t : Triple). t.y) first in absurd (omega (arith, none, up_y)) }

-- the row behind another is the next one up y, or the first of a layer
next_row : (n : Triple) (a : Axis) (r : Triple) (b : Axis) (q : Triple) → n.x ≡ 1 → IsWithin r n → IsWithin q n → place_of n b q ≡ place_of n a r + 1
    → 0 < q.y → (b ≡ a) × (q ≡ record { x = 0; y = r.y + 1; z = r.z })
next_row n a r b q one w v next up_y =
    let first = w.x in
    let in_y = w.y in
    let in_z = w.z in
    let x : r.x + 1 ≡ n.x = omega (arith, first, one) in
    elim (cases_lt (r.y + 1) n.y) [
      | inl inside ↦
          (let in_x : 0 < n.x = omega (arith, one) in
          place_of_same n b q a (record { x = 0; y = r.y + 1; z = r.z }) v (record { x = in_x; y = inside; z = w.z }) (next ∙ sym (row_end n a r x)))
      | inr past ↦
          (let y : r.y + 1 ≡ n.y = omega (arith, past, in_y) in
          let below = place_of_below n b q v in
          let in_x : 0 < n.x = omega (arith, one) in
          let low_y : 0 < n.y = omega (arith, in_y) in
          elim (cases_lt (r.z + 1) n.z) [
            | inl inside ↦
                (let both = place_of_same n b q a (record { x = 0; y = 0; z = r.z + 1 }) v (record { x = in_x; y = low_y; z = inside })
                (next ∙ sym (layer_end n a r x y)) in
                let none = ap (λ (t : Triple). t.y) both.1 in
                absurd (omega (arith, none, up_y)))
            | inr last ↦
                (let z : r.z + 1 ≡ n.z = omega (arith, last, in_z) in
                let low_z : 0 < n.z = omega (arith, in_z) in
                let both = place_of_same n b q (next_axis a) (record { x = 0; y = 0; z = 0 }) v (record { x = in_x; y = low_y; z = low_z })
                (next ∙ sym (axis_end n a r x y z (omega (arith, below, next)))) in
                let none = ap (λ (t : Triple). t.y) both.1 in
                absurd (omega (arith, none, up_y)))
          ])
    ]

-- a cell that isn't the last in y has the next one above it
up_is : (n p : Triple) → p.y + 1 < n.y → up n Y p ≡ record p { y = p.y + 1 }
up_is n p below = λ i. record { x = p.x; y = mod-eq_of_lt below i; z = p.z }

-- what is kept behind a row serves the next
pub ready_next : (n : Triple) (g : Axis → Triple → ℤ) (low size : Triple) (i : ℕ) (a : Axis) (r : Triple) (b : Axis) (q : Triple) (kept : List Kept)
    → low.y + size.y ≤ n.y → IsWithin r (rows_of size) → IsWithin q (rows_of size) → place_of (rows_of size) a r ≡ i
    → (place_of (rows_of size) a r + 1 < 3 * count_of (rows_of size) → place_of (rows_of size) b q ≡ place_of (rows_of size) a r + 1)
    → HoldLines n (smoothed_along Z n (g a)) (up n Y (row_begin low r)) kept → IsReady n g low size (i + 1) b q kept
ready_next n g low size i a r b q kept fits w v number follows held = record {
  held = λ inside up_y.
      let next = follows (omega (arith, inside, number)) in
      let both = next_row (rows_of size) a r b q refl w v next up_y in
      let at_y = ap (λ (t : Triple). t.y) both.1 in
      let in_y = v.y in
      let above : up n Y (row_begin low r) ≡ row_begin low (record { x = 0; y = r.y + 1; z = r.z }) =
      up_is n (row_begin low r) (omega (arith, fits, at_y, in_y)) ∙ (let sum : low.y + r.y + 1 ≡ low.y + (r.y + 1) = omega arith in
      λ j. record { x = low.x; y = sum j; z = low.z + r.z }) in
      let here : HoldLines n (smoothed_along Z n (g a)) (row_begin low q) kept =
      subst (λ (t : Triple). HoldLines n (smoothed_along Z n (g a)) t kept) (above ∙ sym (ap (row_begin low) both.1)) held in
      subst (λ (c : Axis). HoldLines n (smoothed_along Z n (g c)) (row_begin low q) kept) (sym both.0) here;
}
