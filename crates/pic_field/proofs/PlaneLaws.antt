-- Planes of rows: how they are filled line by line, and what a line reads of two of them.
use Rattle.std.proofs.Common.{◌≡◌, ◌≢◌, ℕ, ℤ, ◌+◌, ◌-◌, ◌%◌, ◌<◌, ◌≤◌, Bool, List, length, slice_set, unsigned_abs, sym, ◌∙◌, ap, subst, arith}
use Rattle.std.proofs.lemmas.List.{get_or-set_same, get_or-set_other}
use borrow.Author.Count.{below_more}
use Rattle.pic_num.specs.declared.axis.Axis.{Axis}
use Rattle.pic_num.specs.declared.axis.Axis.TheVariants.{Y, Z}
use Rattle.pic_num.specs.Space.{Triple, Spot}
use Rattle.pic_block.specs.Block.{IsAmongCells}
use Rattle.pic_field.specs.declared.plane.Line.{Line}
use Rattle.pic_field.specs.declared.plane.Span.{Span}
use Rattle.pic_field.specs.Beside.{layer_beside, next_to, first_index, room_layer, row_room, plane_room, swept_layer}
use Rattle.pic_field.specs.Lines.{line_start}
use Rattle.pic_field.specs.Planes.{no_line, line_at, along_y, span_of, IsOwnLine, IsSideLine, IsNextLine, IsScaledPlane, IsNextPlane, AreLineRows}
use Rattle.pic_field.proofs.BesideLaws.{own_layer, side_layer, layer_before}
use Rattle.pic_field.proofs.RowLaws.{row_part}

-- a fact of the lines of a plane below j holds of one more
pub line_more : (P : ℕ → Line → Type 0) (plane : List Line) (j : ℕ) (line : Line) → j < length plane → ((k : ℕ) → k < j → P k (line_at plane k)) → P j line
    → (k : ℕ) → k < j + 1 → P k (line_at (slice_set plane j line) k)
line_more P plane j line inside below here =
    below_more (λ k. P k (line_at (slice_set plane j line) k)) j
    (λ k h. let other : k ≢ j = omega arith in subst (P k) (sym (get_or-set_other plane j k line no_line other)) (below k h))
    (subst (P j) (sym (get_or-set_same plane j line no_line inside)) here)

-- what is read along a line has what is read of it beside another in z
own_next : (n : Triple) (g : Axis → Triple → ℤ) (p : Triple) (s : Span) (line : Line) → s.first ≤ 1 → IsOwnLine n g p s line → IsNextLine n g p s line
own_next n g p s line first own = record { x = own.x; y = row_part n g Y p s.cells s.first (s.first + s.cells) line.y (omega (arith, first)) own.y }

-- a strip's plane serves the layer beside it
pub plane_next : (n : Triple) (g : Axis → Triple → ℤ) (p : Triple) (s : Span) (lines : ℕ) (plane : List Line) → s.first ≤ 1 → IsScaledPlane n g p s lines plane
    → IsNextPlane n g p s lines plane
plane_next n g p s lines plane first is = record {
  next = λ j past below. own_next n g (along_y n p j) s (line_at plane j) first (is.own j past below);
}

-- the rows that a curl has along a line of a strip stand in the planes of its layer and the one beside it
pub line_rows : (d : Bool) (n : Triple) (g : Axis → Triple → ℤ) (low : Spot) (size : Triple) (count from to y z : ℕ) (near far : List Line)
    → IsAmongCells low size n → from ≤ y → y < to → to ≤ size.y
    → IsScaledPlane n g (plane_room d n (line_start low from z)) (span_of d count) (to - from) near
    → IsNextPlane n g (next_to d n Z (plane_room d n (line_start low from z))) (span_of d count) (to - from) far
    → AreLineRows d n g (line_start low y z) count (line_at near (first_index d + (y - from))) (line_at near (1 - first_index d + (y - from)))
    (line_at far (first_index d + (y - from)))
line_rows d n g low size count from to y z near far among past below within here there =
    let j : ℕ = y - from in
    let s : Span = span_of d count in
    let start : ℕ = unsigned_abs low.y + from in
    let line : Triple = line_start low y z in
    let sum : start + j ≡ line.y = omega arith in
    let inside : start + j < n.y = omega (arith, among.y_high) in
    let on : first_index d ≤ first_index d + j = omega arith in
    let in_strip : first_index d + j < first_index d + (to - from) = omega arith in
    let beside_in_strip : 1 - first_index d + j < to - from + 1 = omega arith in
    let own_y : (room_layer d n.y start + (first_index d + j)) % n.y ≡ line.y = own_layer d n.y start j inside ∙ sum in
    let side_y : (room_layer d n.y start + (1 - first_index d + j)) % n.y ≡ layer_beside d n.y line.y =
    side_layer d n.y start j ∙ ap (layer_beside d n.y) sum in
    let first : Triple = plane_room d n (line_start low from z) in
    let own : along_y n first (first_index d + j) ≡ row_room d n line = λ i. record (row_room d n line) { y = own_y i } in
    let side : along_y n first (1 - first_index d + j) ≡ row_room d n (next_to d n Y line) = λ i. record (row_room d n line) { y = side_y i } in
    let next : along_y n (next_to d n Z first) (first_index d + j) ≡ row_room d n (next_to d n Z line) =
    λ i. record (row_room d n (next_to d n Z line)) { y = own_y i } in
    record {
      here = subst (λ (p : Triple). IsOwnLine n g p s (line_at near (first_index d + j))) own (here.own (first_index d + j) on in_strip);
      in_y = subst (λ (p : Triple). IsSideLine n g p s (line_at near (1 - first_index d + j))) side (here.side (1 - first_index d + j) beside_in_strip);
      in_z = subst (λ (p : Triple). IsNextLine n g p s (line_at far (first_index d + j))) next (there.next (first_index d + j) on in_strip);
    }

-- the plane of a layer is that beside the layer to which a sweep comes next
pub plane_before : (d : Bool) (n : Triple) (g : Axis → Triple → ℤ) (low : Spot) (size : Triple) (s : Span) (lines from k : ℕ) (plane : List Line)
    → s.first ≤ 1 → IsAmongCells low size n → k + 1 < size.z
    → IsScaledPlane n g (plane_room d n (line_start low from (swept_layer d size.z k))) s lines plane
    → IsNextPlane n g (next_to d n Z (plane_room d n (line_start low from (swept_layer d size.z (k + 1))))) s lines plane
plane_before d n g low size s lines from k plane first among below is =
    let before : layer_beside d n.z (unsigned_abs low.z + swept_layer d size.z (k + 1)) ≡ unsigned_abs low.z + swept_layer d size.z k =
    layer_before d n.z (unsigned_abs low.z) size.z k among.z_high below in
    let at : plane_room d n (line_start low from (swept_layer d size.z k))
    ≡ next_to d n Z (plane_room d n (line_start low from (swept_layer d size.z (k + 1)))) =
    sym (λ i. record (plane_room d n (line_start low from (swept_layer d size.z k))) { z = before i }) in
    plane_next n g (next_to d n Z (plane_room d n (line_start low from (swept_layer d size.z (k + 1))))) s lines plane first
    (subst (λ (p : Triple). IsScaledPlane n g p s lines plane) at is)
