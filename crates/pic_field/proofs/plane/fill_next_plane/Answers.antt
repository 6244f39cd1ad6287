use Rattle.std.proofs.Common.{◌≡◌, ◌+◌, ◌%◌, ◌<◌, ◌≤◌, ℕ, slice_index, refl, ◌∙◌, ap, subst, arith}
use Rattle.std.proofs.lemmas.List.{length-set}
use Rattle.pic_num.specs.Space.{Triple, triple}
use Rattle.pic_field.specs.Rows.{read_by}
use Rattle.pic_field.specs.Planes.{along_y, IsNextLine}
use Rattle.pic_field.proofs.RowLaws.{round_on}
use Rattle.pic_field.proofs.PlaneLaws.{line_more}
use Rattle.pic_field.proofs.plane.fill_next_plane.Goals as goal

pub loop-j-init : goal.loop-j-init
loop-j-init c =
    let f = c.args.from.now.field.now in
    let first : Triple = triple c.args.at in
    let s = c.args.span in
    let numbers : triple c.numbers.result ≡ f.cells = c.numbers.ensures.value ∙ c.cells.ensures.value in
    let cells : slice_index c.numbers.result 1 ≡ f.cells.y = ap (λ (n : Triple). n.y) numbers in
    record {
      at = c.after_run-y.ensures.value ∙ ap (λ (m : ℕ). (first.y + s.first) % m) cells;
      room = refl;
      below = subst (λ (m : ℕ). c.after_run-y.result < m) cells c.after_run-y.ensures.below;
      next = λ k below past. absurd (omega (arith, below, past));
    }

pub after_run-y-requires : goal.after_run-y-requires
after_run-y-requires c =
    let limit = c.numbers.ensures.limits.y_most in
    let number = ap (λ (n : Triple). n.y) c.numbers.ensures.value in
    let cells = ap (λ (n : Triple). n.y) c.cells.ensures.value in
    let below = c.requires.within.y in
    let first = c.requires.span.first in
    record { count = omega (arith, limit, number); x = omega (arith, number, cells, below); run = omega (arith, number, cells, below, first) }

pub scale_next-requires : goal.scale_next-requires
scale_next-requires c = record {
  start = record { x = c.requires.within.x; y = c.slot_y.ensures.slot; z = c.slot_z-z.ensures.slot };
  span = c.requires.span;
  small = c.requires.small;
}

pub after_run-y-requires-in-loop-j : goal.after_run-y-requires-in-loop-j
after_run-y-requires-in-loop-j c =
    let limit = c.numbers.ensures.limits.y_most in
    let number = ap (λ (n : Triple). n.y) c.numbers.ensures.value in
    let cells = ap (λ (n : Triple). n.y) c.cells.ensures.value in
    let below = c.loop-j.invariant.below in
    record { count = omega (arith, limit, number); x = omega (arith, number, cells, below); run = omega (arith, number, cells, below) }

pub loop-j-preserved : goal.loop-j-preserved
loop-j-preserved c =
    let f = c.args.from.now.field.now in
    let by = c.args.from.now.by in
    let j = c.loop-j.j in
    let first : Triple = triple c.args.at in
    let s = c.args.span in
    let numbers : triple c.numbers.result ≡ f.cells = c.numbers.ensures.value ∙ c.cells.ensures.value in
    let cells : slice_index c.numbers.result 1 ≡ f.cells.y = ap (λ (n : Triple). n.y) numbers in
    let line = c.scale_next.new.to in
    let at : record { x = first.x; y = c.slot_y.result.index; z = c.slot_z-z.result.index } ≡ along_y f.cells first j =
    λ i. record { x = first.x; y = (c.slot_y.ensures.index ∙ c.loop-j.invariant.at) i; z = c.slot_z-z.ensures.index i } in
    record {
      at = c.after_run-y-in-loop-j.ensures.value
          ∙ ap (λ (m : ℕ). (c.loop-j.y + 1) % m) cells
          ∙ round_on f.cells.y first.y j c.loop-j.y 1 c.loop-j.invariant.at;
      room = length-set c.loop-j.to j _ ∙ c.loop-j.invariant.room;
      below = subst (λ (m : ℕ). c.after_run-y-in-loop-j.result < m) cells c.after_run-y-in-loop-j.ensures.below;
      next = line_more (λ k l. s.first ≤ k → IsNextLine f.cells (read_by c.args.from.now) (along_y f.cells first k) s l) c.loop-j.to j line
          (omega (arith, c.told-to)) c.loop-j.invariant.next
          (λ past. subst (λ (p : Triple). IsNextLine f.cells (read_by c.args.from.now) p s line) at c.scale_next.ensures);
    }
