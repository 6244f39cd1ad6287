use Rattle.std.proofs.Common.{◌≡◌, ◌+◌, ◌%◌, ◌<◌, ◌≤◌, ℕ, slice_index, refl, sym, ◌∙◌, ap, subst, arith}
use Rattle.std.proofs.Math.Nat.{mod-eq_of_lt}
use Rattle.std.proofs.lemmas.List.{length-set}
use Rattle.pic_num.specs.Space.{Triple, triple}
use Rattle.pic_field.specs.Rows.{read_by}
use Rattle.pic_field.specs.Planes.{along_y, IsOwnLine, IsSideLine}
use Rattle.pic_field.proofs.RowLaws.{round_on}
use Rattle.pic_field.proofs.PlaneLaws.{line_more}
use Rattle.pic_field.proofs.plane.fill_plane.Goals as goal

pub loop-j-init : goal.loop-j-init
loop-j-init c =
    let within = c.requires.within in
    let y = slice_index c.args.at 1 in
    let same : y ≡ y + 0 = omega arith in
    record {
      at = sym (mod-eq_of_lt within.y) ∙ ap (λ (m : ℕ). m % c.args.from.now.field.now.cells.y) same;
      room = refl;
      below = within.y;
      own = λ k below. absurd (omega (arith, below));
      side = λ k below. absurd (omega (arith, below));
    }

pub is_own-own-requires : goal.is_own-own-requires
is_own-own-requires c = record { first = c.requires.span.first; lines = c.requires.lines }

pub scale_line-requires : goal.scale_line-requires
scale_line-requires c = record {
  start = record { x = c.requires.within.x; y = c.slot_y.ensures.slot; z = c.slot_z-z.ensures.slot };
  span = c.requires.span;
  edge = c.requires.edge;
  small = c.requires.small;
}

pub after_run-y-requires : goal.after_run-y-requires
after_run-y-requires c =
    let limit = c.numbers.ensures.limits.y_most in
    let number = ap (λ (n : Triple). n.y) c.numbers.ensures.value in
    let cells = ap (λ (n : Triple). n.y) c.cells.ensures.value in
    let below = c.loop-j.invariant.below in
    record { count = omega (arith, limit, number); x = omega (arith, number, cells, below); run = omega (arith, number, cells, below) }

pub returns : goal.returns
returns c = record {
  own = λ k past below. c.loop-j.invariant.own k (omega (arith, c.loop-j-test.false, c.requires.span.first, below)) past below;
  side = λ k below. c.loop-j.invariant.side k (omega (arith, c.loop-j-test.false, below));
}

pub loop-j-preserved : goal.loop-j-preserved
loop-j-preserved c =
    let f = c.args.from.now.field.now in
    let by = c.args.from.now.by in
    let j = c.loop-j.j in
    let first : Triple = triple c.args.at in
    let s = c.args.span in
    let lines = c.args.lines in
    let numbers : triple c.numbers.result ≡ f.cells = c.numbers.ensures.value ∙ c.cells.ensures.value in
    let cells : slice_index c.numbers.result 1 ≡ f.cells.y = ap (λ (n : Triple). n.y) numbers in
    let line = c.scale_line.new.to in
    let at : record { x = first.x; y = c.slot_y.result.index; z = c.slot_z-z.result.index } ≡ along_y f.cells first j =
    λ i. record { x = first.x; y = (c.slot_y.ensures.index ∙ c.loop-j.invariant.at) i; z = c.slot_z-z.ensures.index i } in
    let own : s.first ≤ j → j < s.first + lines → IsOwnLine f.cells (read_by c.args.from.now) (along_y f.cells first j) s line =
    λ past below. subst (λ (p : Triple). IsOwnLine f.cells (read_by c.args.from.now) p s line) at
    (c.scale_line.ensures.own (c.is_own-own.ensures past below)) in
    record {
      at = c.after_run-y.ensures.value
          ∙ ap (λ (m : ℕ). (c.loop-j.y + 1) % m) cells
          ∙ round_on f.cells.y first.y j c.loop-j.y 1 c.loop-j.invariant.at;
      room = length-set c.loop-j.to j _ ∙ c.loop-j.invariant.room;
      below = subst (λ (m : ℕ). c.after_run-y.result < m) cells c.after_run-y.ensures.below;
      own = line_more (λ k l. s.first ≤ k → k < s.first + lines → IsOwnLine f.cells (read_by c.args.from.now) (along_y f.cells first k) s l) c.loop-j.to j line
          (omega (arith, c.told-to)) c.loop-j.invariant.own own;
      side = line_more (λ k l. IsSideLine f.cells (read_by c.args.from.now) (along_y f.cells first k) s l) c.loop-j.to j line
          (omega (arith, c.told-to)) c.loop-j.invariant.side
          (subst (λ (p : Triple). IsSideLine f.cells (read_by c.args.from.now) p s line) at c.scale_line.ensures.side);
    }
