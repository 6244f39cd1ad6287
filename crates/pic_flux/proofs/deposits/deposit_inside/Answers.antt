use Rattle.std.proofs.Common.{◌≡◌, ℕ, ◌^◌, ◌+◌, ◌*◌, ◌≤◌, ℤ, unsigned_abs, ap, subst, ◌∙◌, arith}
use mir.Syntax.{w32}
use mir.Val.{SFits}
use Rattle.pic_num.specs.declared.axis.Axis.{Axis}
use Rattle.pic_num.specs.declared.axis.Axis.TheVariants.{X, Y, Z}
use Rattle.pic_block.specs.Block.{BlockValues, IsShaped, AllAtMost}
use Rattle.pic_block.proofs.BlockLaws.{all_at_most_more}
use Rattle.pic_block.specs.Fours.{base_cell}
use Rattle.pic_block.specs.declared.base.Base.{Base}
use Rattle.pic_grid.specs.Flux.{flux}
use Rattle.pic_grid.specs.Segment.{Piece, IsInCell}
use Rattle.pic_flux.specs.Adds.{Adds}
use Rattle.pic_flux.specs.CellFlux.{at_four}
use Rattle.pic_flux.specs.Corners.{on_axis}
use Rattle.pic_flux.specs.Spans.{AreSpans, four_by}
use Rattle.pic_flux.specs.declared.spans.Spans.{Spans}
use Rattle.pic_flux.proofs.SpanLaws.{four_is}
use Rattle.pic_flux.proofs.AddsLaws.{adds_grow, adds_same}
use Rattle.pic_flux.proofs.FluxSizeLaws.{on_axis_most, charge_passed, charge_few}
use Rattle.pic_flux.proofs.CornerLaws.{three_added}
use Rattle.pic_flux.proofs.deposits.deposit_inside.Goals as goal
use Rattle.pic_flux.proofs.deposits.deposit_inside.Goals.{After-deposit_axis, After-deposit_axis-2}

-- what a deposit along one axis adds, by the charge that was given, and how far values may grow by it
record Along (side : ℕ) (old now : BlockValues) (q : ℤ) (s : Piece) (axis : Axis) : Type 0 where
  shape : IsShaped old now
  added : Adds old now (on_axis axis (flux side q s axis))
  grown : (n : ℕ) → AllAtMost n old → AllAtMost (n + 2 ^ 77) now

along : (side : ℕ) (old now : BlockValues) (q r : ℤ) (s : Piece) (p : Spans) (at : Base) (axis : Axis) → side ≤ 2 ^ 14 → SFits w32 q → r ≡ q
    → base_cell at ≡ s.cell → IsInCell side s → AreSpans side s p → IsShaped old now → Adds old now (at_four axis (base_cell at) (four_by p r axis))
    → Along side old now q s axis
along side old now q r s p at axis few fits e cell inside spans shape h =
    let there : Adds old now (at_four axis s.cell (four_by p q axis)) =
    subst (Adds old now) (λ i. at_four axis (cell i) (four_by p (e i) axis)) h in
    let added = adds_same old now (at_four axis s.cell (four_by p q axis)) (on_axis axis (flux side q s axis)) (four_is side q s p axis spans inside) there in
    record {
      shape = shape;
      added = added;
      grown = λ n room.
          let grow = adds_grow old now (on_axis axis (flux side q s axis)) n (unsigned_abs q * side * (12 * (side * side))) shape added
          (on_axis_most side q s axis inside) room in
          all_at_most_more now (n + unsigned_abs q * side * (12 * (side * side))) (n + 2 ^ 77) (omega (arith, charge_few side q few fits)) grow;
    }

-- the cell that the base tells of
cell_is : (c : After-deposit_axis) → base_cell c.base-at.result ≡ c.args.seg.now.cell
cell_is c = c.base-at.ensures.cell ∙ ap (λ (t : Piece). t.cell) c.seg.view_is

cell_is_2 : (c : After-deposit_axis-2) → base_cell c.base-at.result ≡ c.args.seg.now.cell
cell_is_2 c = c.base-at.ensures.cell ∙ ap (λ (t : Piece). t.cell) c.seg.view_is

along_x : (c : After-deposit_axis) → Along c.args.sub c.args.to.now c.deposit_axis.new.to c.args.q c.args.seg.now X
along_x c =
    along c.args.sub _ _ c.args.q _ c.args.seg.now c.of-spans.result c.base-at.result X c.side-side.ensures.most c.ranges.q
    (charge_passed c.args.q c.from-charge.result c.ranges.q c.from-charge.ensures) (cell_is c) c.requires.inside c.of-spans.ensures.spans
    c.deposit_axis.ensures.shape c.deposit_axis.ensures.values

along_y : (c : After-deposit_axis-2) → Along c.args.sub c.deposit_axis.new.to c.deposit_axis-2.new.to c.args.q c.args.seg.now Y
along_y c =
    along c.args.sub _ _ c.args.q _ c.args.seg.now c.of-spans.result c.base-at.result Y c.side-side.ensures.most c.ranges.q
    (charge_passed c.args.q c.from-charge.result c.ranges.q c.from-charge.ensures) (cell_is_2 c) c.requires.inside c.of-spans.ensures.spans
    c.deposit_axis-2.ensures.shape c.deposit_axis-2.ensures.values

pub deposit_axis-requires-clause-room : goal.deposit_axis-requires-clause-room
deposit_axis-requires-clause-room c = all_at_most_more c.args.to.now (2 ^ 100) (2 ^ 110) (omega arith) c.requires.room

pub deposit_axis-requires-2-clause-room : goal.deposit_axis-requires-2-clause-room
deposit_axis-requires-2-clause-room c =
    all_at_most_more c.deposit_axis.new.to (2 ^ 100 + 2 ^ 77) (2 ^ 110) (omega arith)
    ((along_x (goal.at.deposit_axis-requires-2-clause-room c).After-deposit_axis).grown (2 ^ 100) c.requires.room)

pub deposit_axis-requires-3-clause-room : goal.deposit_axis-requires-3-clause-room
deposit_axis-requires-3-clause-room c =
    let x = (along_x (goal.at.deposit_axis-requires-3-clause-room c).After-deposit_axis).grown (2 ^ 100) c.requires.room in
    all_at_most_more c.deposit_axis-2.new.to (2 ^ 100 + 2 ^ 77 + 2 ^ 77) (2 ^ 110) (omega arith)
    ((along_y (goal.at.deposit_axis-requires-3-clause-room c).After-deposit_axis-2).grown (2 ^ 100 + 2 ^ 77) x)

pub returns-clause-values : goal.returns-clause-values
returns-clause-values c =
    let old = c.args.to.now in
    let x = c.deposit_axis.new.to in
    let y = c.deposit_axis-2.new.to in
    let now = c.deposit_axis-3.new.to in
    let s = c.args.seg.now in
    let q = c.args.q in
    let side = c.args.sub in
    let on_x = along_x (goal.at.returns-clause-values c).After-deposit_axis in
    let on_y = along_y (goal.at.returns-clause-values c).After-deposit_axis-2 in
    let on_z = along side y now q _ s c.of-spans.result c.base-at.result Z c.side-side.ensures.most c.ranges.q
    (charge_passed q c.from-charge.result c.ranges.q c.from-charge.ensures) (c.base-at.ensures.cell ∙ ap (λ (t : Piece). t.cell) c.seg.view_is)
    c.requires.inside c.of-spans.ensures.spans c.deposit_axis-3.ensures.shape c.deposit_axis-3.ensures.values in
    three_added (flux side q s) old x y now on_x.shape on_y.shape on_x.added on_y.added on_z.added
