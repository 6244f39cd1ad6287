use Rattle.std.proofs.Common.{◌+◌, ◌-◌, ℕ, sym, subst, arith}
use Rattle.pic_num.specs.Space.{Triple, Spot}
use Rattle.pic_field.specs.Lines.{OnLine, OnLines, Changed}
use Rattle.pic_field.specs.Planes.{line_at}
use Rattle.pic_field.specs.Rows.{read_by}
use Rattle.pic_field.specs.Sweeps.{sweep_cells, made, AreRowsOf}
use Rattle.pic_field.proofs.LineLaws.{changed_next, calm_next, strip_more}
use Rattle.pic_field.proofs.PlaneLaws.{line_rows}
use Rattle.pic_field.proofs.sweep.sweep_lines.Goals as goal

pub sweep_line-found-requires-clause-rows : goal.sweep_line-found-requires-clause-rows
sweep_line-found-requires-clause-rows c =
    let step = c.args.step.now in
    let from = c.args.strip.from in
    let y = c.loop-y.y in
    let z = c.args.z in
    let j : ℕ = y - from in
    let old = c.args.b.now in
    let near = c.args.near.now in
    let far = c.args.far.now in
    let first = c.first_of-first.result in
    let shaped = c.loop-y.invariant.changed.shaped in
    subst (λ (l : Spot). AreRowsOf step l y z c.loop-y.b.size.x (line_at near (first + j)) (line_at near (1 - first + j)) (line_at far (first + j)))
    (sym shaped.low)
    (subst (λ (n : Triple). AreRowsOf step old.low y z n.x (line_at near (first + j)) (line_at near (1 - first + j)) (line_at far (first + j)))
    (sym shaped.size)
    (subst (λ (k : ℕ). AreRowsOf step old.low y z old.size.x (line_at near (k + j)) (line_at near (1 - k + j)) (line_at far (k + j)))
    (sym c.first_of-first.ensures.value)
    (line_rows step.up (sweep_cells step) (read_by step.from) old.low old.size old.size.x from c.args.strip.to y z near far c.requires.among (omega arith)
    (omega arith) c.requires.strip.within c.requires.near c.requires.far)))

pub loop-y-preserved : goal.loop-y-preserved
loop-y-preserved c =
    let y = c.loop-y.y in
    let z = c.args.z in
    let from = c.args.strip.from in
    let old = c.args.b.now in
    let mid = c.loop-y.b in
    let new = c.sweep_line-found.new.b in
    let before = c.loop-y.invariant.changed in
    let then = subst (λ (l : Spot). Changed (made c.args.step.now l) (OnLine y z) mid new) before.shaped.low c.sweep_line-found.ensures.changed in
    record {
      changed = changed_next _ (OnLines from y z) (OnLine y z) (OnLines from (y + 1) z) old mid new before then (strip_more old.size from y z (omega arith));
      calm = calm_next (made c.args.step.now old.low) (OnLines from y z) (OnLine y z) (OnLines from (y + 1) z) mid mid new c.args.step.now.most
          c.loop-y.calm c.sweep_line-found.result then c.loop-y.invariant.calm c.sweep_line-found.ensures.calm
          (strip_more mid.size from y z (omega arith));
    }
