use Rattle.std.proofs.Common.{◌∙◌, ◌+◌, ◌<◌, ◌≤◌, length, ap, sym, refl, Ok, arith, rules}
use Rattle.std.proofs.lemmas.List.{length-append}
use Rattle.pic_walk.specs.Path.{path_of}
use Rattle.pic_walk.specs.Walk.{list_by}
use Rattle.pic_walk.proofs.ArrayLaws.{each_at, each_out}
use Rattle.pic_walk.proofs.WalkLaws.{exits, then_ok}
use Rattle.pic_walk.specs.Points.{IsPoint, no_point, point, point_list}
use Rattle.pic_walk.proofs.ListLaws.{all_more}
use Rattle.pic_walk.proofs.point_reader.read_points.Goals as goal

pub returns-in_err-items-clause-walks : goal.returns-in_err-items-clause-walks
unfolding point_list list_by
returns-in_err-items-clause-walks c = exits _ _ c.from_residual.ensures.1 c.in_err-items.ensures

pub loop-i-init : goal.loop-i-init
unfolding point_list list_by
loop-i-init c =
    rw c.new-points.ensures.items (record {
      count = search rules;
      size = refl;
      walked = then_ok _ _ _ c.in_ok-items.ensures.answer;
      limits = λ k h. absurd (omega (arith, h));
    })

pub returns-in_err-point-clause-walks : goal.returns-in_err-point-clause-walks
returns-in_err-point-clause-walks c =
    let room : c.loop-i.i < length c.in_ok-items.items.now.items = omega (arith, c.loop-i.invariant.count) in
    let step = each_at (point c.args.cells) (path_of c.args.address) c.loop-i.points.items c.in_ok-items.items.now.items c.loop-i.i c.index.result.now room in
    rw (c.loop-i.invariant.walked ∙ rw c.loop-i.invariant.size at step)
    (exits _ _ c.from_residual-in_err-point.ensures.1 (rw (c.element.ensures.path, c.index.ensures) at (c.in_err-point.ensures.walks c.loop-i.points.items)))

pub loop-i-preserved : goal.loop-i-preserved
loop-i-preserved c =
    let room : c.loop-i.i < length c.in_ok-items.items.now.items = omega (arith, c.loop-i.invariant.count) in
    let step = each_at (point c.args.cells) (path_of c.args.address) c.loop-i.points.items c.in_ok-items.items.now.items c.loop-i.i c.index.result.now room in
    let at_i = rw c.loop-i.invariant.size at step in
    let read = rw (c.element.ensures.path, c.index.ensures) at (c.in_ok-point.ensures.walks c.loop-i.points.items).answer in
    rw c.in_ok-push.ensures.items (record {
      count = c.loop-i.invariant.count;
      size = length-append _ _ ∙ ap (λ n. n + 1) c.loop-i.invariant.size;
      walked = c.loop-i.invariant.walked ∙ at_i ∙ then_ok _ _ _ read;
      limits = all_more (λ r. IsPoint c.args.cells r) no_point _ _ c.loop-i.invariant.limits c.in_ok-point.ensures.limits;
    })

pub returns-clause-walks : goal.returns-clause-walks
returns-clause-walks c =
    let out : length c.in_ok-items.items.now.items ≤ c.loop-i.i = omega (arith, c.loop-i.invariant.count) in
    record { answer = c.loop-i.invariant.walked ∙ each_out _ _ _ _ _ out ∙ ap Ok (sym c.from_vec.ensures) }

pub returns-clause-limits : goal.returns-clause-limits
returns-clause-limits c = rw c.from_vec.ensures (record { each = c.loop-i.invariant.limits })
