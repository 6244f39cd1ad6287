use Rattle.std.proofs.Common.{◌∙◌, ◌+◌, ◌<◌, ◌≤◌, length, ap, refl, arith, rules}
use Rattle.std.proofs.lemmas.Int.{ints}
use Rattle.std.proofs.lemmas.List.{length-append}
use Rattle.std.proofs.lemmas.List.Elements.{All-nil, All-push}
use Rattle.pic_walk.specs.Path.{path_of}
use Rattle.pic_walk.specs.Walk.{list_by}
use Rattle.pic_walk.proofs.ArrayLaws.{each_out}
use Rattle.pic_walk.proofs.WalkLaws.{exits, then_ok}
use Rattle.pic_devices.specs.Probes.{id}
use Rattle.pic_devices.proofs.ReadLaws.{each_next}
use Rattle.pic_devices.proofs.probe_reader.read_each_id.Goals as goal

pub returns-in_err-items-clause-walks : goal.returns-in_err-items-clause-walks
unfolding list_by
returns-in_err-items-clause-walks c = exits _ _ c.from_residual.ensures.1 c.in_err-items.ensures

pub loop-i-init : goal.loop-i-init
unfolding list_by
loop-i-init c =
    rw c.new-ids.ensures.items (record {
      count = search rules;
      size = refl;
      walked = then_ok _ _ _ c.in_ok-items.ensures.answer;
      limits = All-nil (λ i. i < c.args.particles);
    })

pub returns-in_err-id-clause-walks : goal.returns-in_err-id-clause-walks
unfolding id
returns-in_err-id-clause-walks c =
    let room : c.loop-i.i < length c.in_ok-items.items.now.items = omega (arith, c.loop-i.invariant.count) in
    let step = each_next (id c.args.particles) (path_of c.args.address) c.loop-i.ids.items c.in_ok-items.items.now.items c.loop-i.i c.index.result.now
    c.loop-i.invariant.size room in
    rw (c.loop-i.invariant.walked ∙ step)
    (exits _ _ c.from_residual-in_err-id.ensures.1
    (rw (c.element.ensures.path, c.index.ensures, c.id_limits.ensures) at c.in_err-id.ensures.walks))

pub loop-i-preserved : goal.loop-i-preserved
unfolding id
loop-i-preserved c =
    let room : c.loop-i.i < length c.in_ok-items.items.now.items = omega (arith, c.loop-i.invariant.count) in
    let step = each_next (id c.args.particles) (path_of c.args.address) c.loop-i.ids.items c.in_ok-items.items.now.items c.loop-i.i c.index.result.now
    c.loop-i.invariant.size room in
    let read = rw (c.element.ensures.path, c.index.ensures, c.id_limits.ensures) at c.in_ok-id.ensures.walks.answer in
    let inside = rw c.id_limits.ensures at c.in_ok-id.ensures.bounds in
    rw c.in_ok-push.ensures.items (record {
      count = c.loop-i.invariant.count;
      size = length-append _ _ ∙ ap (λ n. n + 1) c.loop-i.invariant.size;
      walked = c.loop-i.invariant.walked ∙ step ∙ then_ok _ _ _ read;
      limits = All-push (λ i. i < c.args.particles) _ _ c.loop-i.invariant.limits (omega (arith, ints, inside.high));
    })

pub returns-clause-walks : goal.returns-clause-walks
returns-clause-walks c =
    let out : length c.in_ok-items.items.now.items ≤ c.loop-i.i = omega (arith, c.loop-i.invariant.count) in
    record { answer = c.loop-i.invariant.walked ∙ each_out _ _ _ _ _ out }

pub returns-clause-limits : goal.returns-clause-limits
returns-clause-limits c = c.loop-i.invariant.limits
