use Rattle.std.proofs.Common.{◌∙◌, ◌+◌, ◌<◌, ◌≤◌, length, ap, refl, arith, rules}
use Rattle.std.proofs.lemmas.List.{length-append}
use Rattle.std.proofs.lemmas.List.Elements.{All-nil, All-push}
use Rattle.pic_walk.specs.Path.{path_of}
use Rattle.pic_walk.specs.Walk.{list_by}
use Rattle.pic_walk.proofs.ArrayLaws.{each_out}
use Rattle.pic_walk.proofs.WalkLaws.{exits, then_ok}
use Rattle.pic_devices.specs.Probes.{IsPlace, place}
use Rattle.pic_devices.proofs.ReadLaws.{each_next}
use Rattle.pic_devices.proofs.probe_reader.read_each_place.Goals as goal

pub returns-in_err-items-clause-walks : goal.returns-in_err-items-clause-walks
unfolding list_by
returns-in_err-items-clause-walks c = exits _ _ c.from_residual.ensures.1 c.in_err-items.ensures

pub loop-i-init : goal.loop-i-init
unfolding list_by
loop-i-init c =
    rw c.new-places.ensures.items (record {
      count = search rules;
      size = refl;
      walked = then_ok _ _ _ c.in_ok-items.ensures.answer;
      limits = All-nil (IsPlace c.args.cells.n);
    })

pub returns-in_err-place-clause-walks : goal.returns-in_err-place-clause-walks
returns-in_err-place-clause-walks c =
    let room : c.loop-i.i < length c.in_ok-items.items.now.items = omega (arith, c.loop-i.invariant.count) in
    let step = each_next (place c.args.cells.n) (path_of c.args.address) c.loop-i.places.items c.in_ok-items.items.now.items c.loop-i.i c.index.result.now
    c.loop-i.invariant.size room in
    rw (c.loop-i.invariant.walked ∙ step)
    (exits _ _ c.from_residual-in_err-place.ensures.1
    (rw (c.element.ensures.path, c.index.ensures) at (c.in_err-place.ensures.walks c.loop-i.places.items)))

pub loop-i-preserved : goal.loop-i-preserved
loop-i-preserved c =
    let room : c.loop-i.i < length c.in_ok-items.items.now.items = omega (arith, c.loop-i.invariant.count) in
    let step = each_next (place c.args.cells.n) (path_of c.args.address) c.loop-i.places.items c.in_ok-items.items.now.items c.loop-i.i c.index.result.now
    c.loop-i.invariant.size room in
    let read = rw (c.element.ensures.path, c.index.ensures) at (c.in_ok-place.ensures.walks c.loop-i.places.items).answer in
    rw c.in_ok-push.ensures.items (record {
      count = c.loop-i.invariant.count;
      size = length-append _ _ ∙ ap (λ n. n + 1) c.loop-i.invariant.size;
      walked = c.loop-i.invariant.walked ∙ step ∙ then_ok _ _ _ read;
      limits = All-push (IsPlace c.args.cells.n) _ _ c.loop-i.invariant.limits c.in_ok-place.ensures.limits;
    })

pub returns-clause-walks : goal.returns-clause-walks
returns-clause-walks c =
    let out : length c.in_ok-items.items.now.items ≤ c.loop-i.i = omega (arith, c.loop-i.invariant.count) in
    record { answer = c.loop-i.invariant.walked ∙ each_out _ _ _ _ _ out }

pub returns-clause-limits : goal.returns-clause-limits
returns-clause-limits c = c.loop-i.invariant.limits
