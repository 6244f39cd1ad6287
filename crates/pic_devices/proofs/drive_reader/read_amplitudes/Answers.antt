use Rattle.std.proofs.Common.{◌∙◌, ◌+◌, ◌<◌, ◌≤◌, length, ap, refl, arith, rules}
use Rattle.std.proofs.lemmas.Int.{ints, to_z-of_z}
use mir.Syntax.{w64}
use mir.Val.{SFits}
use Rattle.std.proofs.lemmas.List.{length-append}
use Rattle.std.proofs.lemmas.List.Elements.{All-nil, All-push}
use Rattle.pic_num.specs.Limits.{most_drive}
use Rattle.pic_num.specs.Sizes.{IsAtMost}
use Rattle.pic_walk.specs.Path.{path_of}
use Rattle.pic_walk.specs.Walk.{list_by}
use Rattle.pic_walk.proofs.ArrayLaws.{each_out}
use Rattle.pic_walk.proofs.WalkLaws.{exits, then_ok}
use Rattle.pic_devices.specs.Drive.{amplitude}
use Rattle.pic_devices.proofs.ReadLaws.{each_next}
use Rattle.pic_devices.proofs.drive_reader.read_amplitudes.Goals as goal

pub returns-in_err-items-clause-walks : goal.returns-in_err-items-clause-walks
unfolding list_by
returns-in_err-items-clause-walks c = exits _ _ c.from_residual.ensures.1 c.in_err-items.ensures

pub loop-i-init : goal.loop-i-init
unfolding list_by
loop-i-init c =
    rw c.new-numbers.ensures.items (record {
      count = search rules;
      size = refl;
      walked = then_ok _ _ _ c.in_ok-items.ensures.answer;
      sizes = All-nil (λ v. IsAtMost v most_drive);
    })

pub returns-in_err-number-clause-walks : goal.returns-in_err-number-clause-walks
unfolding amplitude
returns-in_err-number-clause-walks c =
    let room : c.loop-i.i < length c.in_ok-items.items.now.items = omega (arith, c.loop-i.invariant.count) in
    let step = each_next amplitude (path_of c.args.address) c.loop-i.numbers.items c.in_ok-items.items.now.items c.loop-i.i c.index.result.now
    c.loop-i.invariant.size room in
    rw (c.loop-i.invariant.walked ∙ step)
    (exits _ _ c.from_residual-in_err-number.ensures.1
    (rw (c.element.ensures.path, c.index.ensures, c.drive_limits.ensures) at c.in_err-number.ensures.walks))

pub loop-i-preserved : goal.loop-i-preserved
unfolding amplitude
loop-i-preserved c =
    let room : c.loop-i.i < length c.in_ok-items.items.now.items = omega (arith, c.loop-i.invariant.count) in
    let step = each_next amplitude (path_of c.args.address) c.loop-i.numbers.items c.in_ok-items.items.now.items c.loop-i.i c.index.result.now
    c.loop-i.invariant.size room in
    let read = rw (c.element.ensures.path, c.index.ensures, c.drive_limits.ensures) at c.in_ok-number.ensures.walks.answer in
    let inside = rw c.drive_limits.ensures at c.in_ok-number.ensures.bounds in
    let fits : SFits w64 c.in_ok-number.number = search rules in
    rw (c.in_ok-push.ensures.items, to_z-of_z w64 _ fits) (record {
      count = c.loop-i.invariant.count;
      size = length-append _ _ ∙ ap (λ n. n + 1) c.loop-i.invariant.size;
      walked = c.loop-i.invariant.walked ∙ step ∙ then_ok _ _ _ read;
      sizes = All-push (λ v. IsAtMost v most_drive) _ _ c.loop-i.invariant.sizes
          (record { size = omega (arith, ints, inside.low, inside.high) });
    })

pub returns-clause-walks : goal.returns-clause-walks
returns-clause-walks c =
    let out : length c.in_ok-items.items.now.items ≤ c.loop-i.i = omega (arith, c.loop-i.invariant.count) in
    record { answer = c.loop-i.invariant.walked ∙ each_out _ _ _ _ _ out }

pub returns-clause-sizes : goal.returns-clause-sizes
returns-clause-sizes c = c.loop-i.invariant.sizes
