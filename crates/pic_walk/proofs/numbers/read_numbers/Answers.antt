use Rattle.std.proofs.Common.{◌≡◌, ◌∙◌, ◌<◌, ◌≤◌, length, take, ap, Ok, arith, rules}
use Rattle.std.proofs.lemmas.Int.{to_z-of_z}
use Rattle.std.proofs.lemmas.List.{take_more_set, length-set, length-replicate, take_all}
use mir.Syntax.{w64}
use mir.Val.{SFits}
use Rattle.pic_walk.specs.Limits.{limits_at}
use Rattle.pic_walk.specs.Walk.{numbers, array_of}
use Rattle.pic_walk.proofs.ArrayLaws.{each_out, next_number, more_in_limits}
use Rattle.pic_walk.proofs.WalkLaws.{exits, then_ok}
use Rattle.pic_walk.proofs.numbers.read_numbers.Goals as goal

pub returns-in_err-items-clause-walks : goal.returns-in_err-items-clause-walks
unfolding numbers array_of
returns-in_err-items-clause-walks g c =
    let size : length c.args.limits ≡ g.row.N = search rules in
    rw size (exits _ _ c.from_residual.ensures.1 c.in_err-items.ensures.walks)

pub loop-i-init : goal.loop-i-init
unfolding numbers array_of
loop-i-init g c =
    let size : length c.args.limits ≡ g.row.N = search rules in
    record {
      count = search rules;
      size = length-replicate _ _;
      walked = rw size (then_ok _ _ _ c.in_ok-items.ensures.walks.answer);
      bounds = λ k h. absurd (omega (arith, h));
    }

pub returns-in_err-numbers-clause-walks : goal.returns-in_err-numbers-clause-walks
unfolding limits_at
returns-in_err-numbers-clause-walks g c =
    let room : c.loop-i.i < length c.in_ok-items.items.now.items = omega (arith, c.loop-i.invariant.count) in
    let done : c.loop-i.i ≤ length c.loop-i.numbers = omega (arith, c.loop-i.invariant.size) in
    let step = next_number c.args.limits _ c.loop-i.numbers _ c.loop-i.i c.index.result.now room done in
    rw (c.loop-i.invariant.walked ∙ step)
    (exits _ _ c.from_residual-in_err-numbers.ensures.1 (rw (c.element.ensures.path, c.index.ensures) at c.in_err-numbers.ensures.walks))

pub loop-i-preserved : goal.loop-i-preserved
unfolding limits_at
loop-i-preserved g c =
    let fits : SFits w64 c.in_ok-numbers.field-0 = search rules in
    let same = to_z-of_z w64 c.in_ok-numbers.field-0 fits in
    let room : c.loop-i.i < length c.in_ok-items.items.now.items = omega (arith, c.loop-i.invariant.count) in
    let address : c.loop-i.i < length c.loop-i.numbers = omega (arith, c.loop-i.invariant.size) in
    let done : c.loop-i.i ≤ length c.loop-i.numbers = omega arith in
    let step = next_number c.args.limits _ c.loop-i.numbers _ c.loop-i.i c.index.result.now room done in
    let read = rw (c.element.ensures.path, c.index.ensures) at c.in_ok-numbers.ensures.walks.answer in
    rw same (record {
      count = c.loop-i.invariant.count;
      size = length-set _ _ _ ∙ c.loop-i.invariant.size;
      walked = rw (take_more_set c.loop-i.numbers c.loop-i.i c.in_ok-numbers.field-0 address) (c.loop-i.invariant.walked ∙ step ∙ then_ok _ _ _ read);
      bounds = more_in_limits _ _ _ _ address c.loop-i.invariant.bounds c.in_ok-numbers.ensures.bounds;
    })

pub returns-clause-walks : goal.returns-clause-walks
returns-clause-walks g c =
    let out : length c.in_ok-items.items.now.items ≤ c.loop-i.i = omega (arith, c.loop-i.invariant.count) in
    let all : take c.loop-i.i c.loop-i.numbers ≡ c.loop-i.numbers = take_all _ _ (omega (arith, c.loop-i.invariant.size)) in
    record { answer = c.loop-i.invariant.walked ∙ each_out _ _ _ _ _ out ∙ ap Ok all }

pub returns-clause-bounds : goal.returns-clause-bounds
returns-clause-bounds g c = λ k h. c.loop-i.invariant.bounds k (omega (arith, h))
