use Rattle.std.proofs.Common.{◌≡◌, ◌∙◌, ◌<◌, ◌≤◌, length, take, ap, refl, Ok, arith, rules}
use Rattle.std.proofs.lemmas.List.{take_more_set, length-set, take_all}
use Rattle.pic_walk.specs.Walk.{array_of}
use Rattle.pic_walk.proofs.ArrayLaws.{each_out}
use Rattle.pic_walk.proofs.WalkLaws.{exits, then_ok}
use Rattle.pic_settings.proofs.GridLaws.{next_axis_tiles, more_tiled}
use Rattle.pic_settings.proofs.grid.read_each_tiles.Goals as goal

pub returns-in_err-items-clause-walks : goal.returns-in_err-items-clause-walks
unfolding array_of
returns-in_err-items-clause-walks c = exits _ _ c.from_residual.ensures.1 c.in_err-items.ensures.walks

pub loop-i-init : goal.loop-i-init
unfolding array_of
loop-i-init c =
    record {
      count = search rules;
      size = refl;
      walked = then_ok _ _ _ c.in_ok-items.ensures.walks.answer;
      tiled = λ k h. absurd (omega (arith, h));
    }

pub returns-in_err-tiles-clause-walks : goal.returns-in_err-tiles-clause-walks
returns-in_err-tiles-clause-walks c =
    let room : c.loop-i.i < length c.in_ok-items.items.now.items = omega (arith, c.loop-i.invariant.count) in
    let done : c.loop-i.i ≤ length c.loop-i.tiles = omega (arith, c.loop-i.invariant.size) in
    let step = next_axis_tiles c.args.cells _ c.loop-i.tiles _ c.loop-i.i c.index.result.now room done in
    rw (c.loop-i.invariant.walked ∙ step)
    (exits _ _ c.from_residual-in_err-tiles.ensures.1 (rw (c.element.ensures.path, c.index.ensures) at c.in_err-tiles.ensures.walks))

pub loop-i-preserved : goal.loop-i-preserved
loop-i-preserved c =
    let room : c.loop-i.i < length c.in_ok-items.items.now.items = omega (arith, c.loop-i.invariant.count) in
    let address : c.loop-i.i < length c.loop-i.tiles = omega (arith, c.loop-i.invariant.size) in
    let done : c.loop-i.i ≤ length c.loop-i.tiles = omega arith in
    let step = next_axis_tiles c.args.cells _ c.loop-i.tiles _ c.loop-i.i c.index.result.now room done in
    let read = rw (c.element.ensures.path, c.index.ensures) at c.in_ok-tiles.ensures.walks.answer in
    record {
      count = c.loop-i.invariant.count;
      size = length-set _ _ _ ∙ c.loop-i.invariant.size;
      walked = rw (take_more_set c.loop-i.tiles c.loop-i.i c.in_ok-tiles.field-0 address) (c.loop-i.invariant.walked ∙ step ∙ then_ok _ _ _ read);
      tiled = more_tiled _ _ _ _ address c.loop-i.invariant.tiled c.in_ok-tiles.ensures.tiled;
    }

pub returns-clause-walks : goal.returns-clause-walks
returns-clause-walks c =
    let out : length c.in_ok-items.items.now.items ≤ c.loop-i.i = omega (arith, c.loop-i.invariant.count) in
    let all : take c.loop-i.i c.loop-i.tiles ≡ c.loop-i.tiles = take_all _ _ (omega (arith, c.loop-i.invariant.size)) in
    record { answer = c.loop-i.invariant.walked ∙ each_out _ _ _ _ _ out ∙ ap Ok all }

pub returns-clause-tiled : goal.returns-clause-tiled
returns-clause-tiled c = λ k h. c.loop-i.invariant.tiled k (omega (arith, h))
