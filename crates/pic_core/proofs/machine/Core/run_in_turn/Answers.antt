use Rattle.std.proofs.Common.{◌≡◌, ℕ, ◌<◌, flat_map, arith, sym, subst, ◌∙◌, ap}
use Rattle.std.specs.List.{range_with_len}
use Rattle.pic_block.specs.Cells.{count_of}
use Rattle.pic_tile.specs.Frame.{FrameValue}
use Rattle.pic_core.specs.Events.{Ran}
use Rattle.pic_core.specs.InTurn.{tiling}
use Rattle.pic_core.proofs.AtLaws.{at_start, at_end}
use Rattle.pic_core.proofs.RunLaws.{ran_none, ran_lists, ran_frame}
use Rattle.pic_core.proofs.WorkerLaws.{count_same}
use Rattle.pic_core.proofs.machine.Core.run_in_turn.Goals as goal

pub loop-tile-init : goal.loop-tile-init
loop-tile-init g c = record { at = at_start c.args.self.now c.requires; ran = ran_none c.args.self.now }

pub run_tile-requires-clause-tile : goal.run_tile-requires-clause-tile
run_tile-requires-clause-tile g c =
    let start = c.args.self.now in
    let now = c.loop-tile.self in
    count_same start now c.loop-tile.tile
    (ran_frame start (flat_map (tiling start.frame.map) (range_with_len 0 c.loop-tile.tile)) now c.loop-tile.invariant.ran)
    (subst (λ (n : ℕ). c.loop-tile.tile < n) c.count-tile-end.ensures.value c.loop-tile-test.true)

pub loop-tile-preserved : goal.loop-tile-preserved
loop-tile-preserved g c =
    let start = c.args.self.now in
    let now = c.loop-tile.self in
    let i = c.loop-tile.tile in
    let next = c.run_tile.new.self in
    let same = ran_frame start (flat_map (tiling start.frame.map) (range_with_len 0 i)) now c.loop-tile.invariant.ran in
    record {
      at = c.run_tile.ensures.at;
      ran = ran_lists start (tiling start.frame.map) i now next c.loop-tile.invariant.ran
          (subst (λ (f : FrameValue). Ran now (tiling f.map i) next) same c.run_tile.ensures.ran);
    }

pub returns-clause-finished : goal.returns-clause-finished
returns-clause-finished g c =
    let start = c.args.self.now in
    let now = c.loop-tile.self in
    let i = c.loop-tile.tile in
    let same = ran_frame start (flat_map (tiling start.frame.map) (range_with_len 0 i)) now c.loop-tile.invariant.ran in
    let last : i ≡ c.count-tile-end.result = omega arith in
    at_end now i (last ∙ c.count-tile-end.ensures.value ∙ ap (λ (f : FrameValue). count_of f.map.tiles) (sym same)) c.loop-tile.invariant.at
