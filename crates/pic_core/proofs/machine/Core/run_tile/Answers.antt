use Rattle.std.proofs.Common.{◌≡◌, ℕ, ◌+◌, ◌<◌, flat_map, get_or, ap, arith, ◌∙◌, sym, subst}
use Rattle.std.specs.List.{range_with_len}
use Rattle.pic_tile.specs.CoreState.{CoreState, slot_of, tile_count}
use Rattle.pic_tile.specs.Frame.{FrameValue}
use Rattle.pic_tile.specs.Directions.{directions}
use Rattle.pic_tile.specs.Tiling.{Tiling, neighbour_of}
use Rattle.pic_tile.proofs.AllTilesLaws.{neighbour_below}
use Rattle.pic_core.specs.Events.{Ran}
use Rattle.pic_core.specs.InTurn.{IsAt, posting}
use Rattle.pic_core.proofs.AtLaws.{next_claim, claimed_next}
use Rattle.pic_core.proofs.RunLaws.{ran_none, ran_lists, ran_frame}
use Rattle.pic_core.proofs.WorkerLaws.{count_same, goal_same, tile_ran}
use Rattle.pic_core.proofs.machine.Core.run_tile.Goals as goal
use Rattle.pic_core.proofs.machine.Core.run_tile.Goals.{After-of}
use Rattle.pic_core.proofs.machine.Core.run_tile.Given.{Over}

pub loop-number-init : goal.loop-number-init
loop-number-init g c = record {
  at = claimed_next c.args.self.now c.claim.new.self c.args.tile c.stands.ensures.stands.places c.requires.tile c.requires.at c.claim.ensures;
  ran = ran_none c.claim.new.self;
}

-- the posts leave the frame, and so which tiles they are
frame_is : (g : Over) (c : After-of g) → c.loop-number.self.frame ≡ c.args.self.now.frame
frame_is g c =
    let one = c.claim.new.self in
    ran_frame one (flat_map (posting one.frame.map c.args.tile) (range_with_len 0 c.loop-number.number)) c.loop-number.self c.loop-number.invariant.ran
    ∙ ap (λ (z : CoreState). z.frame) c.claim.ensures.is

to_is : (g : Over) (c : After-of g) → get_or c.neighbours-to.result c.loop-number.number 0
    ≡ neighbour_of c.loop-number.self.frame.map.tiles c.args.tile c.of.result
to_is g c =
    c.neighbours-to.ensures c.loop-number.number c.loop-number-test.true
    ∙ ap (λ (m : Tiling). neighbour_of m.tiles c.args.tile c.loop-number.number) c.map.ensures.value
    ∙ ap (λ (z : CoreState). neighbour_of z.frame.map.tiles c.args.tile c.loop-number.number) c.self.view_is
    ∙ sym (goal_same c.args.self.now c.loop-number.self c.args.tile c.loop-number.number (frame_is g c))
    ∙ ap (neighbour_of c.loop-number.self.frame.map.tiles c.args.tile) (sym c.of.ensures)

pub post_next-requires-clause-tile : goal.post_next-requires-clause-tile
post_next-requires-clause-tile g c =
    count_same c.args.self.now c.loop-number.self c.args.tile (frame_is g (goal.at.post_next-requires-clause-tile g c).After-of) c.requires.tile

pub post_next-requires-clause-to : goal.post_next-requires-clause-to
post_next-requires-clause-to g c = to_is g (goal.at.post_next-requires-clause-to g c).After-of

pub post_next-requires-clause-below : goal.post_next-requires-clause-below
post_next-requires-clause-below g c =
    let now = c.loop-number.self in
    let of = (goal.at.post_next-requires-clause-below g c).After-of in
    subst (λ (k : ℕ). k < tile_count now) (sym (to_is g of))
    (neighbour_below now.frame.map.tiles c.args.tile c.of.result (count_same c.args.self.now now c.args.tile (frame_is g of) c.requires.tile))

pub loop-number-preserved : goal.loop-number-preserved
loop-number-preserved g c =
    let one = c.claim.new.self in
    let now = c.loop-number.self in
    let i = c.loop-number.number in
    let next = c.post_next.new.self in
    let same = ran_frame one (flat_map (posting one.frame.map c.args.tile) (range_with_len 0 i)) now c.loop-number.invariant.ran in
    record {
      at =
          (let along : slot_of c.args.tile c.of.result + 1 ≡ slot_of c.args.tile (i + 1) = omega (arith, c.of.ensures) in
          subst (λ (k : ℕ). IsAt (c.args.tile + 1) k k next) along c.post_next.ensures.at);
      ran = ran_lists one (posting one.frame.map c.args.tile) i now next c.loop-number.invariant.ran
          (subst (λ (f : FrameValue). Ran now (posting f.map c.args.tile i) next) same
          (subst (λ (j : ℕ). Ran now (posting now.frame.map c.args.tile j) next) c.of.ensures c.post_next.ensures.ran));
    }

pub returns-clause-ran : goal.returns-clause-ran
returns-clause-ran g c =
    tile_ran c.args.self.now c.claim.new.self c.loop-number.self c.args.tile (next_claim c.args.self.now c.args.tile c.requires.tile c.requires.at)
    c.claim.ensures c.stands-2.ensures.stands
    (let all : c.loop-number.number ≡ directions = omega arith in
    subst (λ (k : ℕ). Ran c.claim.new.self (flat_map (posting c.claim.new.self.frame.map c.args.tile) (range_with_len 0 k)) c.loop-number.self) all
    c.loop-number.invariant.ran)
