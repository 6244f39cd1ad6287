use Rattle.std.proofs.Common.{sym, ◌∙◌}
use Rattle.pic_core.specs.InTurn.{merging, merging_at}
use Rattle.pic_core.proofs.RunLaws.{ran_none, ran_lists, ran_frame}
use Rattle.pic_core.proofs.WorkerLaws.{goal_same, count_same}
use Rattle.pic_core.proofs.machine.Core.merge_others.Goals as goal

pub loop-number-init : goal.loop-number-init
loop-number-init c = record { at = c.requires.at; ran = ran_none c.args.self.now }

pub merge_next-requires-clause-tile : goal.merge_next-requires-clause-tile
merge_next-requires-clause-tile c =
    let now = c.loop-number.self in
    count_same c.args.self.now now c.args.tile (ran_frame c.args.self.now (merging c.args.to c.loop-number.number) now c.loop-number.invariant.ran)
    c.requires.tile

pub merge_next-requires-clause-to : goal.merge_next-requires-clause-to
merge_next-requires-clause-to c =
    let now = c.loop-number.self in
    let same = ran_frame c.args.self.now (merging c.args.to c.loop-number.number) now c.loop-number.invariant.ran in
    c.requires.to ∙ sym (goal_same c.args.self.now now c.args.tile c.args.dir same)

pub loop-number-preserved : goal.loop-number-preserved
loop-number-preserved c = record {
  at = c.merge_next.ensures.at;
  ran = ran_lists c.args.self.now (merging_at c.args.to) c.loop-number.number c.loop-number.self c.merge_next.new.self c.loop-number.invariant.ran
      c.merge_next.ensures.ran;
}
