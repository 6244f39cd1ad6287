use Rattle.std.proofs.Common.{◌≡◌, ap, sym, ◌∙◌}
use Rattle.pic_tile.specs.CoreState.{CoreState}
use Rattle.pic_tile.specs.Tiling.{neighbour_of}
use Rattle.pic_core.specs.InTurn.{merging}
use Rattle.pic_tile.specs.Directions.{directions}
use Rattle.pic_core.proofs.RunLaws.{ran_frame}
use Rattle.pic_core.proofs.WorkerLaws.{finish_can, finish_begun, shut_can, shut_did, finish_ran, goal_same, count_same}
use Rattle.pic_core.proofs.machine.Core.finish_tile.Goals as goal
use Rattle.pic_core.proofs.machine.Core.finish_tile.Goals.{After-merge, After-merge_others}

-- the merges leave the frame, and so which tile it is
one_is : (c : After-merge) → c.merge.new.self.frame ≡ c.args.self.now.frame
one_is c = ap (λ (z : CoreState). z.frame) c.merge.ensures.is

two_is : (c : After-merge_others) → c.merge_others.new.self.frame ≡ c.args.self.now.frame
two_is c =
    ran_frame c.merge.new.self (merging c.args.to directions) c.merge_others.new.self c.merge_others.ensures.ran
    ∙ ap (λ (z : CoreState). z.frame) c.merge.ensures.is

to_is : (c : After-merge_others) → c.args.to ≡ neighbour_of c.merge_others.new.self.frame.map.tiles c.args.tile c.args.dir
to_is c = c.requires.to ∙ sym (goal_same c.args.self.now c.merge_others.new.self c.args.tile c.args.dir (two_is c))

pub merge-requires : goal.merge-requires
merge-requires c = finish_can c.args.self.now c.args.tile c.args.dir c.args.to c.requires.to c.requires.tile c.requires.dir c.requires.at

pub merge_others-requires-clause-to : goal.merge_others-requires-clause-to
merge_others-requires-clause-to c =
    c.requires.to ∙ sym (goal_same c.args.self.now c.merge.new.self c.args.tile c.args.dir (one_is (goal.at.merge_others-requires-clause-to c).After-merge))

pub merge_others-requires-clause-at : goal.merge_others-requires-clause-at
merge_others-requires-clause-at c =
    finish_begun c.args.self.now c.args.tile c.args.dir c.args.to c.requires.to c.requires.tile c.requires.dir c.merge.new.self c.requires.at
    c.stands.ensures.stands c.merge.ensures

pub shut-requires : goal.shut-requires
shut-requires c =
    let two = c.merge_others.new.self in
    let merged = (goal.at.shut-requires c).After-merge_others in
    let below = count_same c.args.self.now two c.args.tile (two_is merged) c.requires.tile in
    shut_can two c.args.tile c.args.dir c.args.to (to_is merged) below c.requires.dir c.merge_others.ensures.at

pub returns-clause-at : goal.returns-clause-at
returns-clause-at c =
    let two = c.merge_others.new.self in
    let merged = (goal.at.returns-clause-at c).After-merge_others in
    let below = count_same c.args.self.now two c.args.tile (two_is merged) c.requires.tile in
    shut_did two c.args.tile c.args.dir c.args.to (to_is merged) below c.requires.dir c.shut.new.self c.merge_others.ensures.at
    c.merge_others.ensures.stands c.shut.ensures

pub returns-clause-ran : goal.returns-clause-ran
returns-clause-ran c =
    let s = c.args.self.now in
    let two = c.merge_others.new.self in
    let merged = (goal.at.returns-clause-ran c).After-merge_others in
    let below = count_same s two c.args.tile (two_is merged) c.requires.tile in
    finish_ran s c.merge.new.self two c.shut.new.self c.args.to
    (finish_can s c.args.tile c.args.dir c.args.to c.requires.to c.requires.tile c.requires.dir c.requires.at) c.merge.ensures c.stands-2.ensures.stands
    c.merge_others.ensures.ran (shut_can two c.args.tile c.args.dir c.args.to (to_is merged) below c.requires.dir c.merge_others.ensures.at)
    c.shut.ensures c.stands-3.ensures.stands
