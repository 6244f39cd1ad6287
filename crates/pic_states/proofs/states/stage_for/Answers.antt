use Rattle.std.proofs.Common.{ℕ, List, ◌<◌, length, All, sym, ◌∙◌, subst}
use Rattle.pic_step.specs.Start.{begun}
use Rattle.pic_states.proofs.RoomLaws.{followed_below, look_first}
use Rattle.pic_states.proofs.states.stage_for.Goals as goal

pub stage_of-requires-clause-ids : goal.stage_of-requires-clause-ids
stage_of-requires-clause-ids c =
    let start = c.args.start in
    subst (λ (ids : List ℕ). All (λ (id : ℕ). id < length start.particles.items) ids) (sym c.followed.ensures)
    (followed_below c.args.output.now (begun start) c.requires.probes)

pub returns-clause-look : goal.returns-clause-look
returns-clause-look c =
    look_first c.args.output.now c.fill.new.to c.in_ok-stage.stage.state.world c.in_ok-stage.stage.state.followed
    (c.in_ok-stage.ensures.followed ∙ c.followed.ensures) c.fill.ensures.particles c.fill.ensures.sound.ordered
