use Rattle.std.proofs.Common.{ap, refl, sym, subst, ◌+◌, ◌∙◌}
use Rattle.std.specs.Prelude.{false}
use Rattle.pic_tile.specs.CoreState.{CoreState, slot_of}
use Rattle.pic_core.specs.InTurn.{IsAt, IsFinishing}
use Rattle.pic_core.proofs.AtLaws.{next_post, posted_next, posted_last}
use Rattle.pic_core.proofs.WorkerLaws.{goal_same, marked_all, marked_not, post_ran_last, post_ran_more}
use Rattle.pic_core.proofs.machine.Core.post_next.Goals as goal

pub post-requires-clause-can : goal.post-requires-clause-can
post-requires-clause-can g c = next_post c.args.self.now c.args.tile c.args.dir c.requires.tile c.requires.dir c.requires.at

pub finish_tile-requires-clause-to : goal.finish_tile-requires-clause-to
finish_tile-requires-clause-to g c =
    c.requires.to
    ∙ sym (goal_same c.args.self.now c.post.new.self c.args.tile c.args.dir (ap (λ (z : CoreState). z.frame) c.post.ensures))

pub finish_tile-requires-clause-at : goal.finish_tile-requires-clause-at
finish_tile-requires-clause-at g c =
    let all = marked_all c.args.self.now c.args.tile c.args.dir c.args.to c.deref.result.now c.requires.tile c.requires.dir c.requires.at
    c.stands.ensures.stands c.requires.to
    (c.deref.ensures.value ∙ ap (λ (z : CoreState). z.posted) (c.self.view_is ∙ c.post.ensures))
    (c.if-are_all_marked.ensures.0 refl) in
    subst (λ (z : CoreState). IsFinishing c.args.tile c.args.dir (λ e. false) z) (sym c.post.ensures)
    (posted_last c.args.self.now c.args.tile c.args.dir c.requires.tile c.requires.dir c.requires.at c.stands.ensures.stands.places all)

pub returns-then-are_all_marked-clause-ran : goal.returns-then-are_all_marked-clause-ran
returns-then-are_all_marked-clause-ran g c =
    let all = marked_all c.args.self.now c.args.tile c.args.dir c.args.to c.deref.result.now c.requires.tile c.requires.dir c.requires.at
    c.stands.ensures.stands c.requires.to (c.deref.ensures.value ∙ ap (λ (z : CoreState). z.posted) (c.self.view_is ∙ c.post.ensures))
    (c.if-are_all_marked.ensures.0 refl) in
    post_ran_last c.args.self.now c.post.new.self c.finish_tile.new.self c.args.tile c.args.dir c.args.to c.requires.to
    (next_post c.args.self.now c.args.tile c.args.dir c.requires.tile c.requires.dir c.requires.at) c.post.ensures c.stands-2.ensures.stands all
    c.finish_tile.ensures.ran

pub returns-else-are_all_marked-clause-at : goal.returns-else-are_all_marked-clause-at
returns-else-are_all_marked-clause-at g c =
    let more = marked_not c.args.self.now c.args.tile c.args.dir c.args.to c.deref.result.now c.requires.tile c.requires.dir c.requires.at
    c.stands.ensures.stands c.requires.to
    (c.deref.ensures.value ∙ ap (λ (z : CoreState). z.posted) (c.self.view_is ∙ c.post.ensures))
    c.if-are_all_marked.ensures.1 in
    subst (λ (z : CoreState). IsAt (c.args.tile + 1) (slot_of c.args.tile c.args.dir + 1) (slot_of c.args.tile c.args.dir + 1) z) (sym c.post.ensures)
    (posted_next c.args.self.now c.args.tile c.args.dir c.requires.tile c.requires.dir c.requires.at c.stands.ensures.stands.places more)

pub returns-else-are_all_marked-clause-ran : goal.returns-else-are_all_marked-clause-ran
returns-else-are_all_marked-clause-ran g c =
    let more = marked_not c.args.self.now c.args.tile c.args.dir c.args.to c.deref.result.now c.requires.tile c.requires.dir c.requires.at
    c.stands.ensures.stands c.requires.to
    (c.deref.ensures.value ∙ ap (λ (z : CoreState). z.posted) (c.self.view_is ∙ c.post.ensures))
    c.if-are_all_marked.ensures.1 in
    post_ran_more c.args.self.now c.post.new.self c.args.tile c.args.dir
    (next_post c.args.self.now c.args.tile c.args.dir c.requires.tile c.requires.dir c.requires.at) c.post.ensures c.stands-2.ensures.stands more
