use Rattle.std.proofs.Common.{map, sym, ap, ◌∙◌, subst}
use Rattle.std.proofs.lemmas.List.{take_all}
use Rattle.pic_deck.specs.declared.species.Species.{Species}
use Rattle.pic_tile.specs.Frame.{AreKinds}
use Rattle.pic_step.proofs.StartLaws.{are_kinds, kinds_more}
use Rattle.pic_step.proofs.start.kinds_of.Goals as goal

pub loop-species-init : goal.loop-species-init
loop-species-init c = c.new-kinds.ensures.items

pub loop-species-preserved : goal.loop-species-preserved
loop-species-preserved c =
    kinds_more c.species-species-items.result.now c.loop-species.species-index c.species-item.result c.loop-species.kinds.items c.push.new.self.items
    c.loop-species-test.true c.species-item.is c.loop-species.invariant c.in_ok-push.ensures.items

pub from_vec-requires : goal.from_vec-requires
from_vec-requires c =
    let all = take_all c.loop-species.species-index c.species-species-items.result.now c.loop-species-test.false in
    subst AreKinds (sym (c.loop-species.invariant ∙ ap (map (λ (s : Species). s.kind)) (all ∙ c.species-species-items.ensures.value)))
    (are_kinds c.args.deck.now c.species-species-items.ensures.limits.heads)

pub returns : goal.returns
returns c =
    let all = take_all c.loop-species.species-index c.species-species-items.result.now c.loop-species-test.false in
    c.from_vec.ensures ∙ c.loop-species.invariant ∙ ap (map (λ (s : Species). s.kind)) (all ∙ c.species-species-items.ensures.value)
