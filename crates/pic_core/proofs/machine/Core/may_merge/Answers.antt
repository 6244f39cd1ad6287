use Rattle.std.proofs.Common.{Bool, List, ap, ◌∙◌}
use Rattle.std.proofs.lemmas.Bool.{false≢true}
use Rattle.pic_tile.specs.CoreState.{CoreState, mark, slot_of}
use Rattle.pic_core.proofs.machine.Core.may_merge.Goals as goal

pub returns-then-not-are_all_marked : goal.returns-then-not-are_all_marked
returns-then-not-are_all_marked c = (
  λ on. absurd (false≢true on),
  λ can. c.if-not-are_all_marked.ensures.1
      (λ d below. ap (λ (ms : List Bool). mark ms (slot_of c.args.tile d)) (c.deref.ensures.value ∙ ap (λ (s : CoreState). s.posted) c.self.view_is)
      ∙ can.ready d below),
)
