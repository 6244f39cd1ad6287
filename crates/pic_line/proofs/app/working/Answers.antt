use Rattle.std.proofs.Common.{◌||◌, ap₂, ◌∙◌}
use Rattle.clap.specs.Words.{with_rule}
use Rattle.pic_line.proofs.app.working.Goals as goal

pub returns : goal.returns
returns c = record {
  app = c.in_ok-all.ensures.shape c.few.ensures.own ∙ ap₂ with_rule c.new-named.ensures.app c.few.ensures.rule;
  own = c.in_ok-all.ensures.globals ∙ ap₂ (◌||◌) c.new-named.ensures.local c.few.ensures.own;
}
