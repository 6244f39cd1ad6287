use Rattle.std.proofs.Common.{◌||◌, ap₂, ◌∙◌}
use Rattle.clap.specs.Words.{with_rule}
use Rattle.pic_line.proofs.app.resume.Goals as goal

pub returns : goal.returns
returns c =
    let one_own = c.in_ok-one.ensures.globals ∙ ap₂ (◌||◌) c.new-named.ensures.local c.steps.ensures.own in
    let two_own = c.in_ok-two.ensures.globals ∙ ap₂ (◌||◌) one_own c.few.ensures.own in
    let three_own = c.in_ok-three.ensures.globals ∙ ap₂ (◌||◌) two_own c.few-2.ensures.own in
    let four_own = c.in_ok-four.ensures.globals ∙ ap₂ (◌||◌) three_own c.few-3.ensures.own in
    let one_is = c.in_ok-one.ensures.shape c.steps.ensures.own ∙ ap₂ with_rule c.new-named.ensures.app c.steps.ensures.rule in
    let two_is = c.in_ok-two.ensures.shape c.few.ensures.own ∙ ap₂ with_rule one_is c.few.ensures.rule in
    let three_is = c.in_ok-three.ensures.shape c.few-2.ensures.own ∙ ap₂ with_rule two_is c.few-2.ensures.rule in
    let four_is = c.in_ok-four.ensures.shape c.few-3.ensures.own ∙ ap₂ with_rule three_is c.few-3.ensures.rule in
    record {
      app = c.in_ok-all.ensures.shape c.few-4.ensures.own ∙ ap₂ with_rule four_is c.few-4.ensures.rule;
      own = c.in_ok-all.ensures.globals ∙ ap₂ (◌||◌) four_own c.few-4.ensures.own;
    }
