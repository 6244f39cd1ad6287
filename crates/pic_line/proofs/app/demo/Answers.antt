use Rattle.std.proofs.Common.{◌≡◌, ◌||◌, codes, ap₂, ◌∙◌}
use Rattle.clap.specs.Words.{app_of, new_app, with_rule}
use Rattle.pic_line.specs.CommandLine.{seed_rule}
use Rattle.pic_line.proofs.app.demo.Goals as goal

pub returns : goal.returns
returns c =
    let seeded_own = c.in_ok-seeded.ensures.globals ∙ ap₂ (◌||◌) c.new.ensures.local c.seed.ensures.own in
    let seeded_is : app_of c.in_ok-seeded.seeded ≡ with_rule (new_app (codes "demo")) seed_rule =
    c.in_ok-seeded.ensures.shape c.seed.ensures.own ∙ ap₂ with_rule c.new.ensures.app c.seed.ensures.rule in
    record {
      app = c.in_ok-demo.ensures.shape c.few.ensures.own ∙ ap₂ with_rule seeded_is c.few.ensures.rule;
      own = c.in_ok-demo.ensures.globals ∙ ap₂ (◌||◌) seeded_own c.few.ensures.own;
    }
