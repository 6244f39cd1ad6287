use Rattle.std.proofs.Common.{◌≡◌, ap, ap₂, ◌∙◌}
use Rattle.clap.specs.Words.{App, app_of, with_subcommand}
use Rattle.pic_line.specs.CommandLine.{first_three_app, demo_app}
use Rattle.pic_line.proofs.app.first_five.Goals as goal

pub returns : goal.returns
returns c =
    let top = λ (a : App). a.top in
    let four_is : app_of c.in_ok-four.four ≡ with_subcommand first_three_app demo_app.top =
    c.in_ok-four.ensures.shape c.in_ok-demo.ensures.own ∙ ap₂ with_subcommand c.in_ok-three.ensures (ap top c.in_ok-demo.ensures.app) in
    c.in_ok-five.ensures.shape c.new.ensures.local ∙ ap₂ with_subcommand four_is (ap top c.new.ensures.app)
