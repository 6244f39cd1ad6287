use Rattle.std.proofs.Common.{◌≡◌, ap, ap₂, ◌∙◌}
use Rattle.clap.specs.Words.{App, app_of, with_subcommand}
use Rattle.pic_line.specs.CommandLine.{pic_app, first_five_app, resume_app}
use Rattle.pic_line.proofs.app.pic.Goals as goal

pub returns : goal.returns
unfolding pic_app
returns c =
    let top = λ (a : App). a.top in
    let six_is : app_of c.in_ok-six.six ≡ with_subcommand first_five_app resume_app.top =
    c.in_ok-six.ensures.shape c.in_ok-resume.ensures.own ∙ ap₂ with_subcommand c.in_ok-five.ensures (ap top c.in_ok-resume.ensures.app) in
    c.in_ok-all.ensures.shape c.in_ok-working.ensures.own ∙ ap₂ with_subcommand six_is (ap top c.in_ok-working.ensures.app)
