use Rattle.std.proofs.Common.{◌≡◌, codes, ap, ap₂, ◌∙◌}
use Rattle.clap.specs.Words.{App, app_of, new_app, with_subcommand}
use Rattle.pic_line.specs.CommandLine.{run_app}
use Rattle.pic_line.proofs.app.first_three.Goals as goal

-- the command with its first subcommand, and with the second
abbrev with_check : App
with_check = with_subcommand (new_app (codes "pic")) (new_app (codes "check")).top

pub returns : goal.returns
returns c =
    let top = λ (a : App). a.top in
    let one_is : app_of c.in_ok-one.one ≡ with_check =
    c.in_ok-one.ensures.shape c.new-2.ensures.local ∙ ap₂ with_subcommand c.new.ensures.app (ap top c.new-2.ensures.app) in
    let two_is : app_of c.in_ok-two.two ≡ with_subcommand with_check run_app.top =
    c.in_ok-two.ensures.shape c.in_ok-working.ensures.own ∙ ap₂ with_subcommand one_is (ap top c.in_ok-working.ensures.app) in
    c.in_ok-three.ensures.shape c.new-3.ensures.local ∙ ap₂ with_subcommand two_is (ap top c.new-3.ensures.app)
