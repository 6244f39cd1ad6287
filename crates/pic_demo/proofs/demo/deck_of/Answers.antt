use Rattle.std.proofs.Common.{◌≡◌, ◌<◌, ◌^◌, [], ◌∷◌, arith, rules}
use Rattle.pic_demo.specs.Demo.{electron, ion}
use Rattle.pic_demo.proofs.DemoLaws.{within_by}
use Rattle.pic_demo.proofs.demo.deck_of.Goals as goal

pub new-requires : goal.new-requires
new-requires c =
    let small : c.args.seed < 2 ^ 32 = omega arith in
    let both : c.from_vec.result ≡ electron c.args.seed ∷ ion c.args.seed ∷ [] = search rules in
    within_by _ _ _ _ _ c.settings.ensures c.none.ensures both c.none-2.ensures small
