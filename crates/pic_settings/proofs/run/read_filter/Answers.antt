use Rattle.std.proofs.Common.{◌≡◌, ◌≢◌, ◌==◌, ℕ, pos, true, false, Ok, arith}
use Rattle.std.specs.Prelude.{codes}
use Rattle.std.proofs.lemmas.Bool.Decides.{nat_tests}
use Rattle.toml.specs.Data.{Members}
use Rattle.pic_num.specs.Limits.{allowance_of}
use Rattle.pic_walk.specs.Limits.{from_to}
use Rattle.pic_walk.specs.Walk.{optional, whole}
use Rattle.pic_settings.specs.Keys.{filter_in}
use Rattle.pic_settings.proofs.run.read_filter.Goals as goal

filter_of_first : (version : ℕ) (t : Members) → version ≡ 1 → filter_in version t ≡ Ok 0
unfolding filter_in
filter_of_first version t one =
    let same : (version == 1) ≡ true = grind (arith, nat_tests) in
    rw same

filter_of_further : (version : ℕ) (t : Members) → version ≢ 1
    → filter_in version t ≡ optional 0 (whole (from_to (pos 0) (pos (allowance_of version).filter))) (codes "filter") (codes "run") t
unfolding filter_in
filter_of_further version t further =
    let other : (version == 1) ≡ false = grind (arith, nat_tests) in
    rw other

pub returns-then-version-eq1-clause-walks : goal.returns-then-version-eq1-clause-walks
returns-then-version-eq1-clause-walks c = record { answer = filter_of_first c.args.version _ c.if-version-eq1.true }

pub returns-clause-walks : goal.returns-clause-walks
returns-clause-walks c =
    rw (filter_of_further c.args.version _ c.if-version-eq1.false)
    (rw (c.from_to-limits.ensures, c.allowance_of-allowed.ensures) at c.optional_whole.ensures.walks)
