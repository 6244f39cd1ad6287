use Rattle.std.proofs.Common.{◌≡◌, ◌≢◌, sym, length, rules}
use Rattle.pic_walk.specs.Walk.{fixed}
use Rattle.pic_walk.proofs.ArrayLaws.{right_length, wrong_length}
use Rattle.pic_walk.proofs.WalkLaws.{goes_on, refuses, there, lacks, then_err}
use Rattle.pic_walk.proofs.numbers.read_array.Goals as goal

pub returns-then-len-clause-walks : goal.returns-then-len-clause-walks
unfolding fixed
returns-then-len-clause-walks c =
    let same : length c.in-Some.items.now.items ≡ c.args.len = search rules in
    goes_on _ _ _ (there _ _ _ (sym c.in-Some.ensures)) (record { answer = right_length _ _ _ same })

pub returns-else-len-clause-walks : goal.returns-else-len-clause-walks
unfolding fixed
returns-else-len-clause-walks c =
    let other : length c.in-Some.items.now.items ≢ c.args.len = search rules in
    goes_on _ _ _ (there _ _ _ (sym c.in-Some.ensures)) (refuses _ _ _ c.kind_fault.ensures (wrong_length _ _ _ other))

pub returns-in-None-clause-walks : goal.returns-in-None-clause-walks
unfolding fixed
returns-in-None-clause-walks c = refuses _ _ _ c.kind_fault-in-None.ensures (then_err _ _ _ (lacks _ _ (sym c.in-None.ensures)))
