use Rattle.std.proofs.Common.{◌≡◌, ◌<◌, ◌^◌, length, Ok, ap, sym, rules}
use Rattle.pic_walk.proofs.ListLaws.{counted as counted_as}
use Rattle.pic_walk.proofs.WalkLaws.{goes_on, exits}
use Rattle.pic_devices.specs.Lists.{counted}
use Rattle.pic_devices.proofs.list_reader.counted.Goals as goal

pub returns-in_err-check_within-clause-walks : goal.returns-in_err-check_within-clause-walks
unfolding counted
returns-in_err-check_within-clause-walks g c =
    let is : c.len.result ≡ length c.args.items.items = search rules in
    let few : c.len.result < 2 ^ 64 = search rules in
    let size = counted_as c.len.result _ few is in
    exits _ _ c.from_residual.ensures.1 (rw size at c.in_err-check_within.ensures.walks)

pub returns-clause-walks : goal.returns-clause-walks
unfolding counted
returns-clause-walks g c =
    let is : c.len.result ≡ length c.args.items.items = search rules in
    let few : c.len.result < 2 ^ 64 = search rules in
    let size = counted_as c.len.result _ few is in
    goes_on _ _ _ (rw size at c.in_ok-check_within.ensures.walks.answer) (record { answer = ap Ok (sym c.from_vec.ensures) })

pub returns-clause-bounds : goal.returns-clause-bounds
returns-clause-bounds g c =
    let is : c.len.result ≡ length c.args.items.items = search rules in
    let few : c.len.result < 2 ^ 64 = search rules in
    let size = counted_as c.len.result _ few is in
    rw c.from_vec.ensures (rw size at c.in_ok-check_within.ensures.bounds)
