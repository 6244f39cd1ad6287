use Rattle.std.proofs.Common.{◌≡◌, ◌<◌, ◌^◌, length, arith, rules}
use Rattle.std.proofs.lemmas.Int.{ints}
use Rattle.pic_walk.proofs.ArrayLaws.{count_of_items-view}
use Rattle.pic_walk.proofs.ListLaws.{counted}
use Rattle.pic_walk.proofs.TableLaws.{key_at-top}
use Rattle.pic_walk.proofs.WalkLaws.{goes_on, exits, exits_as}
use Rattle.pic_devices.specs.Drive.{drive_list}
use Rattle.pic_devices.proofs.drive_reader.read_drive.Goals as goal

pub returns-in_err-items-clause-walks : goal.returns-in_err-items-clause-walks
unfolding drive_list
returns-in_err-items-clause-walks c = exits _ _ c.from_residual.ensures.1 (rw (c.new-address.ensures.path, key_at-top) at c.in_err-items.ensures)

pub returns-in_err-check_within-clause-walks : goal.returns-in_err-check_within-clause-walks
unfolding drive_list
returns-in_err-check_within-clause-walks c =
    let is : c.len.result ≡ length c.in_ok-items.items.now.items = search rules in
    let few : c.len.result < 2 ^ 64 = search rules in
    let size = counted c.len.result _ few is in
    goes_on _ _ _ (rw (c.new-address.ensures.path, key_at-top) at c.in_ok-items.ensures.answer)
    (rw (count_of_items-view c.in_ok-items.items.now.items)
    (exits _ _ c.from_residual-in_err-check_within.ensures.1 (rw (c.new-address.ensures.path, key_at-top, c.from_to-limits.ensures, size) at
    c.in_err-check_within.ensures.walks)))

pub returns-in_err-loops-clause-walks : goal.returns-in_err-loops-clause-walks
unfolding drive_list
returns-in_err-loops-clause-walks c =
    let is : c.len.result ≡ length c.in_ok-items.items.now.items = search rules in
    let few : c.len.result < 2 ^ 64 = search rules in
    let size = counted c.len.result _ few is in
    goes_on _ _ _ (rw (c.new-address.ensures.path, key_at-top) at c.in_ok-items.ensures.answer)
    (rw (count_of_items-view c.in_ok-items.items.now.items)
    (goes_on _ _ _ (rw (c.new-address.ensures.path, key_at-top, c.from_to-limits.ensures, size) at c.in_ok-check_within.ensures.walks.answer)
    (exits_as _ c.from_residual-in_err-loops.ensures.1 (rw (c.new-address.ensures.path, key_at-top) at c.in_err-loops.ensures.walks))))

pub returns-clause-walks : goal.returns-clause-walks
unfolding drive_list
returns-clause-walks c =
    let is : c.len.result ≡ length c.in_ok-items.items.now.items = search rules in
    let few : c.len.result < 2 ^ 64 = search rules in
    let size = counted c.len.result _ few is in
    goes_on _ _ _ (rw (c.new-address.ensures.path, key_at-top) at c.in_ok-items.ensures.answer)
    (rw (count_of_items-view c.in_ok-items.items.now.items)
    (goes_on _ _ _ (rw (c.new-address.ensures.path, key_at-top, c.from_to-limits.ensures, size) at c.in_ok-check_within.ensures.walks.answer)
    (rw c.from_vec.ensures (record { answer = rw (c.new-address.ensures.path, key_at-top) at c.in_ok-loops.ensures.walks.answer }))))

pub returns-clause-limits : goal.returns-clause-limits
returns-clause-limits c =
    let is : c.len.result ≡ length c.in_ok-items.items.now.items = search rules in
    let small : c.len.result < 2 ^ 64 = search rules in
    let size = counted c.len.result _ small is in
    let inside = rw (c.from_to-limits.ensures, size) at c.in_ok-check_within.ensures.bounds in
    rw c.from_vec.ensures (record {
      few = omega (arith, ints, inside.high, c.in_ok-loops.ensures.count);
      each = c.in_ok-loops.ensures.limits;
    })
