use Rattle.std.proofs.Common.{◌≡◌, ◌<◌, ◌^◌, length, arith, rules}
use Rattle.std.proofs.lemmas.Int.{ints}
use Rattle.pic_walk.proofs.ArrayLaws.{count_of_items-view}
use Rattle.pic_walk.proofs.TableLaws.{key_at-top}
use Rattle.pic_walk.proofs.WalkLaws.{goes_on, exits, exits_as}
use Rattle.pic_deck.specs.Keys.{species_list}
use Rattle.pic_walk.proofs.ListLaws.{counted}
use Rattle.pic_deck.proofs.species_reader.read_all_species.Goals as goal

pub returns-in_err-items-clause-walks : goal.returns-in_err-items-clause-walks
unfolding species_list
returns-in_err-items-clause-walks c = exits _ _ c.from_residual.ensures.1 (rw (c.new-address.ensures.path, key_at-top) at c.in_err-items.ensures)

pub returns-in_err-check_within-clause-walks : goal.returns-in_err-check_within-clause-walks
unfolding species_list
returns-in_err-check_within-clause-walks c =
    let is : c.len.result ≡ length c.in_ok-items.items.now.items = search rules in
    let few : c.len.result < 2 ^ 64 = search rules in
    let size = counted c.len.result _ few is in
    goes_on _ _ _ (rw (c.new-address.ensures.path, key_at-top) at c.in_ok-items.ensures.answer)
    (rw (count_of_items-view c.in_ok-items.items.now.items)
    (exits _ _ c.from_residual-in_err-check_within.ensures.1 (rw (c.new-address.ensures.path, key_at-top, c.new.ensures, size) at
    c.in_err-check_within.ensures.walks)))

pub read_each_species-requires-clause-few : goal.read_each_species-requires-clause-few
read_each_species-requires-clause-few c =
    let is : c.len.result ≡ length c.in_ok-items.items.now.items = search rules in
    let few : c.len.result < 2 ^ 64 = search rules in
    let size = counted c.len.result _ few is in
    let inside = rw (c.new.ensures, size) at c.in_ok-check_within.ensures.bounds in
    omega (arith, ints, inside.high)

pub returns-in_err-species-clause-walks : goal.returns-in_err-species-clause-walks
unfolding species_list
returns-in_err-species-clause-walks c =
    let is : c.len.result ≡ length c.in_ok-items.items.now.items = search rules in
    let few : c.len.result < 2 ^ 64 = search rules in
    let size = counted c.len.result _ few is in
    goes_on _ _ _ (rw (c.new-address.ensures.path, key_at-top) at c.in_ok-items.ensures.answer)
    (rw (count_of_items-view c.in_ok-items.items.now.items)
    (goes_on _ _ _ (rw (c.new-address.ensures.path, key_at-top, c.new.ensures, size) at c.in_ok-check_within.ensures.walks.answer)
    (exits_as _ c.from_residual-in_err-species.ensures.1 (rw (c.new-address.ensures.path, key_at-top) at c.in_err-species.ensures.walks))))

pub returns-clause-walks : goal.returns-clause-walks
unfolding species_list
returns-clause-walks c =
    let is : c.len.result ≡ length c.in_ok-items.items.now.items = search rules in
    let few : c.len.result < 2 ^ 64 = search rules in
    let size = counted c.len.result _ few is in
    goes_on _ _ _ (rw (c.new-address.ensures.path, key_at-top) at c.in_ok-items.ensures.answer)
    (rw (count_of_items-view c.in_ok-items.items.now.items)
    (goes_on _ _ _ (rw (c.new-address.ensures.path, key_at-top, c.new.ensures, size) at c.in_ok-check_within.ensures.walks.answer)
    (rw c.from_vec.ensures (record { answer = rw (c.new-address.ensures.path, key_at-top) at c.in_ok-species.ensures.walks.answer }))))
