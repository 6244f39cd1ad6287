use Rattle.pic_gather.proofs.WordLaws.{gathers}
use Rattle.pic_gather.proofs.gathering.components.Goals as goal

pub returns-clause-value : goal.returns-clause-value
returns-clause-value c =
    let x = c.component in
    let y = c.component-2 in
    let z = c.component-3 in
    gathers c.args.force.now c.args.own c.args.others x.result y.result z.result
    (record { fits = record { sfits = x.type_inv }; value = x.ensures.value })
    (record { fits = record { sfits = y.type_inv }; value = y.ensures.value })
    (record { fits = record { sfits = z.type_inv }; value = z.ensures.value })
