use Rattle.std.proofs.Common.{◌+◌, ◌*◌, ◌^◌, ◌∙◌, ap, arith}
use Rattle.pic_num.specs.Space.{Triple, triple}
use Rattle.pic_grid.specs.Differences.{up}
use Rattle.pic_drive.specs.Drive.{wave_at}
use Rattle.pic_drive.proofs.DriveLaws.{wave_small}
use Rattle.pic_drive.proofs.NumberLaws.{Number, number}
use Rattle.pic_drive.proofs.RaiseLaws.{edge_small, raised_by}
use Rattle.pic_drive.proofs.driving.raise_by.Goals as goal
use Rattle.pic_drive.proofs.driving.raise_by.Goals.{After-number_in-value}

here : (c : After-number_in-value) → Number (wave_at c.args.step c.args.one.now) c.number_in-value.result
here c = number _ c.number_in-value.result (wave_small c.args.e.now.cells c.args.one.now c.args.step c.requires.within) c.number_in-value.ensures

pub add-requires-2-clause-small : goal.add-requires-2-clause-small
add-requires-2-clause-small c =
    let n = here (goal.at.add-requires-2-clause-small c).After-number_in-value in
    edge_small _ _ _ _ _ (2 ^ 100) (2 ^ 60) _ c.add.ensures c.requires.small n.own_size (omega arith)

pub add-requires-3-clause-small : goal.add-requires-3-clause-small
add-requires-3-clause-small c =
    let n = here (goal.at.add-requires-3-clause-small c).After-number_in-value in
    let one = edge_small _ _ _ _ _ (2 ^ 100) (2 ^ 60) (2 ^ 100 + 2 ^ 60) c.add.ensures c.requires.small n.own_size (omega arith) in
    edge_small _ _ _ _ _ (2 ^ 100 + 2 ^ 60) (2 ^ 60) _ c.add-2.ensures one n.turned_size (omega arith)

pub add-requires-4-clause-small : goal.add-requires-4-clause-small
add-requires-4-clause-small c =
    let n = here (goal.at.add-requires-4-clause-small c).After-number_in-value in
    let one = edge_small _ _ _ _ _ (2 ^ 100) (2 ^ 60) (2 ^ 100 + 2 ^ 60) c.add.ensures c.requires.small n.own_size (omega arith) in
    let two = edge_small _ _ _ _ _ (2 ^ 100 + 2 ^ 60) (2 ^ 60) (2 ^ 100 + 2 * 2 ^ 60) c.add-2.ensures one n.turned_size (omega arith) in
    edge_small _ _ _ _ _ (2 ^ 100 + 2 * 2 ^ 60) (2 ^ 60) _ c.add-3.ensures two n.turned_size (omega arith)

pub returns : goal.returns
returns c =
    let v = wave_at c.args.step c.args.one.now in
    let p = triple c.args.one.now.cell in
    let n = here (goal.at.returns c).After-number_in-value in
    let cells = c.cells-cells.ensures.value in
    raised_by c.args.e.now c.add.new.to c.add-2.new.to c.add-3.new.to c.add-4.new.to c.args.one.now.axis c.next-second.result c.next-third.result
    p (triple c.up.result) (triple c.up-2.result) _ v _ c.next-second.ensures c.next-third.ensures
    (c.up.ensures.value ∙ ap (λ (m : Triple). up m c.next-third.result p) cells) (c.up-2.ensures.value ∙ ap (λ (m : Triple). up m c.next-second.result p) cells)
    n.same n.turned c.requires.within.within c.add.ensures c.add-2.ensures c.add-3.ensures c.add-4.ensures
