use Rattle.std.proofs.Common.{refl, arith}
use Rattle.pic_board_tests.proofs.BeginLaws.{near_in_box, opening_two}
use Rattle.pic_board_tests.proofs.opening.begin.Goals as goal

pub returns : goal.returns
returns c =
    let f = c.in_ok-frame.frame in
    let m = c.args.map in
    let two = c.in_ok-frame.ensures.kinds in
    opening_two f m _ _ c.in_ok-tiles.tiles.items c.sound.ensures c.in_ok-frame.ensures.map c.in_ok-tiles.ensures refl refl
    (omega (arith, two)) (omega (arith, two))
    (near_in_box m 1024 c.requires.side c.requires.cells (omega arith)) (near_in_box m 100 c.requires.side c.requires.cells (omega arith))
