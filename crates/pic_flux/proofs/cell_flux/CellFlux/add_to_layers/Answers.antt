use Rattle.std.proofs.Common.{ℕ, ◌+◌, ◌^◌, ◌*ℤ◌, subst, arith}
use Rattle.pic_num.specs.declared.axis.Axis.{Axis}
use Rattle.pic_num.specs.declared.axis.Axis.TheVariants.{X, Y, Z}
use Rattle.pic_num.specs.Space.{Spot}
use Rattle.pic_block.specs.Block.{BlockValues, IsShaped, AllAtMost}
use Rattle.pic_block.proofs.FourLaws.{carried_small}
use Rattle.pic_block.proofs.BlockLaws.{all_at_most_more, shaped_twice}
use Rattle.pic_flux.specs.Adds.{Adds}
use Rattle.pic_block.specs.Fours.{base_cell, AreSmall}
use Rattle.pic_block.specs.declared.fours.Four.{Four}
use Rattle.pic_flux.specs.CellFlux.{at_four}
use Rattle.pic_flux.specs.Corners.{both}
use Rattle.pic_flux.proofs.AddsLaws.{adds_twice, adds_grow}
use Rattle.pic_flux.proofs.EdgeLaws.{corners_most}
use Rattle.pic_flux.proofs.cell_flux.CellFlux.add_to_layers.Goals as goal

-- how far values may grow by those of four edges
grown : (old now : BlockValues) (axis : Axis) (cell : Spot) (f : Four) (n : ℕ) → AreSmall f → IsShaped old now → Adds old now (at_four axis cell f)
    → AllAtMost n old → AllAtMost (n + ((2 ^ 80 + 2 ^ 80) + (2 ^ 80 + 2 ^ 80))) now
grown old now axis cell f n small shape added room =
    adds_grow old now (at_four axis cell f) n ((2 ^ 80 + 2 ^ 80) + (2 ^ 80 + 2 ^ 80)) shape added
    (corners_most axis cell (f.by *ℤ f.low_low) (f.by *ℤ f.high_low) (f.by *ℤ f.low_high) (f.by *ℤ f.high_high) (2 ^ 80)
    (carried_small f.by f.low_low small.by small.low_low) (carried_small f.by f.high_low small.by small.high_low)
    (carried_small f.by f.low_high small.by small.low_high) (carried_small f.by f.high_high small.by small.high_high)) room

pub add_corners-requires-2-clause-room : goal.add_corners-requires-2-clause-room
add_corners-requires-2-clause-room c =
    let f = c.args.self.now in
    all_at_most_more c.add_corners.new.to (2 ^ 100 + 2 ^ 82) (2 ^ 110) (omega arith)
    (grown c.args.to.now c.add_corners.new.to X (base_cell c.base-at.result) f.x (2 ^ 100) c.requires.modest.x c.add_corners.ensures.shape
    c.add_corners.ensures.values c.requires.room)

pub add_corners-requires-3-clause-room : goal.add_corners-requires-3-clause-room
add_corners-requires-3-clause-room c =
    let f = c.args.self.now in
    let x = grown c.args.to.now c.add_corners.new.to X (base_cell c.base-at.result) f.x (2 ^ 100) c.requires.modest.x c.add_corners.ensures.shape
    c.add_corners.ensures.values c.requires.room in
    all_at_most_more c.add_corners-2.new.to (2 ^ 100 + 2 ^ 82 + 2 ^ 82) (2 ^ 110) (omega arith)
    (grown c.add_corners.new.to c.add_corners-2.new.to Y (base_cell c.base-at.result) f.y (2 ^ 100 + 2 ^ 82) c.requires.modest.y c.add_corners-2.ensures.shape
    c.add_corners-2.ensures.values x)

pub returns-clause-values : goal.returns-clause-values
returns-clause-values c =
    let f = c.args.self.now in
    let cell = base_cell c.base-at.result in
    let old = c.args.to.now in
    let x = c.add_corners.new.to in
    let y = c.add_corners-2.new.to in
    let now = c.add_corners-3.new.to in
    let all : Adds old now (both (both (at_four X cell f.x) (at_four Y cell f.y)) (at_four Z cell f.z)) =
    adds_twice old y now (both (at_four X cell f.x) (at_four Y cell f.y)) (at_four Z cell f.z)
    (shaped_twice old x y c.add_corners.ensures.shape c.add_corners-2.ensures.shape)
    (adds_twice old x y (at_four X cell f.x) (at_four Y cell f.y) c.add_corners.ensures.shape c.add_corners.ensures.values c.add_corners-2.ensures.values)
    c.add_corners-3.ensures.values in
    subst (λ (d : Spot). Adds old now (both (both (at_four X d f.x) (at_four Y d f.y)) (at_four Z d f.z))) c.base-at.ensures.cell all
