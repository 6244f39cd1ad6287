use Rattle.std.proofs.Common.{◌∙◌, refl}
use Rattle.std.proofs.lemmas.Int.{to_z-of_z}
use Rattle.std.proofs.lemmas.List.{get_or_default}
use mir.Syntax.{w32}
use Rattle.pic_deck.specs.Fill.{displaced}
use Rattle.pic_deck.specs.Species.{no_species}
use Rattle.pic_walk.proofs.WalkLaws.{goes_on, exits}
use Rattle.pic_deck.proofs.fill_reader.read_displaced.Goals as goal

pub returns-in_err-table-clause-walks : goal.returns-in_err-table-clause-walks
unfolding displaced
returns-in_err-table-clause-walks c =
    exits _ _ c.from_residual-in_err-table.ensures.1 (rw (c.as_str.ensures, c.in_ok-own.ensures, c.new-address.ensures.path) at c.in_err-table.ensures)

pub returns-in_err-number-clause-walks : goal.returns-in_err-number-clause-walks
unfolding displaced
returns-in_err-number-clause-walks c =
    goes_on _ _ _ (rw (c.as_str.ensures, c.in_ok-own.ensures, c.new-address.ensures.path) at c.in_ok-table.ensures.answer)
    (exits _ _ c.from_residual-in_err-number.ensures.1
    (rw (c.as_str-2.ensures, c.in_ok-own.ensures, c.new-address.ensures.path) at c.in_err-number.ensures.walks))

pub returns-in_err-check_opposite-clause-walks : goal.returns-in_err-check_opposite-clause-walks
unfolding displaced
returns-in_err-check_opposite-clause-walks c =
    let charge = to_z-of_z w32 c.args.charge c.ranges.charge in
    let other = c.index-earlier-number.is
    ∙ get_or_default c.args.earlier.now c.in_ok-number.number c.index-earlier-number.result no_species c.in_ok-number.ensures.below in
    goes_on _ _ _ (rw (c.as_str.ensures, c.in_ok-own.ensures, c.new-address.ensures.path) at c.in_ok-table.ensures.answer)
    (goes_on _ _ _ (rw (c.as_str-2.ensures, c.in_ok-own.ensures, c.new-address.ensures.path) at c.in_ok-number.ensures.walks.answer)
    (exits _ _ c.from_residual-in_err-check_opposite.ensures.1 (rw (other, charge) at c.in_err-check_opposite.ensures.walks)))

pub returns-in_err-displacement-clause-walks : goal.returns-in_err-displacement-clause-walks
unfolding displaced
returns-in_err-displacement-clause-walks c =
    let charge = to_z-of_z w32 c.args.charge c.ranges.charge in
    let other = c.index-earlier-number.is
    ∙ get_or_default c.args.earlier.now c.in_ok-number.number c.index-earlier-number.result no_species c.in_ok-number.ensures.below in
    goes_on _ _ _ (rw (c.as_str.ensures, c.in_ok-own.ensures, c.new-address.ensures.path) at c.in_ok-table.ensures.answer)
    (goes_on _ _ _ (rw (c.as_str-2.ensures, c.in_ok-own.ensures, c.new-address.ensures.path) at c.in_ok-number.ensures.walks.answer)
    (goes_on _ _ _ (rw (other, charge) at c.in_ok-check_opposite.ensures.walks.answer)
    (exits _ _ c.from_residual-in_err-displacement.ensures.1
    (rw (c.as_str-3.ensures, c.in_ok-own.ensures, c.new-address.ensures.path, c.cells.ensures) at c.in_err-displacement.ensures.walks))))

pub returns-clause-walks : goal.returns-clause-walks
unfolding displaced
returns-clause-walks c =
    let charge = to_z-of_z w32 c.args.charge c.ranges.charge in
    let other = c.index-earlier-number.is
    ∙ get_or_default c.args.earlier.now c.in_ok-number.number c.index-earlier-number.result no_species c.in_ok-number.ensures.below in
    goes_on _ _ _ (rw (c.as_str.ensures, c.in_ok-own.ensures, c.new-address.ensures.path) at c.in_ok-table.ensures.answer)
    (goes_on _ _ _ (rw (c.as_str-2.ensures, c.in_ok-own.ensures, c.new-address.ensures.path) at c.in_ok-number.ensures.walks.answer)
    (goes_on _ _ _ (rw (other, charge) at c.in_ok-check_opposite.ensures.walks.answer)
    (goes_on _ _ _ (rw (c.as_str-3.ensures, c.in_ok-own.ensures, c.new-address.ensures.path, c.cells.ensures) at c.in_ok-displacement.ensures.walks.answer)
    (record { answer = refl }))))

pub returns-clause-opposite : goal.returns-clause-opposite
returns-clause-opposite c =
    let charge = to_z-of_z w32 c.args.charge c.ranges.charge in
    let other = c.index-earlier-number.is
    ∙ get_or_default c.args.earlier.now c.in_ok-number.number c.index-earlier-number.result no_species c.in_ok-number.ensures.below in
    rw (other, charge) at c.in_ok-check_opposite.ensures.is
