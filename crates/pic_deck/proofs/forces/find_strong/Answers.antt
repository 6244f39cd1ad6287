use Rattle.std.proofs.Common.{◌∙◌, refl, sym, ap}
use Rattle.std.proofs.lemmas.Bool.{eqb-true}
use Rattle.pic_num.specs.Space.{spot}
use Rattle.pic_grid.specs.Lattice.{Field}
use Rattle.pic_deck.specs.Initial.{set_up}
use Rattle.pic_deck.proofs.ForceLaws.{zero_mild, zero_set_up, no_forces, first_of_field, size_of_field, IsMild-from}
use Rattle.pic_deck.proofs.forces.find_strong.Goals as goal

pub returns-then-is_empty-clause-value : goal.returns-then-is_empty-clause-value
returns-then-is_empty-clause-value c =
    let zero = zero_set_up _ c.args.rows.now (c.if-is_zero.ensures refl) (eqb-true _ _ (sym c.if-is_empty.ensures)) in
    sym (no_forces c.args.cells.n c.args.by _ zero)

pub returns-then-is_empty-clause-mild : goal.returns-then-is_empty-clause-mild
returns-then-is_empty-clause-mild c =
    λ _. zero_mild _ _ _ (zero_set_up _ c.args.rows.now (c.if-is_zero.ensures refl) (eqb-true _ _ (sym c.if-is_empty.ensures)))

pub first_strong-requires : goal.first_strong-requires
first_strong-requires c =
    let f = c.in_ok-field.field in
    size_of_field _ f.side f.cells f.parts _ c.fill.ensures.value c.fill.ensures.size

pub returns-clause-value : goal.returns-clause-value
returns-clause-value c =
    let cells = ap (λ (f : Field). f.cells) c.in_ok-field.ensures in
    let f = c.in_ok-field.field in
    c.first_strong.ensures ∙ first_of_field _ f.side f.cells f.parts c.args.cells.n c.args.by
    (set_up (spot c.args.numbers) c.args.rows.now) c.fill.ensures.value cells

pub returns-clause-mild : goal.returns-clause-mild
returns-clause-mild c =
    let cells = ap (λ (f : Field). f.cells) c.in_ok-field.ensures in
    λ none. IsMild-from c.args.cells.n c.args.by _ (rw cells at c.fill.ensures.size) (sym (returns-clause-value c) ∙ none)
