use Rattle.std.proofs.Common.{◌≡◌, pos, sym, ap, ◌∙◌, subst}
use Rattle.pic_num.specs.declared.axis.Axis.{Axis}
use Rattle.pic_num.specs.Space.{Triple}
use Rattle.pic_block.specs.Cells.{IsWithin}
use Rattle.pic_grid.specs.declared.stop.Phase.TheVariants.{Electric}
use Rattle.pic_grid.specs.Lattice.{Field, value_at}
use Rattle.pic_grid.proofs.LatticeLaws.{value_at-field_of}
use Rattle.pic_field.specs.FieldPhases.{full_of, no_current, no_drive}
use Rattle.pic_advance.specs.Driven.{full_all}
use Rattle.pic_advance.specs.Phases.{Advances}
use Rattle.pic_advance.proofs.SamePhaseLaws.{advances_same}
use Rattle.pic_advance.proofs.driving.drive_by.Goals as goal

pub returns-then-blank-clause-fields : goal.returns-then-blank-clause-fields
returns-then-blank-clause-fields g c =
    let s = c.args.scales.now in
    let b = c.args.b.now in
    let e = c.args.e in
    let flux = c.args.flux in
    let none : (a : Axis) (p : Triple) → IsWithin p b.cells → pos 0 ≡ value_at flux a p = λ a p within.
    sym (ap (λ (f : Field). value_at f a p) (c.known_blank-flux.ensures.blank c.if-blank.true)
    ∙ value_at-field_of flux.side flux.cells flux.parts (λ c q. pos 0) a p (subst (IsWithin p) (sym c.requires.flux) within)) in
    advances_same Electric s.e_force b.side b.cells e.parts (full_all s b no_current e) (full_all s b (value_at flux) e) c.advance_e-e.result
    (λ a p within. ap (full_of s b no_drive a p (value_at e a p)) (none a p within)) c.advance_e-e.ensures

pub returns-clause-fields : goal.returns-clause-fields
returns-clause-fields g c =
    let s = c.args.scales.now in
    let b = c.args.b.now in
    let e = c.args.e in
    subst (λ (j : Field). Advances Electric s.e_force b.side b.cells e.parts (full_all s b (value_at j) e) c.advance_e-e-2.result)
    c.known_blank-flux.ensures.same c.advance_e-e-2.ensures
