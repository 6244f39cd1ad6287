use Rattle.std.proofs.Common.{◌≡◌, Option, sym, ap, ◌∙◌, subst, arith}
use Rattle.pic_num.specs.declared.axis.Axis.{Axis}
use Rattle.pic_num.specs.Space.{Triple}
use Rattle.pic_block.specs.Cells.{IsWithin}
use Rattle.pic_grid.specs.declared.stop.Phase.TheVariants.{Electric}
use Rattle.pic_grid.specs.Lattice.{Field, value_at}
use Rattle.pic_grid.proofs.LatticeLaws.{value_at-field_of}
use Rattle.pic_filter.specs.Smoothing.{filtered, filter_in, smoothed_each}
use Rattle.pic_field.specs.FieldPhases.{full_of, no_drive}
use Rattle.pic_advance.specs.Phases.{Advances}
use Rattle.pic_advance.proofs.SamePhaseLaws.{advances_same}
use Rattle.pic_advance.proofs.driving.drive_e.Goals as goal

pub advance_e-e-requires-clause-current : goal.advance_e-e-requires-clause-current
advance_e-e-requires-clause-current g c κs within = record {
  cells = ap (λ (f : Field). f.cells) c.filter_current-filtered.ensures.filtered ∙ c.requires.flux;
  small = record {
    at_most = λ a p inside. let h = c.filter_current-filtered.ensures.small.at_most a p inside in record { size = omega (arith, h.size) };
  };
}

pub returns-in-None-clause-fields : goal.returns-in-None-clause-fields
unfolding filtered
returns-in-None-clause-fields g c =
    let s = c.args.scales.now in
    let b = c.args.b.now in
    let e = c.args.e in
    let flux = c.args.current.flux in
    subst (λ (o : Option Field). Advances Electric s.e_force b.side b.cells e.parts
    (λ a p. full_of s b no_drive a p (value_at e a p) (filtered (filter_in o) b.cells (value_at flux a) p)) c.drive_by-e.result.0)
    (sym c.in-None.is) c.drive_by-e.ensures.fields

pub returns-in-Some-clause-fields : goal.returns-in-Some-clause-fields
unfolding filtered
returns-in-Some-clause-fields g c =
    let s = c.args.scales.now in
    let b = c.args.b.now in
    let e = c.args.e in
    let flux = c.args.current.flux in
    let smooth = c.filter_current-filtered.result.0 in
    let r = c.advance_e-e.result in
    let same : (a : Axis) (p : Triple) → IsWithin p b.cells → value_at smooth a p ≡ filtered 1 b.cells (value_at flux a) p = λ a p within.
    ap (λ (f : Field). value_at f a p) c.filter_current-filtered.ensures.filtered
    ∙ value_at-field_of flux.side flux.cells c.in-Some.room.parts (smoothed_each flux.cells (value_at flux)) a p
    (subst (IsWithin p) (sym c.requires.flux) within)
    ∙ ap (λ (n : Triple). filtered 1 n (value_at flux a) p) c.requires.flux in
    subst (λ (o : Option Field). Advances Electric s.e_force b.side b.cells e.parts
    (λ a p. full_of s b no_drive a p (value_at e a p) (filtered (filter_in o) b.cells (value_at flux a) p)) r)
    (sym c.in-Some.is)
    (advances_same Electric s.e_force b.side b.cells e.parts (λ a p. full_of s b no_drive a p (value_at e a p) (value_at smooth a p))
    (λ a p. full_of s b no_drive a p (value_at e a p) (filtered 1 b.cells (value_at flux a) p)) r
    (λ a p within. ap (full_of s b no_drive a p (value_at e a p)) (same a p within)) c.advance_e-e.ensures)
