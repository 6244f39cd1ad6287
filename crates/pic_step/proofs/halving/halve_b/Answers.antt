use Rattle.std.proofs.Common.{sym, subst}
use Rattle.pic_grid.specs.declared.stop.Phase.TheVariants.{Half1}
use Rattle.pic_grid.specs.Lattice.{value_at}
use Rattle.pic_field.specs.FieldPhases.{half_of}
use Rattle.pic_tile.specs.Frame.{IsForceField}
use Rattle.pic_tile.specs.Tiling.{Tiling, grid_of_tiling}
use Rattle.pic_advance.specs.Halves.{between}
use Rattle.pic_step.specs.Kept.{IsCut}
use Rattle.pic_step.specs.Sound.{IsSafe}
use Rattle.pic_step.proofs.PushPhaseLaws.{forced, force_field}
use Rattle.pic_step.proofs.SoundLaws.{safe_after}
use Rattle.pic_step.proofs.halving.halve_b.Goals as goal
use Rattle.pic_step.proofs.halving.halve_b.Goals.{In_ok-b}

-- B between both half steps is cut into layers, and its values pass no bound
pub new-requires-clause-b : goal.new-requires-clause-b
new-requires-clause-b g c =
    let m = c.args.plasma.frame.map in
    let scales = c.args.scales.now in
    let e = c.args.e.now in
    let b = c.args.b in
    let f = between scales e b in
    let cut = c.requires.cut in
    let layers : IsCut m f = record { cells = cut.of_e.cells; side = cut.of_e.side; parts = cut.of_b.parts } in
    let safe : IsSafe scales.b_force f = record {
      bounded = (safe_after Half1 scales.b_force e.side e.cells (λ a p. half_of scales e a p (value_at b a p)) c.in_ok-b.ensures.0.1).bounded;
    } in
    subst (λ (n : Tiling). IsForceField (grid_of_tiling n) c.in_ok-b.field-0.force) (sym c.map-map.ensures.value)
    (force_field m scales.b_force f c.in_ok-b.field-0.force layers safe
    (forced m scales.b_force f c.in_ok-b.field-0.force b.parts layers cut.of_b.parts c.in_ok-b.ensures.1))
