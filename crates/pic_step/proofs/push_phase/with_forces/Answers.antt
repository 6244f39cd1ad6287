use Rattle.std.proofs.Common.{◌≡◌, sym, ap, ◌∙◌, subst}
use Rattle.pic_block.specs.Cells.{Grid}
use Rattle.pic_grid.specs.Gather.{force_of}
use Rattle.pic_grid.specs.Lattice.{value_at, field_of}
use Rattle.pic_grid.specs.Parts.{layered}
use Rattle.pic_tile.specs.Frame.{FrameValue, IsForceField}
use Rattle.pic_tile.specs.Tiling.{Tiling, cells_of, grid_of_tiling}
use Rattle.pic_step.proofs.OnePartLaws.{safe_small}
use Rattle.pic_step.proofs.PushPhaseLaws.{forced, force_field}
use Rattle.pic_step.proofs.push_phase.with_forces.Given.{Over}
use Rattle.pic_step.proofs.push_phase.with_forces.Goals as goal
use Rattle.pic_step.proofs.push_phase.with_forces.Goals.{After-force_values-force_e}

-- the force values of E, on the cells of the map
of_e : (g : Over) (c : After-force_values-force_e g) → c.force_values-force_e.result
    ≡ field_of c.args.frame.map.side (cells_of c.args.frame.map) (layered (cells_of c.args.frame.map))
    (force_of c.args.scales.now.e_force (value_at c.args.e.now))
of_e g c =
    forced c.args.frame.map c.args.scales.now.e_force c.args.e.now c.force_values-force_e.result c.into_parts-kinds.result.1.parts
    c.requires.cut
    (ap (λ f. f.parts) c.into_parts-kinds.ensures.e ∙ c.requires.parts) c.force_values-force_e.ensures

-- a frame's lattices have the cells of its map, as E has
pub force_values-force_e-requires-clause-cells : goal.force_values-force_e-requires-clause-cells
force_values-force_e-requires-clause-cells g c κs within =
    let had = c.into_parts-kinds.ensures.frame in
    ap (λ f. f.cells) c.into_parts-kinds.ensures.e ∙ had.e.cells_are ∙ sym (ap (λ n. n.n) had.map_is) ∙ sym c.requires.cut.cells

pub force_values-force_e-requires-clause-small : goal.force_values-force_e-requires-clause-small
force_values-force_e-requires-clause-small g c κs within = safe_small c.args.scales.now.e_force c.args.e.now c.requires.safe

pub new-requires-clause-e : goal.new-requires-clause-e
new-requires-clause-e g c =
    subst (λ (m : Tiling). IsForceField (grid_of_tiling m) c.force_values-force_e.result) (sym c.map-map.ensures.value)
    (force_field c.args.frame.map c.args.scales.now.e_force c.args.e.now c.force_values-force_e.result c.requires.cut c.requires.safe
    (of_e g (goal.at.new-requires-clause-e g c).After-force_values-force_e))

pub new-requires-clause-b : goal.new-requires-clause-b
new-requires-clause-b g c =
    let had = c.into_parts-kinds.ensures.frame in
    subst (λ (m : Tiling). IsForceField (grid_of_tiling m) c.into_parts-kinds.result.2) (sym c.map-map.ensures.value)
    (subst (λ (n : Grid). IsForceField n c.into_parts-kinds.result.2) (sym had.map_is)
    (subst (IsForceField c.args.frame.cells) (sym c.into_parts-kinds.ensures.b) had.b))

pub new-requires-clause-parts : goal.new-requires-clause-parts
new-requires-clause-parts g c =
    let at = goal.at.new-requires-clause-parts g c in
    ap (λ f. f.parts) c.into_parts-kinds.ensures.b ∙ c.into_parts-kinds.ensures.frame.parts ∙ c.requires.parts
    ∙ sym (ap (λ f. f.parts) (of_e g at.After-force_values-force_e))

pub returns : goal.returns
returns g c =
    let at = goal.at.returns g c in
    let is_e = of_e g at.After-force_values-force_e in
    let map = c.map-map.ensures.value in
    let made : FrameValue = record {
      cells = grid_of_tiling c.map-map.result.now;
      map = c.map-map.result.now;
      kinds = c.into_parts-kinds.result.0;
      force_e = c.force_values-force_e.result;
      force_b = c.into_parts-kinds.result.2;
    } in
    ◌∙◌ {b = made} c.new.ensures (λ i. record {
      cells = grid_of_tiling (map i);
      map = map i;
      kinds = c.into_parts-kinds.ensures.kinds i;
      force_e = is_e i;
      force_b = c.into_parts-kinds.ensures.b i;
    })
