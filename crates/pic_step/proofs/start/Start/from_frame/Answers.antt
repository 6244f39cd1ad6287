use Rattle.std.proofs.Common.{refl, sym, ap, ◌∙◌}
use Rattle.pic_grid.specs.Lattice.{Field}
use Rattle.pic_tile.specs.Tiling.{grid_of_tiling}
use Rattle.pic_step.specs.SerialStep.{world_of}
use Rattle.pic_step.proofs.StartLaws.{cut_as}
use Rattle.pic_step.proofs.start.Start.from_frame.Goals as goal

pub copy_from-requires : goal.copy_from-requires
copy_from-requires c = c.in_ok-e.ensures.cut.cells ∙ sym c.requires.e_cells

pub copy_from-requires-2 : goal.copy_from-requires-2
copy_from-requires-2 c = c.in_ok-b.ensures.cut.cells ∙ sym c.requires.b_cells

pub returns-clause-map : goal.returns-clause-map
returns-clause-map c = refl

pub returns-clause-cut : goal.returns-clause-cut
returns-clause-cut c = record {
  of_e = cut_as c.args.setup.now.map c.in_ok-e.e c.args.frame.now.e c.copy_from.new.self c.in_ok-e.ensures.cut c.requires.e_cells c.copy_from.ensures;
  of_b = cut_as c.args.setup.now.map c.in_ok-b.b c.args.frame.now.b c.copy_from-2.new.self c.in_ok-b.ensures.cut c.requires.b_cells
      c.copy_from-2.ensures;
}

pub returns-clause-start : goal.returns-clause-start
returns-clause-start c =
    let s = c.args.setup.now in
    let loops = c.in_ok-copy_loops.ensures ∙ c.as_slice-2.ensures in
    let particles = c.in_ok-particles.ensures.items ∙ c.as_slice.ensures.value in
    let e = ap (λ (f : Field). f.values) c.copy_from.ensures in
    let b = ap (λ (f : Field). f.values) c.copy_from-2.ensures in
    λ i. world_of c.args.step (grid_of_tiling s.map) s.filter (loops i) s.scales (c.in_ok-kinds.ensures i) (e i) (b i) (particles i)
