use Rattle.std.proofs.Common.{sym, ap, ◌∙◌}
use Rattle.pic_block.specs.Cells.{Grid}
use Rattle.pic_grid.specs.Lattice.{Field, field_of}
use Rattle.pic_deck.specs.Deck.{initial_e, initial_b}
use Rattle.pic_step.specs.SerialStep.{world_of}
use Rattle.pic_step.proofs.StartLaws.{cut_as}
use Rattle.pic_step.proofs.start.Start.new.Goals as goal

pub initial-requires-clause-e_cells : goal.initial-requires-clause-e_cells
initial-requires-clause-e_cells c = c.in_ok-e.ensures.cut.cells ∙ ap (λ (g : Grid). g.n) c.in_ok-setup.ensures.cells

pub initial-requires-clause-b_cells : goal.initial-requires-clause-b_cells
initial-requires-clause-b_cells c = c.in_ok-b.ensures.cut.cells ∙ ap (λ (g : Grid). g.n) c.in_ok-setup.ensures.cells

pub returns-clause-map : goal.returns-clause-map
returns-clause-map c = c.in_ok-setup.ensures.map

pub returns-clause-cut : goal.returns-clause-cut
returns-clause-cut c =
    let d = c.args.deck.now in
    let m = c.in_ok-setup.setup.map in
    let e = c.in_ok-e.e in
    let b = c.in_ok-b.b in
    let cells = sym (ap (λ (g : Grid). g.n) c.in_ok-setup.ensures.cells) in
    record {
      of_e = cut_as m e (field_of e.side d.cells e.parts (initial_e d)) c.initial.new.e c.in_ok-e.ensures.cut cells c.initial.ensures.e;
      of_b = cut_as m b (field_of b.side d.cells b.parts (initial_b d)) c.initial.new.b c.in_ok-b.ensures.cut cells c.initial.ensures.b;
    }

pub returns-clause-start : goal.returns-clause-start
returns-clause-start c =
    let setup = c.in_ok-setup.ensures in
    let fields = c.initial.ensures in
    λ i. world_of 0 (setup.cells i) (setup.filter i) (setup.loops i) (setup.scales i) (setup.kinds i) (ap (λ (f : Field). f.values) fields.e i)
    (ap (λ (f : Field). f.values) fields.b i) c.args.particles.items
