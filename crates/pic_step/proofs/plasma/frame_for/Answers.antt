use Rattle.std.proofs.Common.{refl, sym, ap, ◌∙◌}
use Rattle.pic_grid.specs.Parts.{layered}
use Rattle.pic_tile.specs.Frame.{FrameValue}
use Rattle.pic_tile.specs.Tiling.{cells_of, grid_of_tiling}
use Rattle.pic_step.proofs.PlasmaLaws.{no_forces}
use Rattle.pic_step.proofs.plasma.frame_for.Goals as goal

pub new-requires : goal.new-requires
new-requires c =
    let m = c.args.map in
    let g = grid_of_tiling m in
    let e = c.in_ok-force_e.ensures in
    let b = c.in_ok-force_b.ensures in
    record {
      e = no_forces g g (layered (cells_of m)) c.in_ok-force_e.force_e refl
          (λ i. record { cells = e.cut.cells i; side = e.cut.side i; parts = e.cut.parts i; values = e.zero i });
      b = no_forces g g (layered (cells_of m)) c.in_ok-force_b.force_b refl
          (λ i. record { cells = b.cut.cells i; side = b.cut.side i; parts = b.cut.parts i; values = b.zero i });
      parts = b.cut.parts ∙ sym e.cut.parts;
    }

pub returns : goal.returns
returns c = record {
  map = ap (λ (f : FrameValue). f.map) c.new.ensures;
  kinds = ap (λ (f : FrameValue). f.kinds) c.new.ensures;
  parts = ap (λ (f : FrameValue). f.force_e.parts) c.new.ensures ∙ c.in_ok-force_e.ensures.cut.parts;
}
