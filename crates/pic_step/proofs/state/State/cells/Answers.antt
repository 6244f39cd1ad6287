use Rattle.std.proofs.Common.{ap, ◌∙◌, subst}
use Rattle.pic_block.specs.Cells.{Grid}
use Rattle.pic_tile.specs.Tiling.{grid_of_tiling}
use Rattle.pic_step.specs.Sound.{IsSound}
use Rattle.pic_step.specs.StateView.{StateView}
use Rattle.pic_step.proofs.state.State.cells.Goals as goal

pub returns : goal.returns
returns c =
    let grid = c.cells.ensures ∙ ap grid_of_tiling c.map.ensures.value in
    record {
      value = ap (λ (g : Grid). g.n) grid ∙ ap (λ (v : StateView). v.world.cells) c.self.view_is;
      side = ap (λ (g : Grid). g.side) grid ∙ ap (λ (v : StateView). v.world.side) c.self.view_is;
      sound = subst (λ (v : StateView). IsSound v.world) c.self.view_is c.self.invariant.sound;
    }
