use Rattle.std.proofs.Common.{◌≡◌, sym, ◌∙◌, subst}
use Rattle.std.proofs.lemmas.Result.{IfOk-weaker}
use Rattle.pic_step.specs.Sound.{IsSound}
use Rattle.pic_step.specs.Start.{begun, world_in_frame}
use Rattle.pic_step.specs.StateView.{StateView}
use Rattle.pic_step.proofs.state.State.from_frame.Goals as goal

pub from_frame-requires : goal.from_frame-requires
from_frame-requires c = record { e_cells = c.requires.e_cells; b_cells = c.requires.b_cells }

pub begin-requires-clause-sound : goal.begin-requires-clause-sound
begin-requires-clause-sound c = subst IsSound (sym c.in_ok-from_frame.ensures.start) c.requires.sound

pub begin-requires-clause-cut : goal.begin-requires-clause-cut
begin-requires-clause-cut c = c.in_ok-from_frame.ensures.cut

pub returns : goal.returns
returns c =
    let start = c.in_ok-from_frame.field-0 in
    record {
      world = IfOk-weaker c.begin.result (λ (s : StateView). s.world ≡ begun start)
          (λ (s : StateView). s.world ≡ world_in_frame c.args.setup.now c.args.step c.args.frame.now)
          (λ s same. same ∙ c.in_ok-from_frame.ensures.start) c.begin.ensures.world;
      map = IfOk-weaker c.begin.result (λ (s : StateView). s.map ≡ start.setup.map) (λ (s : StateView). s.map ≡ c.args.setup.now.map)
          (λ s same. same ∙ c.in_ok-from_frame.ensures.map) c.begin.ensures.map;
      followed = c.begin.ensures.followed;
    }
