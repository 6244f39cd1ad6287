use Rattle.std.proofs.Common.{◌≡◌, sym, ap, ◌∙◌, subst}
use Rattle.std.proofs.lemmas.Result.{IfOk-weaker}
use Rattle.pic_deck.specs.Deck.{deck_grid}
use Rattle.pic_tile.specs.Tiling.{tiles_of}
use Rattle.pic_step.specs.SerialRun.{start_of}
use Rattle.pic_step.specs.Sound.{IsSound}
use Rattle.pic_step.specs.Start.{begun}
use Rattle.pic_step.specs.StateView.{StateView}
use Rattle.pic_step.proofs.state.State.new.Goals as goal
use Rattle.pic_step.proofs.state.State.new.Goals.{In_ok-new}

start_is : (c : In_ok-new) → begun c.in_ok-new.field-0 ≡ start_of c.args.deck.now c.args.particles.now
start_is c = c.in_ok-new.ensures.start ∙ ap (start_of c.args.deck.now) c.in_ok-particles.ensures.items

pub begin-requires-clause-sound : goal.begin-requires-clause-sound
begin-requires-clause-sound c = subst IsSound (sym (start_is (goal.at.begin-requires-clause-sound c).In_ok-new)) c.requires

pub begin-requires-clause-cut : goal.begin-requires-clause-cut
begin-requires-clause-cut c = c.in_ok-new.ensures.cut

pub returns : goal.returns
returns c =
    let d = c.args.deck.now in
    let start = c.in_ok-new.field-0 in
    let is = start_is (goal.at.returns c).In_ok-new in
    record {
      world = IfOk-weaker c.begin.result (λ (s : StateView). s.world ≡ begun start) (λ (s : StateView). s.world ≡ start_of d c.args.particles.now)
          (λ s same. same ∙ is) c.begin.ensures.world;
      map = IfOk-weaker c.begin.result (λ (s : StateView). s.map ≡ start.setup.map) (λ (s : StateView). s.map ≡ tiles_of (deck_grid d) d.tiles)
          (λ s same. same ∙ c.in_ok-new.ensures.map) c.begin.ensures.map;
      followed = c.begin.ensures.followed;
    }
