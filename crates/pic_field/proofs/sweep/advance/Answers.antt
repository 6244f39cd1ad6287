use Rattle.std.proofs.Common.{Option, sym, ◌∙◌, ap}
use Rattle.pic_num.specs.Push.{unless}
use Rattle.pic_num.specs.Space.{unwrapped}
use Rattle.pic_block.specs.Block.{edge_at}
use Rattle.pic_grid.specs.declared.stop.Stop.{Stop}
use Rattle.pic_field.specs.FieldPhases.{most_lessened}
use Rattle.pic_field.specs.Lines.{OnStrip}
use Rattle.pic_field.specs.Sweeps.{sweep_cells}
use Rattle.pic_field.proofs.CalmLaws.{all_small, calm_none, new_stop, own_values}
use Rattle.pic_field.proofs.FaultLaws.{bounded_on_ok}
use Rattle.pic_field.proofs.sweep.advance.Goals as goal

pub sweep_strips-requires-clause-small : goal.sweep_strips-requires-clause-small
sweep_strips-requires-clause-small c =
    all_small most_lessened (OnStrip 0 c.args.b.now.size.y) c.args.b.now (sweep_cells c.args.step.now) c.requires.among c.requires.small

pub returns-then-sweep_strips-clause-stop : goal.returns-then-sweep_strips-clause-stop
returns-then-sweep_strips-clause-stop c = λ f values.
    let none = calm_none c.args.phase c.args.force f c.args.b.now c.sweep_strips.new.b (sweep_cells c.args.step.now) c.requires.among
    c.sweep_strips.ensures.changed.shaped values c.args.step.now.most (c.sweep_strips.ensures.calm c.if-sweep_strips.true) c.requires.safe in
    ap (λ (o : Option Stop). unless o tt) (sym none)

pub returns-clause-stop : goal.returns-clause-stop
returns-clause-stop c = λ f values.
    c.stop_in.ensures
    ∙ ap (λ (o : Option Stop). unless o tt)
    (new_stop c.args.phase c.args.force f c.args.b.now c.sweep_strips.new.b (sweep_cells c.args.step.now) c.requires.among
    c.sweep_strips.ensures.changed.shaped values)

pub returns-clause-bounded : goal.returns-clause-bounded
returns-clause-bounded c =
    let old = c.args.b.now in
    let new = c.sweep_strips.new.b in
    let shaped = c.sweep_strips.ensures.changed.shaped in
    let values = own_values old new (sweep_cells c.args.step.now) c.requires.among shaped in
    bounded_on_ok c.args.phase c.args.force (λ a p. edge_at new a (unwrapped p)) old new c.stop_in.result shaped.low shaped.size (λ a p w. values a p)
    (returns-clause-stop c (λ a p. edge_at new a (unwrapped p)) (λ a p w. values a p))
