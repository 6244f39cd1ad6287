use Rattle.std.proofs.Common.{ap, ◌∙◌}
use Rattle.pic_grid.specs.Differences.{div_e}
use Rattle.pic_grid.specs.Lattice.{value_at, node_at}
use Rattle.pic_filter.specs.Smoothing.{filter_in}
use Rattle.pic_charge.specs.Charge.{rho_of}
use Rattle.pic_charge.specs.ChargeRoom.{RoomView}
use Rattle.pic_charge.specs.Gauss.{first_break}
use Rattle.pic_charge.proofs.BreakLaws.{first_break-charge}
use Rattle.pic_charge.proofs.RoomLaws.{plain_charge, smooth_charge}
use Rattle.pic_charge.proofs.room.ChargeRoom.find_break.Goals as goal
use Rattle.pic_charge.proofs.room.ChargeRoom.find_break.Goals.{in-None, in-Some}

pub returns-clause-value : goal.returns-clause-value
returns-clause-value c =
    let g = c.self.inside.cells in
    let filter = filter_in c.self.inside.smooth in
    let kinds = c.args.kinds.now in
    let particles = c.args.particles.now in
    let div = div_e g.n (value_at c.args.e.now) in
    let seen = ap (λ (v : RoomView). first_break v.grid.n (div_e v.grid.n (value_at c.args.e.now)) (rho_of v.grid.side v.filter v.grid.n kinds particles))
    c.self.view_is in
    elim c.match-self.branch [
      | in-None w ↦ w.result-is ∙ w.gauss.ensures.value
          ∙ first_break-charge g.side filter g.n kinds particles div (node_at c.charge_by.new.to)
          (plain_charge g.side filter g.n kinds particles (node_at c.charge_by.new.to) (ap filter_in w.in-None.is) c.charge_by.ensures.values)
          ∙ seen
      | in-Some w ↦ w.result-is ∙ w.gauss-in-Some.ensures.value
          ∙ first_break-charge g.side filter g.n kinds particles div (node_at w.smooth_nodes.new.to)
          (smooth_charge g.side filter g.n kinds particles (node_at c.charge_by.new.to) (node_at w.smooth_nodes.new.to) (ap filter_in w.in-Some.is)
          c.charge_by.ensures.values w.smooth_nodes.ensures.values)
          ∙ seen
    ]
