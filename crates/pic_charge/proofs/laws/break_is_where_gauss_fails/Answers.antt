use Rattle.std.proofs.Common.{sym, ◌∙◌}
use Rattle.pic_grid.specs.Differences.{div_e}
use Rattle.pic_grid.specs.Lattice.{value_at}
use Rattle.pic_charge.specs.Charge.{rho_of}
use Rattle.pic_charge.proofs.BreakLaws.{first_break_some, first_break-charge}
use Rattle.pic_charge.proofs.laws.break_is_where_gauss_fails.Goals as goal

pub returns : goal.returns
returns c = λ side filter n kinds particles e rho b charges found.
    let div = div_e n (value_at e) in
    first_break_some n div (rho_of side filter n kinds particles) b (sym (first_break-charge side filter n kinds particles div rho charges) ∙ found)
