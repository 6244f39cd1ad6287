use Rattle.std.proofs.Common.{ap, ◌∙◌}
use Rattle.pic_energy.specs.Energies.{kinetic_sum, energies_of}
use Rattle.pic_energy.proofs.summing.energies.Goals as goal

pub returns : goal.returns
unfolding energies_of
returns c =
    let kinetic = c.kinetic.ensures ∙ ap (kinetic_sum c.args.kinds.now) c.deref.ensures.value in
    λ i. record { kinetic = kinetic i; electric = c.squares.ensures i; magnetic = c.squares-2.ensures i }
