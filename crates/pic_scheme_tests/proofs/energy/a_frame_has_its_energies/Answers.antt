use Rattle.std.proofs.Common.{[], ◌∷◌, ◌≤◌, sym, subst, arith}
use Rattle.std.specs.Prelude.{All, unsigned_abs}
use Rattle.std.proofs.lemmas.List.Elements.{All-cons, All-nil}
use Rattle.pic_num.specs.Multiplier.{Multiplier}
use Rattle.pic_energy.specs.Energies.{HasMass, IsOfKinds}
use Rattle.pic_scheme_tests.proofs.energy.a_frame_has_its_energies.Goals as goal

pub energies-requires-clause-species : goal.energies-requires-clause-species
energies-requires-clause-species g c =
    let kinds = c.kind.result ∷ c.kind-2.result ∷ [] in
    let ion = c.particle.result in
    let electron = c.particle-2.result in
    let all = All-cons (IsOfKinds kinds) ion (electron ∷ []) (record { species = omega (arith, c.particle.ensures) })
    (All-cons (IsOfKinds kinds) electron [] (record { species = omega (arith, c.particle-2.ensures) }) (All-nil (IsOfKinds kinds))) in
    subst (All (IsOfKinds kinds)) (sym c.in_ok-vec.ensures.items) all

pub energies-requires-clause-masses : goal.energies-requires-clause-masses
energies-requires-clause-masses g c =
    let ion = c.kind.result in
    let electron = c.kind-2.result in
    All-cons HasMass ion (electron ∷ []) (record { least = omega (arith, c.kind.ensures); most = omega (arith, c.kind.ensures) })
    (All-cons HasMass electron [] (record { least = omega (arith, c.kind-2.ensures); most = omega (arith, c.kind-2.ensures) }) (All-nil HasMass))

pub energies-requires-clause-e_bounded : goal.energies-requires-clause-e_bounded
energies-requires-clause-e_bounded g c =
    c.in_ok-lone_value.ensures c.new-3.result (subst (λ (m : Multiplier). unsigned_abs m.n ≤ 1) (sym c.new-3.ensures) (omega arith))

pub energies-requires-clause-b_bounded : goal.energies-requires-clause-b_bounded
energies-requires-clause-b_bounded g c =
    c.in_ok-lone_value-2.ensures c.new-4.result (subst (λ (m : Multiplier). unsigned_abs m.n ≤ 1) (sym c.new-4.ensures) (omega arith))
