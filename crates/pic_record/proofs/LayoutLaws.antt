-- What of a header the records depend on keeps its limits.
use Rattle.std.proofs.Common.{sym, ◌∙◌, arith}
use Rattle.std.proofs.Math.Nat.{le_trans}
use Rattle.std.proofs.lemmas.Int.{ints}
use Rattle.std.proofs.lemmas.List.{length-map}
use Rattle.std.proofs.lemmas.List.Elements.{All-map, All-from_get_or}
use Rattle.std.proofs.lemmas.List.Sums.{sum-map}
use Rattle.pic_num.specs.declared.motion.Kind.{Kind}
use Rattle.pic_num.specs.Limits.{most_charge}
use Rattle.pic_num.specs.Sizes.{IsAtMost}
use Rattle.pic_num.proofs.VersionLaws.{within_scheme, side_least, side_most}
use Rattle.pic_grid.specs.Species.{HeadView, no_head, IsKind}
use Rattle.pic_energy.specs.Energies.{HasMass}
use Rattle.pic_header.specs.Header.{HeaderView, IsHeader}
use Rattle.pic_record.specs.Layout.{IsLayout, layout_of}

mass_of_kind : (k : Kind) → IsKind k → HasMass k
mass_of_kind k kind = record { least = kind.mass_low; most = kind.mass_high }

charge_of_kind : (k : Kind) → IsKind k → IsAtMost k.charge most_charge
charge_of_kind k kind =
    let low = kind.charge_low in
    let high = kind.charge_high in
    record { size = omega (arith, ints, low, high) }

pub layout_fits : (h : HeaderView) → IsHeader h → IsLayout (layout_of h)
layout_fits h are =
    let heads = are.limits.heads in
    let kinds = length-map h.species (λ s. s.kind) in
    let counts = length-map h.species (λ s. s.count) in
    let few = heads.few in
    let version = h.version in
    let sides = are.limits.grid.sides in
    let total = heads.total in
    let scheme = within_scheme version in
    let sums = sum-map (λ (s : HeadView). s.count) h.species in
    record {
      cells = are.cells;
      side_least = side_least version h.side sides;
      side_most = side_most version h.side sides;
      steps = are.limits.steps_most;
      every_least = are.limits.every_least;
      every_most = are.limits.every_most;
      filter = le_trans are.limits.filter scheme.filter;
      masses = All-map HasMass (λ (s : HeadView). s.kind) h.species (All-from_get_or (λ (s : HeadView). HasMass s.kind) h.species no_head
          (λ i below. mass_of_kind _ (heads.kinds i below)));
      charges = All-map (λ (k : Kind). IsAtMost k.charge most_charge) (λ (s : HeadView). s.kind) h.species (All-from_get_or
          (λ (s : HeadView). IsAtMost s.kind.charge most_charge) h.species no_head (λ i below. charge_of_kind _ (heads.kinds i below)));
      species = kinds ∙ sym counts;
      few = omega (arith, counts, few);
      total = omega (arith, sums, total, scheme.particles);
    }
