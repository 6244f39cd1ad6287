use Rattle.std.proofs.Common.{Ok, ap, sym, ◌∙◌, subst}
use Rattle.std.proofs.Math.Nat.{le_trans, le_refl}
use Rattle.pic_num.specs.Limits.{allowance_of}
use Rattle.pic_num.specs.Versions.{IsSideOf}
use Rattle.pic_num.proofs.VersionLaws.{within_scheme, side_of_bits}
use Rattle.pic_walk.proofs.WalkLaws.{goes_on, exits}
use Rattle.pic_settings.proofs.GridLaws.{bits_fit, bits_least, bits_most, side_of_first, side_of_further}
use Rattle.pic_settings.proofs.grid.read_side.Goals as goal

pub of_bits-requires-clause-least : goal.of_bits-requires-clause-least
of_bits-requires-clause-least c = rw c.allowance_of-allowed.ensures (within_scheme c.args.version).least_bits

pub of_bits-requires-clause-most : goal.of_bits-requires-clause-most
of_bits-requires-clause-most c =
    let scheme = within_scheme c.args.version in
    rw c.allowance_of-allowed.ensures (le_trans scheme.sides scheme.greatest_bits)

pub returns-then-version-eq1-clause-walks : goal.returns-then-version-eq1-clause-walks
returns-then-version-eq1-clause-walks c = record {
  answer = side_of_first c.args.version _ c.if-version-eq1.true ∙ ap Ok (sym (rw c.allowance_of-allowed.ensures at c.of_bits.ensures));
}

pub returns-then-version-eq1-clause-allowed : goal.returns-then-version-eq1-clause-allowed
returns-then-version-eq1-clause-allowed c =
    let scheme = within_scheme c.args.version in
    subst (IsSideOf c.args.version) (sym (rw c.allowance_of-allowed.ensures at c.of_bits.ensures))
    (side_of_bits c.args.version (allowance_of c.args.version).least_bits (le_refl _) scheme.sides)

pub need_whole-requires : goal.need_whole-requires
need_whole-requires c = rw (c.from_to-limits.ensures, c.allowance_of-allowed.ensures) (bits_fit c.args.version)

pub returns-in_err-bits-clause-walks : goal.returns-in_err-bits-clause-walks
returns-in_err-bits-clause-walks c =
    rw (side_of_further c.args.version _ c.if-version-eq1.false)
    (exits _ _ c.from_residual.ensures.1 (rw (c.from_to-limits.ensures, c.allowance_of-allowed.ensures) at c.in_err-bits.ensures.walks))

pub returns-clause-walks : goal.returns-clause-walks
returns-clause-walks c =
    rw (side_of_further c.args.version _ c.if-version-eq1.false)
    (goes_on _ _ _ (rw (c.from_to-limits.ensures, c.allowance_of-allowed.ensures) at c.in_ok-bits.ensures.walks.answer)
    (record { answer = ap Ok (sym c.of_bits-2.ensures) }))

pub of_bits-requires-2-clause-least : goal.of_bits-requires-2-clause-least
of_bits-requires-2-clause-least c =
    let inside = rw (c.from_to-limits.ensures, c.allowance_of-allowed.ensures) at c.in_ok-bits.ensures.bounds in
    le_trans (within_scheme c.args.version).least_bits (bits_least c.args.version _ inside)

pub of_bits-requires-2-clause-most : goal.of_bits-requires-2-clause-most
of_bits-requires-2-clause-most c =
    let inside = rw (c.from_to-limits.ensures, c.allowance_of-allowed.ensures) at c.in_ok-bits.ensures.bounds in
    le_trans (bits_most c.args.version _ inside) (within_scheme c.args.version).greatest_bits

pub returns-clause-allowed : goal.returns-clause-allowed
returns-clause-allowed c =
    let inside = rw (c.from_to-limits.ensures, c.allowance_of-allowed.ensures) at c.in_ok-bits.ensures.bounds in
    subst (IsSideOf c.args.version) (sym c.of_bits-2.ensures)
    (side_of_bits c.args.version c.in_ok-bits.bits (bits_least c.args.version _ inside) (bits_most c.args.version _ inside))
