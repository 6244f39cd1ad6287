use Rattle.std.proofs.Common.{◌≡◌, zero, suc, ap, ◌∙◌, arith, rules}
use Rattle.std.proofs.Math.IntN.{ℤ, pos, negsuc, ◌-ℤ◌}
use Rattle.std.specs.Prelude.{neg_ℤ}
use Rattle.std.proofs.lemmas.Int.{ints, to_z-of_z}
use Rattle.std.proofs.lemmas.Result.{on_ok_weaker}
use mir.Syntax.{w32, w64, w128}
use mir.Val.{SFits, to_z, of_z}
use Rattle.pic_walk.specs.declared.limits.Limits.{Limits}
use Rattle.pic_walk.specs.Limits.{MeetsLimits, from_to}
use Rattle.pic_deck.specs.Fill.{opposite}
use Rattle.pic_deck.proofs.fill_reader.check_opposite.Goals as goal

opposite_fits : (q : ℤ) → SFits w32 q → SFits w64 (neg_ℤ q)
opposite_fits (pos zero) fits = record { sfits = omega arith }
opposite_fits (pos (suc n)) fits = record { sfits = omega (arith, fits.sfits) }
opposite_fits (negsuc n) fits = record { sfits = omega (arith, fits.sfits) }

-- the limits that allow minus a charge alone
one_limit : (q r : ℤ) (l : Limits) → SFits w32 q → r ≡ to_z w32 (of_z w32 q)
    → l ≡ from_to (to_z w64 (of_z w64 (pos 0 -ℤ to_z w64 (of_z w64 r)))) (to_z w64 (of_z w64 (pos 0 -ℤ to_z w64 (of_z w64 r))))
    → l ≡ from_to (neg_ℤ q) (neg_ℤ q)
one_limit q r l fits is e =
    let is_q : r ≡ q = is ∙ to_z-of_z w32 q fits in
    let wide : SFits w64 q = record { sfits = omega (arith, fits.sfits) } in
    let same : to_z w64 (of_z w64 r) ≡ q = rw is_q (to_z-of_z w64 q wide) in
    let minus : pos 0 -ℤ q ≡ neg_ℤ q = omega (arith, ints) in
    e ∙ ap (λ (z : ℤ). from_to (to_z w64 (of_z w64 (pos 0 -ℤ z))) (to_z w64 (of_z w64 (pos 0 -ℤ z)))) same
    ∙ ap (λ (z : ℤ). from_to (to_z w64 (of_z w64 z)) (to_z w64 (of_z w64 z))) minus
    ∙ ap (λ (z : ℤ). from_to z z) (to_z-of_z w64 (neg_ℤ q) (opposite_fits q fits))

-- a charge, passed on in 128 bits
passed_charge : (q r : ℤ) → SFits w32 q → r ≡ to_z w32 (of_z w32 q) → to_z w128 (of_z w128 r) ≡ q
passed_charge q r fits e =
    let is : r ≡ q = e ∙ to_z-of_z w32 q fits in
    let big : SFits w128 q = record { sfits = omega (arith, fits.sfits) } in
    rw is (to_z-of_z w128 q big)

meets_one : (q z : ℤ) → MeetsLimits (from_to q q) z → z ≡ q
meets_one q z inside = omega (arith, ints, inside.low, inside.high)

pub returns-clause-walks : goal.returns-clause-walks
unfolding opposite
returns-clause-walks c =
    let fits : SFits w32 c.args.other.now.kind.charge = search rules in
    let limits = one_limit c.args.other.now.kind.charge c.from-wanted.result c.new.result fits c.from-wanted.ensures c.new.ensures in
    let value = passed_charge c.args.charge c.from.result c.ranges.charge c.from.ensures in
    rw (limits, c.new-address.ensures.path, value) at c.check_within.ensures.walks

pub returns-clause-is : goal.returns-clause-is
returns-clause-is c =
    let fits : SFits w32 c.args.other.now.kind.charge = search rules in
    let limits = one_limit c.args.other.now.kind.charge c.from-wanted.result c.new.result fits c.from-wanted.ensures c.new.ensures in
    let value = passed_charge c.args.charge c.from.result c.ranges.charge c.from.ensures in
    on_ok_weaker c.check_within.result (meets_one (neg_ℤ c.args.other.now.kind.charge) c.args.charge)
    (rw (limits, value) at c.check_within.ensures.bounds)
