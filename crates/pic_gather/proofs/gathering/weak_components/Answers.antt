use Rattle.std.proofs.Common.{◌≡◌, ℕ, ℤ, refl, ap, subst, sym, ◌∙◌, to_z, of_z}
use mir.Val.{SFits}
use Rattle.std.proofs.lemmas.Int.{to_z-of_z}
use Rattle.pic_num.specs.Sizes.{IsAtMost}
use Rattle.pic_grid.specs.Lattice.{Field}
use Rattle.pic_grid.specs.Pair.{IsPair}
use Rattle.pic_grid.specs.declared.pair.Pair.{Pair}
use Rattle.pic_gather.specs.Weak.{AreWeakLayers, IsWeak}
use Rattle.pic_gather.proofs.WordLaws.{x_is, y_is, z_is, gathers}
use Rattle.pic_gather.proofs.gathering.weak_components.Goals as goal
use mir.Syntax.{w64}

-- the layers of a pair of a weak lattice are weak
weak_layers : (f : Field) (z : Pair) → IsWeak f → IsPair f.side f.cells.z z → AreWeakLayers f z
weak_layers f z weak pair = record { few = weak.few; low = weak.layers z.low pair.low; high = weak.layers z.high pair.high }

pub layered_component-requires-2-clause-weak : goal.layered_component-requires-2-clause-weak
layered_component-requires-2-clause-weak c = λ _. weak_layers c.args.force.now c.args.others.z c.requires.weak c.requires.others.z

pub layered_component-requires-3-clause-weak : goal.layered_component-requires-3-clause-weak
layered_component-requires-3-clause-weak c = λ _. weak_layers c.args.force.now c.args.own.z c.requires.weak c.requires.own.z

-- Each component is the force's there.

pub returns-in_err-in_x-clause-some : goal.returns-in_err-in_x-clause-some
returns-in_err-in_x-clause-some c = λ a b p at_own at_others most.
    let r = c.layered_component in
    let is =
    x_is c.args.force.now c.args.own c.args.others a b p at_own at_others r.result
    (record { fits = record { sfits = r.type_inv }; value = r.ensures.value })
    in
    absurd (let some = c.in_err-in_x.ensures.some.1 (subst (λ z. IsAtMost z c.args.most) (sym is) most.x) in cc)

pub returns-in_err-in_y-clause-some : goal.returns-in_err-in_y-clause-some
returns-in_err-in_y-clause-some c = λ a b p at_own at_others most.
    let r = c.layered_component-2 in
    let is =
    y_is c.args.force.now c.args.own c.args.others a b p at_own at_others r.result
    (record { fits = record { sfits = r.type_inv }; value = r.ensures.value })
    in
    absurd (let some = c.in_err-in_y.ensures.some.1 (subst (λ z. IsAtMost z c.args.most) (sym is) most.y) in cc)

pub returns-in_err-in_z-clause-some : goal.returns-in_err-in_z-clause-some
returns-in_err-in_z-clause-some c = λ a b p at_own at_others most.
    let r = c.layered_component-3 in
    let is =
    z_is c.args.force.now c.args.own c.args.others a b p at_own at_others r.result
    (record { fits = record { sfits = r.type_inv }; value = r.ensures.value })
    in
    absurd (let some = c.in_err-in_z.ensures.some.1 (subst (λ z. IsAtMost z c.args.most) (sym is) most.z) in cc)

-- a number that is a word's is that word
kept : (r z : ℤ) → SFits w64 r → z ≡ to_z w64 (of_z w64 r) → to_z w64 (of_z w64 z) ≡ to_z w64 (of_z w64 r)
kept r z fits is = ap (λ n. to_z w64 (of_z w64 n)) (is ∙ to_z-of_z w64 r (record { sfits = fits.sfits }))

-- and as large
as_large : (r z : ℤ) (most : ℕ) → SFits w64 r → z ≡ to_z w64 (of_z w64 r) → IsAtMost (to_z w64 (of_z w64 r)) most → IsAtMost (to_z w64 (of_z w64 z)) most
as_large r z most fits is small = subst (λ n. IsAtMost n most) (sym (kept r z fits is)) small

pub returns-clause-value : goal.returns-clause-value
returns-clause-value c = λ a b p at_own at_others.
    let x = c.layered_component in
    let y = c.layered_component-2 in
    let z = c.layered_component-3 in
    let held_x = kept x.result c.in_ok-in_x.in_x (record { sfits = x.type_inv }) c.in_ok-in_x.ensures.value in
    let held_y = kept y.result c.in_ok-in_y.in_y (record { sfits = y.type_inv }) c.in_ok-in_y.ensures.value in
    let held_z = kept z.result c.in_ok-in_z.in_z (record { sfits = z.type_inv }) c.in_ok-in_z.ensures.value in
    (λ i. record { x = held_x i; y = held_y i; z = held_z i })
    ∙ gathers c.args.force.now c.args.own c.args.others x.result y.result z.result
    (record { fits = record { sfits = x.type_inv }; value = x.ensures.value })
    (record { fits = record { sfits = y.type_inv }; value = y.ensures.value })
    (record { fits = record { sfits = z.type_inv }; value = z.ensures.value })
    a b p at_own at_others

pub returns-clause-size : goal.returns-clause-size
returns-clause-size c =
    let x = c.layered_component in
    let y = c.layered_component-2 in
    let z = c.layered_component-3 in
    record {
      x = as_large x.result c.in_ok-in_x.in_x c.args.most (record { sfits = x.type_inv }) c.in_ok-in_x.ensures.value (c.in_ok-in_x.ensures.some.0 refl);
      y = as_large y.result c.in_ok-in_y.in_y c.args.most (record { sfits = y.type_inv }) c.in_ok-in_y.ensures.value (c.in_ok-in_y.ensures.some.0 refl);
      z = as_large z.result c.in_ok-in_z.in_z c.args.most (record { sfits = z.type_inv }) c.in_ok-in_z.ensures.value (c.in_ok-in_z.ensures.some.0 refl);
    }
