use Rattle.std.proofs.Common.{◌≡◌, ℕ, ◌*◌, ◌^◌, ◌≤◌, [], ◌∷◌, ap, ◌∙◌, sym, subst, rules, arith}
use Rattle.std.proofs.Math.IntN.{ℤ, pos, ◌+ℤ◌}
use Rattle.std.proofs.lemmas.Int.{ints, to_z-of_z}
use Rattle.std.specs.Prelude.{◌<ℤ◌}
use mir.Syntax.{w32}
use mir.Val.{SFits, to_z, of_z}
use Rattle.pic_num.specs.Limits.{most_side, most_cells_of_axis}
use Rattle.pic_num.specs.Rounding.{residue}
use Rattle.pic_num.specs.Space.{triple, spot}
use Rattle.pic_block.specs.Among.{IsOneOf}
use Rattle.pic_grid.specs.PushPhase.{moved}
use Rattle.pic_push.proofs.StayLaws.{as_it_was, no_large}
use Rattle.pic_push.proofs.moves.moved_within.Goals as goal

-- on one axis, where the code holds the move

high : (side n at : ℕ) (d : ℤ) → SFits w32 d → side ≤ most_side → n ≤ most_cells_of_axis → IsOneOf (pos 0) (n * side) (pos at +ℤ d)
    → (pos at +ℤ to_z w32 (of_z w32 d)) <ℤ pos (2 ^ 31)
high side n at d fits most few on =
    subst (λ (v : ℤ). (pos at +ℤ v) <ℤ pos (2 ^ 31)) (sym (to_z-of_z w32 d fits)) (no_large side n (pos at +ℤ d) most few on)

wraps : (len at r : ℕ) (d : ℤ) → SFits w32 d → IsOneOf (pos 0) len (pos at +ℤ d) → pos r ≡ pos at +ℤ to_z w32 (of_z w32 d)
    → r ≡ residue (pos at +ℤ d) len
wraps len at r d fits on is =
    let below = on.1 in as_it_was (pos at +ℤ d) len r (is ∙ ap (λ (v : ℤ). pos at +ℤ v) (to_z-of_z w32 d fits)) (omega (arith, ints, below))

pub moved_by-requires-clause-high : goal.moved_by-requires-clause-high
moved_by-requires-clause-high c =
    high c.args.sub c.args.cells.n.x (triple c.args.particle.now.x).x (spot c.args.by.now.d).x (search rules) c.side-side.ensures.most
    c.numbers.ensures.limits.x_most c.requires.to.x

pub moved_by-requires-2-clause-high : goal.moved_by-requires-2-clause-high
moved_by-requires-2-clause-high c =
    high c.args.sub c.args.cells.n.y (triple c.args.particle.now.x).y (spot c.args.by.now.d).y (search rules) c.side-side.ensures.most
    c.numbers.ensures.limits.y_most c.requires.to.y

pub moved_by-requires-3-clause-high : goal.moved_by-requires-3-clause-high
moved_by-requires-3-clause-high c =
    high c.args.sub c.args.cells.n.z (triple c.args.particle.now.x).z (spot c.args.by.now.d).z (search rules) c.side-side.ensures.most
    c.numbers.ensures.limits.z_most c.requires.to.z

pub returns : goal.returns
unfolding moved
returns c =
    let n = c.args.cells.n in
    let side = c.args.sub in
    let at = triple c.args.particle.now.x in
    let d = spot c.args.by.now.d in
    let v = spot c.args.by.now.v in
    let x = wraps (n.x * side) at.x c.moved_by.result d.x (search rules) c.requires.to.x c.moved_by.ensures in
    let y = wraps (n.y * side) at.y c.moved_by-2.result d.y (search rules) c.requires.to.y c.moved_by-2.ensures in
    let z = wraps (n.z * side) at.z c.moved_by-3.result d.z (search rules) c.requires.to.z c.moved_by-3.ensures in
    let vx = to_z-of_z w32 v.x (search rules) in
    let vy = to_z-of_z w32 v.y (search rules) in
    let vz = to_z-of_z w32 v.z (search rules) in
    λ i. record c.args.particle.now { x = x i ∷ y i ∷ z i ∷ []; v = vx i ∷ vy i ∷ vz i ∷ [] }
