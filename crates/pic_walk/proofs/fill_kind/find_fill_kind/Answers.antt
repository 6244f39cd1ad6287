use Rattle.std.proofs.Common.{◌≡◌, List, refl, sym, Err, subst, ◌∙◌, arith, ◌<◌, ◌≤◌, length}
use Rattle.std.specs.Prelude.{codes}
use Rattle.toml.specs.View.{table_view}
use Rattle.pic_walk.specs.declared.fault.Fault.TheVariants.{Missing}
use Rattle.pic_walk.specs.Path.{key_at}
use Rattle.pic_walk.specs.declared.fill_kind.FillKind.{FillKind}
use Rattle.pic_walk.specs.FillKind.{only}
use Rattle.pic_walk.specs.Walk.{WalksAs}
use Rattle.pic_walk.proofs.WalkLaws.{refuses}
use Rattle.pic_walk.proofs.FillKindLaws.{only_here, only_next, only_none, rest}
use Rattle.pic_walk.proofs.fill_kind.find_fill_kind.Goals as goal

pub returns-then-has : goal.returns-then-has
returns-then-has c =
    let all = c.sources-all.result.now in
    let below : c.loop-i.i < length all = omega arith in
    subst (λ (ss : List FillKind). WalksAs (λ (s : FillKind). s) (only c.args.path.now (table_view c.args.table.now) ss) c.alone.result)
    c.sources-all.ensures
    (rw (c.loop-i.invariant ∙ only_here _ _ all c.loop-i.i _ below (sym c.if-has.ensures))
    (rw (c.first_there-further.ensures, rest (length all) all c.loop-i.i refl) at c.alone.ensures))

pub loop-i-preserved : goal.loop-i-preserved
loop-i-preserved c =
    let all = c.sources-all.result.now in
    let below : c.loop-i.i < length all = omega arith in
    c.loop-i.invariant ∙ only_next _ _ all c.loop-i.i _ below (sym c.if-has.ensures)

pub returns : goal.returns
returns c =
    let all = c.sources-all.result.now in
    let out : length all ≤ c.loop-i.i = omega arith in
    refuses _ _ _ (rw c.new.ensures.path at c.missing_fault.ensures)
    (subst (λ (ss : List FillKind). only c.args.path.now (table_view c.args.table.now) ss ≡ Err (Missing (key_at c.args.path.now (codes "points"))))
    c.sources-all.ensures (c.loop-i.invariant ∙ only_none _ _ all c.loop-i.i out))
