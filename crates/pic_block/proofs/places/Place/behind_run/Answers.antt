use Rattle.std.proofs.Common.{◌≡◌, ◌+◌, ◌-◌, ◌*◌, ◌<◌, sym, ◌∙◌, subst, arith}
use Rattle.pic_block.proofs.RowLaws.{place_of-along}
use Rattle.pic_num.specs.Space.{triple}
use Rattle.pic_block.specs.Cells.{count_of, place_of}
use Rattle.pic_block.proofs.places.Place.behind_run.Goals as goal

pub returns-clause-number : goal.returns-clause-number
returns-clause-number c =
    let n = triple c.args.size in
    let a = c.args.self.axis in
    let p = triple c.args.self.inner in
    let some = c.requires.some in
    let last = place_of-along n a p (c.args.len - 1) in
    let same : place_of n a (record p { x = p.x + (c.args.len - 1) }) + 1 ≡ place_of n a p + c.args.len = omega (arith, some, last) in
    λ h. c.following.ensures.number (subst (λ k. k < 3 * count_of n) (sym same) h) ∙ same
