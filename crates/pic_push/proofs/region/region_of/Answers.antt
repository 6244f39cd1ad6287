use Rattle.std.proofs.Common.{◌≡◌, ℕ, ◌+◌, ◌*◌, refl, rules, arith}
use Rattle.pic_num.specs.declared.axis.Axis.TheVariants.{X, Y, Z}
use Rattle.pic_num.specs.Space.{triple, spot}
use Rattle.pic_tile.specs.Directions.{here}
use Rattle.pic_push.specs.Region.{IsInner, IsLastOn, IsLevel, up_on, up_beside}
use Rattle.pic_push.proofs.RegionLaws.{AreUpTo, up_to, by_number, as_held}
use Rattle.pic_push.proofs.region.region_of.Goals as goal
use Rattle.pic_push.proofs.region.region_of.Goals.{After-level_on-z}

-- what the levels on the axes say
placed : (c : After-level_on-z) (last : ℕ) → AreUpTo here last → c.level_on-x.result + 3 * c.level_on-y.result + 9 * c.level_on-z.result + here ≡ last
    → IsLastOn last (spot c.args.zone.low) (triple c.args.zone.size) (spot c.args.cell)
placed c last to is =
    let low = spot c.args.zone.low in
    let n = triple c.args.zone.size in
    let cell = spot c.args.cell in
    by_number last low n cell c.level_on-x.result c.level_on-y.result c.level_on-z.result to
    (as_held (λ l e. IsLevel l n.x e c.level_on-x.result) low.x cell.x (search rules) (search rules) c.level_on-x.ensures)
    (as_held (λ l e. IsLevel l n.y e c.level_on-y.result) low.y cell.y (search rules) (search rules) c.level_on-y.ensures)
    (as_held (λ l e. IsLevel l n.z e c.level_on-z.result) low.z cell.z (search rules) (search rules) c.level_on-z.ensures) is

pub returns-then-is_before_last-3 : goal.returns-then-is_before_last-3
returns-then-is_before_last-3 c =
    let low = spot c.args.zone.low in
    let n = triple c.args.zone.size in
    let cell = spot c.args.cell in
    record {
      x = as_held (λ l e. IsInner l n.x e) low.x cell.x (search rules) (search rules) (c.is_before_last.ensures c.if-is_before_last.true);
      y = as_held (λ l e. IsInner l n.y e) low.y cell.y (search rules) (search rules)
          (c.is_before_last-then-is_before_last.ensures c.if-is_before_last-2.true);
      z = as_held (λ l e. IsInner l n.z e) low.z cell.z (search rules) (search rules)
          (c.is_before_last-then-is_before_last-2.ensures c.if-is_before_last-3.true);
    }

pub returns-in-0 : goal.returns-in-0
returns-in-0 c = placed (goal.at.returns-in-0 c).After-level_on-z here (up_to here here refl refl refl) (omega (arith, c.in-0.is))

pub returns-in-1 : goal.returns-in-1
returns-in-1 c = placed (goal.at.returns-in-1 c).After-level_on-z (up_on X) (up_to here (up_on X) refl refl refl) (omega (arith, c.in-1.is))

pub returns-in-3 : goal.returns-in-3
returns-in-3 c = placed (goal.at.returns-in-3 c).After-level_on-z (up_on Y) (up_to here (up_on Y) refl refl refl) (omega (arith, c.in-3.is))

pub returns-in-9 : goal.returns-in-9
returns-in-9 c = placed (goal.at.returns-in-9 c).After-level_on-z (up_on Z) (up_to here (up_on Z) refl refl refl) (omega (arith, c.in-9.is))

pub returns-in-12 : goal.returns-in-12
returns-in-12 c = placed (goal.at.returns-in-12 c).After-level_on-z (up_beside X) (up_to here (up_beside X) refl refl refl) (omega (arith, c.in-12.is))

pub returns-in-10 : goal.returns-in-10
returns-in-10 c = placed (goal.at.returns-in-10 c).After-level_on-z (up_beside Y) (up_to here (up_beside Y) refl refl refl) (omega (arith, c.in-10.is))

pub returns-in-4 : goal.returns-in-4
returns-in-4 c = placed (goal.at.returns-in-4 c).After-level_on-z (up_beside Z) (up_to here (up_beside Z) refl refl refl) (omega (arith, c.in-4.is))
