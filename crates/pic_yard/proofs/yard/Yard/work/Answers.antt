use Rattle.std.proofs.Common.{sym, ◌∙◌, ap, subst}
use Rattle.pic_yard.specs.declared.yard.Yard.{Yard}
use Rattle.pic_yard.specs.Claims.{ClaimValue}
use Rattle.pic_yard.specs.Draws.{IsUnworked}
use Rattle.pic_yard.specs.Yards.{opening_of}
use Rattle.pic_yard.proofs.WorkLaws.{work_few, work_own}
use Rattle.pic_yard.proofs.yard.Yard.work.Goals as goal

pub push_tile-requires-clause-few : goal.push_tile-requires-clause-few
push_tile-requires-clause-few c =
    work_few (opening_of c.args.self.now) c.requires.serves.sits.opens (record { number = c.claim.inside.number; held = c.claim.inside.held })
    (subst (λ (x : ClaimValue). IsUnworked (opening_of c.args.self.now) x) (sym c.claim.view_is) c.requires.unworked)

pub push_tile-requires-clause-particles : goal.push_tile-requires-clause-particles
push_tile-requires-clause-particles c =
    work_own (opening_of c.args.self.now) c.requires.serves.sits.opens (record { number = c.claim.inside.number; held = c.claim.inside.held })
    (subst (λ (x : ClaimValue). IsUnworked (opening_of c.args.self.now) x) (sym c.claim.view_is) c.requires.unworked)
    c.self.inside.frame (c.self.invariant.frame_is ∙ ap (λ (y : Yard). (opening_of y).frame) c.self.view_is)
