use Rattle.std.proofs.Common.{Option, Err, sym, ap, ◌∙◌, rules}
use Rattle.std.proofs.Math.IntN.{ℤ, pos}
use Rattle.std.specs.Prelude.{codes, neg_ℤ}
use Rattle.std.proofs.lemmas.Int.{to_z-of_z}
use mir.Syntax.{w128}
use mir.Val.{SFits}
use Rattle.pic_num.specs.Limits.{most_force}
use Rattle.pic_walk.specs.Path.{key_at}
use Rattle.pic_deck.specs.declared.refusal.Refusal.TheVariants.{Limit}
use Rattle.pic_deck.specs.Keys.{force_allowed}
use Rattle.pic_deck.specs.Reading.{as_read}
use Rattle.pic_displace.proofs.displacing.check_force.Goals as goal

pub returns-in-None : goal.returns-in-None
unfolding as_read force_allowed
returns-in-None c =
    ap (λ (o : Option ℤ). as_read (force_allowed (key_at (codes "scale") (codes "e_force")) o)) (sym c.first_strong.ensures ∙ c.in-None.is)

pub returns-in-Some : goal.returns-in-Some
unfolding as_read force_allowed
returns-in-Some c =
    let fits : SFits w128 c.in-Some.value = search rules in
    ap (λ (o : Option ℤ). as_read (force_allowed (key_at (codes "scale") (codes "e_force")) o)) (sym c.first_strong.ensures ∙ c.in-Some.is)
    ∙ (λ t. Err (Limit (sym c.requires.path t) (sym (to_z-of_z w128 _ fits) t) (neg_ℤ (pos most_force)) (pos most_force)))
