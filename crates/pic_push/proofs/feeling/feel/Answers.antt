use Rattle.std.proofs.Common.{◌≡◌, ◌∙◌, subst}
use Rattle.std.proofs.lemmas.List.{get_or_read}
use Rattle.pic_num.specs.Push.{Shift, Halting, pushed}
use Rattle.pic_num.specs.Space.{triple, spot}
use Rattle.std.specs.Prelude.{Result, Ok, IfSome}
use Rattle.pic_grid.specs.Lattice.{value_at}
use Rattle.pic_grid.specs.Gather.{gathered_b}
use Rattle.pic_grid.specs.PushPhase.{no_kind, kind_of, push_of}
use Rattle.pic_boris.specs.Pushes.{shift_of}
use Rattle.pic_grid.specs.Felt.{felt}
use Rattle.pic_push.proofs.feeling.feel.Goals as goal

pub returns-clause-pushed : goal.returns-clause-pushed
unfolding push_of
returns-clause-pushed c =
    let particle = c.args.particle.now in
    let kinds = c.args.kinds.now in
    let b = c.args.force_b.now in
    let number = particle.species in
    let kind : c.index-kinds-particle.result ≡ kind_of kinds particle =
    get_or_read kinds number c.index-kinds-particle.result c.requires.can.species c.index-kinds-particle.is no_kind in
    let at_e = c.in_ok-e.ensures.e in
    let at_b = c.in_ok-e.ensures.b ∙ (λ i. gathered_b (c.requires.sides i) (c.requires.cells i) (value_at b) (triple particle.x)) in
    let told : pushed c.args.sub (spot particle.v) (spot c.in_ok-e.field-0.e) (spot c.in_ok-e.field-0.b)
    c.index-kinds-particle.result.kick c.index-kinds-particle.result.turn
    ≡ push_of (felt kinds c.args.force_e.now b) particle =
    λ i. pushed (c.requires.side i) (spot particle.v) (at_e i) (at_b i) (kind i).kick (kind i).turn in
    subst (λ (r : Result Shift Halting). IfSome c.push_narrow.result (λ m. r ≡ Ok (shift_of m))) told c.push_narrow.ensures.pushed
