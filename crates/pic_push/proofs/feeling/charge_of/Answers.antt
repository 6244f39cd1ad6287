use Rattle.std.proofs.Common.{slice_index_or, rules, sym, ap, ◌∙◌, subst}
use Rattle.std.proofs.Math.IntN.{ℤ}
use Rattle.std.proofs.lemmas.Int.{to_z-of_z}
use Rattle.std.proofs.lemmas.List.{get_or_default}
use mir.Syntax.{w32}
use mir.Val.{SFits}
use Rattle.pic_num.specs.Limits.{most_charge}
use Rattle.pic_num.specs.declared.motion.Kind.{Kind}
use Rattle.pic_num.specs.Sizes.{IsAtMost}
use Rattle.pic_grid.specs.PushPhase.{no_kind, kind_of}
use Rattle.pic_grid.proofs.SpeciesLaws.{kind_most}
use Rattle.pic_push.proofs.feeling.charge_of.Goals as goal

pub returns-clause-value : goal.returns-clause-value
returns-clause-value c =
    let kind = slice_index_or c.args.kinds.now c.args.particle.now.species c.index-kinds-particle.result in
    let fits : SFits w32 kind.charge = search rules in
    to_z-of_z w32 kind.charge fits
    ∙ ap (λ (k : Kind). k.charge) (get_or_default c.args.kinds.now c.args.particle.now.species c.index-kinds-particle.result no_kind c.requires.species)

pub returns-clause-size : goal.returns-clause-size
returns-clause-size c =
    let kind = kind_of c.args.kinds.now c.args.particle.now in
    let most : IsAtMost kind.charge most_charge = record { size = kind_most kind (c.requires.kinds c.args.particle.now.species no_kind c.requires.species) } in
    subst (λ (v : ℤ). IsAtMost v most_charge) (sym (returns-clause-value c)) most
