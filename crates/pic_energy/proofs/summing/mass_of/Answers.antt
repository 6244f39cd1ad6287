use Rattle.std.proofs.Common.{◌<◌, length, slice_index_or, ap, sym, ◌∙◌, arith}
use Rattle.std.proofs.lemmas.List.{get_or_read}
use Rattle.pic_num.specs.declared.motion.Kind.{Kind}
use Rattle.pic_grid.specs.PushPhase.{no_kind}
use Rattle.pic_energy.proofs.summing.mass_of.Goals as goal

pub returns-clause-value : goal.returns-clause-value
returns-clause-value c =
    let kinds = c.args.kinds.now in
    let below : c.from.result < length kinds = omega (arith, c.requires.species.species, c.from.ensures) in
    let read = get_or_read kinds c.from.result c.index-kinds-from.result below c.index-kinds-from.is no_kind in
    ap (λ (k : Kind). k.mass) (sym c.index-kinds-from.is ∙ read ∙ ap (λ i. slice_index_or kinds i no_kind) c.from.ensures)
