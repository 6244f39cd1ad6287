use Rattle.std.proofs.Common.{◌≡◌, length, sym, ◌∙◌, subst}
use Rattle.std.proofs.lemmas.Bool.{eqb-true}
use Rattle.pic_num.specs.Space.{triple, spot}
use Rattle.pic_block.specs.Block.{BlockValues, AllAtMost}
use Rattle.pic_block.proofs.BlockLayerLaws.{no_layers, zeros_add_none, all_numbers}
use Rattle.pic_block.proofs.block.Block.add_layers.Goals as goal

pub returns-then-is_blank-clause-values : goal.returns-then-is_blank-clause-values
returns-then-is_blank-clause-values c =
    zeros_add_none c.args.self.now c.args.from.now (triple c.args.offset) (c.is_blank.ensures c.if-is_blank.true)

pub returns-then-is_empty-clause-values : goal.returns-then-is_empty-clause-values
returns-then-is_empty-clause-values c =
    let none : length c.from.inside.values.items ≡ 0 = sym c.from.inside.values.ok.0 ∙ eqb-true _ _ (sym c.if-is_empty.ensures) in
    no_layers c.args.self.now c.args.from.now (triple c.args.offset) (subst (λ (b : BlockValues). length b.values ≡ 0) c.from.view_is none)

pub add_values-requires-clause-room : goal.add_values-requires-clause-room
add_values-requires-clause-room c =
    let b : BlockValues = record { low = spot c.self.inside.zone.low; size = triple c.self.inside.zone.size; values = c.self.inside.values.items } in
    all_numbers b _ _ c.as_mut_slice.ensures.value c.self.invariant.long (subst (AllAtMost _) (sym c.self.view_is) c.requires.room)

pub add_values-requires-clause-small : goal.add_values-requires-clause-small
add_values-requires-clause-small c =
    let b : BlockValues = record { low = spot c.from.inside.zone.low; size = triple c.from.inside.zone.size; values = c.from.inside.values.items } in
    all_numbers b _ _ c.as_slice.ensures.value c.from.invariant.long (subst (AllAtMost _) (sym c.from.view_is) c.requires.small)
