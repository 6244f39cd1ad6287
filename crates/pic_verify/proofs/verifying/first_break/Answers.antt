use Rattle.std.proofs.Common.{length, sym, ap, subst, ◌∙◌, arith}
use Rattle.pic_block.specs.Cells.{IsWithin}
use Rattle.pic_verify.proofs.BreakLaws.{can_share, break_found}
use Rattle.pic_verify.proofs.verifying.first_break.Goals as goal

pub find_break-requires-clause-placed : goal.find_break-requires-clause-placed
find_break-requires-clause-placed c =
    let of = c.requires.room in
    rw (of.side, of.cells, c.kinds.ensures.value, c.deref.ensures.value) (can_share _ _ _ _ c.requires.held)

pub find_break-requires-clause-few : goal.find_break-requires-clause-few
find_break-requires-clause-few c = omega (arith, c.requires.particles, c.requires.limits.total, ap length c.deref.ensures.value)

pub find_break-requires-clause-cells : goal.find_break-requires-clause-cells
find_break-requires-clause-cells c = c.requires.e ∙ sym c.requires.room.cells

pub find_break-requires-clause-most : goal.find_break-requires-clause-most
find_break-requires-clause-most c = λ a p within.
    c.requires.held.electric.values a p (subst (IsWithin p) (c.requires.room.cells ∙ sym c.requires.e) within)

pub returns-clause-value : goal.returns-clause-value
returns-clause-value c =
    break_found c.args.reader.now.layout c.args.room.now c.args.state.now.e c.args.state.now.particles.items c.deref.result.now c.kinds.result.now
    c.find_break.result c.requires.e c.requires.room c.kinds.ensures.value c.deref.ensures.value c.find_break.ensures.value
