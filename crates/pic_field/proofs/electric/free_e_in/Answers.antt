use Rattle.std.proofs.Common.{pos, sym, ◌∙◌, arith}
use Rattle.pic_block.specs.Block.{inner_at, outer_of}
use Rattle.pic_field.specs.FieldPhases.{full_of, full_in, no_current, no_drive}
use Rattle.pic_field.proofs.CurlLaws.{full_is}
use Rattle.pic_field.proofs.ZoneLaws.{edge_at-outer}
use Rattle.pic_field.proofs.electric.free_e_in.Goals as goal

pub returns-clause-values : goal.returns-clause-values
returns-clause-values c = λ a p w.
    c.advance.ensures.changed.done a p w (record { y_from = omega arith; y_below = w.y })
    ∙ full_is c.args.scales.now c.args.b.now a (outer_of c.args.e.now.low p) (inner_at c.args.e.now a p)

pub returns-clause-stop : goal.returns-clause-stop
returns-clause-stop c =
    c.advance.ensures.stop (full_in c.args.scales.now c.args.b.now no_drive no_current c.args.e.now) (λ a p w.
    let of_e = edge_at-outer c.args.e.now c.args.b.now.cells a p c.requires.among in
    returns-clause-values c a p w ∙ (λ i. full_of c.args.scales.now c.args.b.now no_drive a (outer_of c.args.e.now.low p) (sym of_e i) (pos 0)))
