use Rattle.std.proofs.Common.{sym, ◌∙◌, ap, arith}
use Rattle.pic_block.specs.Block.{inner_at, outer_of}
use Rattle.pic_num.specs.Limits.{most_value}
use Rattle.pic_block.proofs.BlockLaws.{all_at_most_more}
use Rattle.pic_field.specs.FieldPhases.{half_of, half_in, most_lessened}
use Rattle.pic_field.proofs.CurlLaws.{half_is}
use Rattle.pic_field.proofs.ZoneLaws.{edge_at-outer}
use Rattle.pic_field.proofs.magnetic.half_b_in.Goals as goal

pub advance-requires-clause-small : goal.advance-requires-clause-small
advance-requires-clause-small c = all_at_most_more c.args.b.now most_value most_lessened (omega arith) c.requires.b_small

pub returns-clause-values : goal.returns-clause-values
returns-clause-values c = λ a p w.
    c.advance.ensures.changed.done a p w (record { y_from = omega arith; y_below = w.y })
    ∙ half_is c.args.scales.now c.args.e.now a (outer_of c.args.b.now.low p) (inner_at c.args.b.now a p)

pub returns-clause-stop : goal.returns-clause-stop
returns-clause-stop c =
    c.advance.ensures.stop (half_in c.args.scales.now c.args.e.now c.args.b.now) (λ a p w.
    returns-clause-values c a p w
    ∙ ap (half_of c.args.scales.now c.args.e.now a (outer_of c.args.b.now.low p)) (sym (edge_at-outer c.args.b.now c.args.e.now.cells a p c.requires.among)))
