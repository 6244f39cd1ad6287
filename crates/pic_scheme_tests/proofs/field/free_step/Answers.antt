use Rattle.std.proofs.Common.{◌^◌, arith}
use Rattle.pic_block.proofs.BlockLaws.{all_at_most_more}
use Rattle.pic_field.specs.FieldPhases.{most_lessened}
use Rattle.pic_scheme_tests.proofs.field.free_step.Goals as goal

pub free_e_in-answer-requires-clause-e_small : goal.free_e_in-answer-requires-clause-e_small
free_e_in-answer-requires-clause-e_small c = all_at_most_more c.in_ok-e.e (2 ^ 90) most_lessened (omega arith) c.in_ok-e.ensures.small
