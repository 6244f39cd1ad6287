use Rattle.std.proofs.Common.{arith}
use Rattle.pic_num.proofs.VersionLaws.{within_scheme}
use Rattle.pic_walk.proofs.bounds.widest_gap.Goals as goal

pub along-requires-clause-some : goal.along-requires-clause-some
along-requires-clause-some c = rw (c.allowance_of.ensures, c.version.ensures) (omega (arith, (within_scheme c.args.terms.version).fewest))

pub along-requires-clause-few : goal.along-requires-clause-few
along-requires-clause-few c = rw (c.allowance_of.ensures, c.version.ensures) (within_scheme c.args.terms.version).cells

pub returns-clause-value : goal.returns-clause-value
returns-clause-value c = rw (c.allowance_of.ensures, c.version.ensures, c.sub.ensures, c.cells.ensures) at c.along.ensures.value
