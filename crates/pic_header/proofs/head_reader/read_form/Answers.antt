use Rattle.std.proofs.Common.{arith}
use Rattle.std.proofs.lemmas.Bool.{ne_eqb}
use Rattle.pic_num.proofs.VersionLaws.{within_scheme, side_of_bits}
use Rattle.pic_fields.proofs.ReadLaws.{read_done, read_up_to}
use Rattle.pic_header.specs.HeaderFields.{form_at}
use Rattle.pic_header.proofs.head_reader.read_form.Goals as goal

pub returns-then-version-eq1-clause-reads : goal.returns-then-version-eq1-clause-reads
unfolding form_at
returns-then-version-eq1-clause-reads g c =
    rw (c.of_bits-side.ensures, c.allowance_of.ensures, c.if-version-eq1.true) (record { answer = read_up_to (omega arith) (read_done _ _ _) })

pub returns-then-version-eq1-clause-side : goal.returns-then-version-eq1-clause-side
returns-then-version-eq1-clause-side g c =
    rw (c.of_bits-side.ensures, c.allowance_of.ensures) (side_of_bits c.args.version _ (omega arith) (within_scheme c.args.version).sides)

pub returns-clause-reads : goal.returns-clause-reads
unfolding form_at
returns-clause-reads g c = rw (ne_eqb c.args.version 1 c.if-version-eq1.false) c.read_form_of_2.ensures.reads
