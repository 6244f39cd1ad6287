use Rattle.std.proofs.Common.{sym}
use Rattle.pic_walk.specs.Walk.{table_of}
use Rattle.pic_walk.proofs.WalkLaws.{goes_on, exits_as, refuses, there, lacks, then_err}
use Rattle.pic_walk.proofs.tables.read_table.Goals as goal

pub returns-in_err-check_keys-in-Some : goal.returns-in_err-check_keys-in-Some
unfolding table_of
returns-in_err-check_keys-in-Some c =
    goes_on _ _ _ (there _ _ _ (sym c.in-Some.ensures)) (exits_as _ c.from_residual.ensures.1 c.in_err-check_keys-in-Some.ensures.walks)

pub returns-in_ok-check_keys-in-Some : goal.returns-in_ok-check_keys-in-Some
unfolding table_of
returns-in_ok-check_keys-in-Some c =
    goes_on _ _ _ (there _ _ _ (sym c.in-Some.ensures)) (record { answer = c.in_ok-check_keys-in-Some.ensures.walks.answer })

pub returns-in-None : goal.returns-in-None
unfolding table_of
returns-in-None c = refuses _ _ _ (rw c.requires at c.kind_fault.ensures) (then_err _ _ _ (lacks _ _ (sym c.in-None.ensures)))
